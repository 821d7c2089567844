-- The cursor over the relocations.
use Rattle.std.proofs.Common.{◌≡◌, ℕ, ◌*◌, ◌<◌, ◌≤◌, List, length, slice_index_or, arith, inl, inr}
use Rattle.code_model.specs.declared.parts.Reloc.{Reloc}
use Rattle.code_model.specs.declared.parts.RelKind.{RelKind}
use Rattle.code_model.specs.declared.object.Object.{Object}
use Rattle.code_model.specs.Form.{InOrder, key}
use Rattle.code_model.specs.Relocs.{HasReloc}
use Rattle.static_checker.specs.declared.cursor.Cursor.{Cursor}
use Rattle.static_checker.specs.Cursors.{IsCursor}
use Rattle.static_checker.proofs.RelocLemmas.{on_word, indexed, key_got, all_above}
use Rattle.std.proofs.lemmas.Bool.{cases_lt}

pub below_at : (relocs : List Reloc) (c : Cursor) (at : ℕ) → IsCursor relocs c → c.at ≡ at → (k : ℕ) (d : Reloc) → k < c.reloc → key (slice_index_or relocs k d) < 2 * at
below_at relocs c at is e k d h = let b : key (slice_index_or relocs k d) < 2 * c.at = is.below k d h in omega arith

pub above_at : (relocs : List Reloc) (c : Cursor) (at : ℕ) → IsCursor relocs c → c.at ≡ at → (k : ℕ) (d : Reloc) → c.reloc ≤ k → k < length relocs → 2 * at ≤ key (slice_index_or relocs k d)
above_at relocs c at is e k d h inside = let b : 2 * c.at ≤ key (slice_index_or relocs k d) = is.above k d h inside in omega arith

-- between two cursors at one relocation there is none
pub no_reloc_between : (o : Object) (c d : Cursor) (k : ℕ) (j : RelKind) → IsCursor o.relocs c → IsCursor o.relocs d → d.reloc ≡ c.reloc → c.at ≤ k → k < d.at → HasReloc o.relocs k j → ⊥
no_reloc_between o c d k j from to same low high has =
    let (i, is) = indexed o.relocs k j has in
    let r : Reloc = on_word k j in
    let e : key (slice_index_or o.relocs i r) ≡ 2 * k = key_got o.relocs k j i r is in
    elim (cases_lt i c.reloc) [
      | inl less ↦ let b : key (slice_index_or o.relocs i r) < 2 * c.at = from.below i r less in omega arith
      | inr more ↦ let b : 2 * d.at ≤ key (slice_index_or o.relocs i r) = to.above i r (omega arith) is.inside in omega arith
    ]

-- where the relocation at an index isn't before the place, none behind is
pub cursor_ends : (relocs : List Reloc) (at index : ℕ) → InOrder relocs → index ≤ length relocs
    → ((k : ℕ) (d : Reloc) → k < index → key (slice_index_or relocs k d) < 2 * at)
    → ((d : Reloc) → index < length relocs → key (slice_index_or relocs index d) < 2 * at → ⊥)
    → IsCursor relocs (record { at = at; reloc = index })
cursor_ends relocs at index rise inside before here = record {
  within = inside;
  below = before;
  above = above;
}
  where
    least : (d : Reloc) → index < length relocs → 2 * at ≤ key (slice_index_or relocs index d)
    least d less = elim (cases_lt (key (slice_index_or relocs index d)) (2 * at)) [ inl b ↦ absurd (here d less b) | inr b ↦ b ]

    above : (k : ℕ) (d : Reloc) → index ≤ k → k < length relocs → 2 * at ≤ key (slice_index_or relocs k d)
    above k d low high = all_above relocs (2 * at) index rise (omega arith) (λ e. least e (omega arith)) k d low high
