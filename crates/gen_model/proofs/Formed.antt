-- A generated object meets the form of objects.
use Rattle.std.proofs.Common.{◌≡◌, ℕ, zero, suc, ◌+◌, ◌*◌, ◌%◌, ◌<◌, ◌≤◌, true, false, List, [], ◌∷◌, ◌++◌, length, slice_index, slice_index_or, Option, None, Some, refl, arith}
use Rattle.code_model.specs.declared.parts.RelKind.{RelKind}
use Rattle.code_model.specs.declared.parts.Reloc.{Reloc}
use Rattle.code_model.specs.Form.{key, InOrder, RelocFits}
use Rattle.code_model.specs.Fields.{Meets}
use Rattle.gen_model.specs.declared.block.Block.{Block}
use Rattle.gen_model.specs.Blocks.{words, second, second_at}
use Rattle.gen_model.specs.Generated.{blocks, code_of, relocs_from, fields_of, generated}
use Rattle.gen_model.specs.Laws.{GeneratedMeetsTheForm}
use Rattle.gen_model.proofs.Sizes.{needed, sized, code_next, code_least, code_most, relocs_most, blocks_many}

-- a relocation of a code word, at an even offset from one offset to before an end
record Here (low end : ℕ) (r : Reloc) : Type 0 where
  least : low ≤ r.offset
  below : r.offset < end
  even : r.offset % 2 ≡ 0
  section : r.in_code ≡ true

-- each behind the one before
abbrev Rising : (low end : ℕ) → List Reloc → Type 0
Rising low end [] = Unit {0}
Rising low end (r ∷ rs) = Here low end r × Rising (r.offset + 1) end rs

rising_from : (low more end : ℕ) (rs : List Reloc) → low ≤ more → Rising more end rs → Rising low end rs
rising_from low more end [] le h = tt
rising_from low more end (r ∷ rs) le h = (record { least = omega (arith, h.0.least); below = h.0.below; even = h.0.even; section = h.0.section }, h.1)

with_second : (at size end : ℕ) (k : Option RelKind) (rs : List Reloc) → needed k ≤ size → at + size ≤ end → Rising (2 * (at + size)) (2 * end) rs
    → Rising (2 * at) (2 * end) (second_at at k ++ rs)
with_second at size end None rs least le h = rising_from (2 * at) (2 * (at + size)) (2 * end) rs (omega arith) h
with_second at size end (Some k) rs least le h = (
  record { least = omega arith; below = omega arith; even = omega arith; section = refl },
  rising_from (2 * (at + 1) + 1) (2 * (at + size)) (2 * end) rs (omega arith) h,
)

rises : (at end : ℕ) (bs : List Block) → at + length (code_of bs) ≤ end → Rising (2 * at) (2 * end) (relocs_from at bs)
unfolding relocs_from
rises at end [] le = tt
rises at end (b ∷ bs) le =
    with_second at (length (words b)) end (second b) (relocs_from (at + length (words b)) bs) (sized b).least (omega (arith, code_next b bs))
    (rises (at + length (words b)) end bs (omega (arith, code_next b bs)))

-- ---- by index

not_both : (r : Reloc) → r.in_code ≡ true → r.in_code ≡ false → ⊥
not_both r h k = cc

code_key : (r : Reloc) → r.in_code ≡ true → key r ≡ r.offset
code_key r e = rw e refl

fit_at : (code : List ℕ) (rs : List Reloc) (low k : ℕ) (d : Reloc) → Rising low (2 * length code) rs → k < length rs → RelocFits code [] (slice_index_or rs k d)
fit_at code [] low k d h below = absurd (omega (arith, below))
fit_at code (r ∷ rs) low zero d h below =
    record { even = h.0.even; in_code = λ e. h.0.below; in_init = λ e. absurd (not_both r h.0.section e); init_kind = λ e. absurd (not_both r h.0.section e) }
fit_at code (r ∷ rs) low (suc k) d h below = fit_at code rs (r.offset + 1) k d h.1 (omega (arith, below))

key_from : (end : ℕ) (rs : List Reloc) (low k : ℕ) (d : Reloc) → Rising low end rs → k < length rs → low ≤ key (slice_index_or rs k d)
key_from end [] low k d h below = absurd (omega (arith, below))
key_from end (r ∷ rs) low zero d h below = omega (arith, code_key r h.0.section, h.0.least)
key_from end (r ∷ rs) low (suc k) d h below = omega (arith, key_from end rs (r.offset + 1) k d h.1 (omega (arith, below)), h.0.least)

in_order : (end : ℕ) (rs : List Reloc) (low : ℕ) → Rising low end rs → InOrder rs
in_order end [] low h j k d less below = absurd (omega (arith, below))
in_order end (r ∷ rs) low h j zero d less below = absurd (omega (arith, less))
in_order end (r ∷ rs) low h zero (suc k) d less below =
    omega (arith, key_from end rs (r.offset + 1) k d h.1 (omega (arith, below)), code_key r h.0.section)
in_order end (r ∷ rs) low h (suc j) (suc k) d less below = in_order end rs (r.offset + 1) h.1 j k d (omega (arith, less)) (omega (arith, below))

-- ---- the form

-- of blocks of which there are some, and not too many
formed : (bs : List Block) → 1 ≤ length bs → length bs ≤ 2048 → ((k : ℕ) → slice_index (code_of bs) k < 65536) → Meets (fields_of bs)
formed bs some few small =
    let rising : Rising (2 * 0) (2 * length (code_of bs)) (relocs_from 0 bs) = rises 0 (length (code_of bs)) bs (omega arith) in
    record {
      version_least = omega arith;
      version_most = omega arith;
      code_least = omega (arith, code_least bs);
      code_most = omega (arith, code_most bs);
      static_most = omega arith;
      app = λ e. record {
        stack_even = omega arith;
        stack_least = omega arith;
        stack_most = omega arith;
        threads_least = omega arith;
        threads_most = omega arith;
        no_exports = refl;
        entry_in_code = record { even = omega arith; below = omega (arith, code_least bs) };
      };
      of_module = λ e. absurd (cc);
      relocs_most = omega (arith, relocs_most 0 bs);
      relocs_fit = λ k d below. fit_at (code_of bs) (relocs_from 0 bs) (2 * 0) k d rising below;
      relocs_rise = in_order (2 * length (code_of bs)) (relocs_from 0 bs) (2 * 0) rising;
      exports_fit = λ k d below. absurd (omega (arith, below));
      exports_small = λ k d below. absurd (omega (arith, below));
      exports_rise = λ j k d less below. absurd (omega (arith, below));
      words_small = small;
      bytes_small = λ k. omega arith;
    }

pub generated_formed : GeneratedMeetsTheForm
unfolding generated
generated_formed n small = formed (blocks n) (omega (arith, blocks_many n)) (omega (arith, blocks_many n)) small
