-- The relocations of code words.
use Rattle.std.proofs.Common.{◌≡◌, ℕ, ◌+◌, ◌≤◌, ◌<◌, nat_lt, if◌then◌else◌, true, false, List, length, take, fold, slice_index_or, Option, None, inl, inr, subst, refl, ap, ◌∙◌, arith, rules}
use Rattle.std.proofs.lemmas.Bool.{cases_lt}
use Rattle.std.proofs.lemmas.List.{take_all}
use Rattle.msp_encode.specs.declared.instr.Instr.{Instr}
use Rattle.code_model.specs.declared.object.Object.{Object}
use Rattle.code_model.specs.declared.parts.RelKind.{RelKind}
use Rattle.insert_model.specs.declared.line.Line.{Line}
use Rattle.msp_encode.specs.Spelled.{count}
use Rattle.insert_model.specs.Source.{on_word, kind_at, kind_within, line_at}
use Rattle.source_faults.specs.Read.{AreKinds}

kind_is : (o : Object) (kinds : List (Option RelKind)) (at n m : ℕ) → AreKinds o kinds → at + n ≤ length o.code
    → (if nat_lt m n then slice_index_or kinds (at + m) None else None) ≡ kind_within o.relocs at n m
kind_is o kinds at n m are inside = elim (cases_lt m n) [
  | inl less ↦ let e : nat_lt m n ≡ true = search rules in rw e (are.each (at + m) (omega arith))
  | inr more ↦ let e : nat_lt m n ≡ false = search rules in rw e refl
]

abbrev line_of : ℕ → Instr → (a b c : Option RelKind) → Line
line_of at i a b c = record { at = at; instr = i; first = a; second = b; third = c }

line_same : (at : ℕ) (i : Instr) (a b c x y z : Option RelKind) → a ≡ x → b ≡ y → c ≡ z → line_of at i a b c ≡ line_of at i x y z
line_same at i a b c x y z e f g = cc

pub line_is : (o : Object) (kinds : List (Option RelKind)) (at n : ℕ) (i : Instr) (b c : Option RelKind) → AreKinds o kinds → at < length o.code → at + n ≤ length o.code → n ≡ count i
    → b ≡ (if nat_lt 1 n then slice_index_or kinds (at + 1) None else None) → c ≡ (if nat_lt 2 n then slice_index_or kinds (at + 2) None else None)
    → line_of at i (slice_index_or kinds at None) b c ≡ line_at o.relocs at i
unfolding line_at
line_is o kinds at n i b c are inside whole size eb ec =
    let P : ℕ → ℕ → Type 0 = λ m k. kind_within o.relocs at n m ≡ kind_within o.relocs at k m in
    line_same at i (slice_index_or kinds at None) b c (kind_at o.relocs at) (kind_within o.relocs at (count i) 1) (kind_within o.relocs at (count i) 2)
    (are.each at inside)
    (eb ∙ kind_is o kinds at n 1 are whole ∙ subst (P 1) size refl)
    (ec ∙ kind_is o kinds at n 2 are whole ∙ subst (P 2) size refl)

pub kinds_end : (o : Object) (kinds : List (Option RelKind)) (i k : ℕ) → length o.relocs ≤ i → slice_index_or kinds k None ≡ fold (on_word k) None (take i o.relocs) → slice_index_or kinds k None ≡ kind_at o.relocs k
unfolding kind_at
kinds_end o kinds i k past h = h ∙ ap (fold (on_word k) None) (take_all i o.relocs past)
