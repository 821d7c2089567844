-- Unit starts and guards.
use Rattle.std.proofs.Common.{◌≡◌, ℕ, ◌+◌, ◌⊎◌, get_or, drop, sym, ap, ◌∙◌, subst, inl, inr}
use Rattle.msp_encode.specs.declared.instr.Instr.{Instr}
use Rattle.code_model.specs.declared.object.Object.{Object}
use Rattle.code_model.specs.Starts.{Stands, Start}
use Rattle.code_model.specs.Guards.{CoversBy, Covers, Covered, Own, Interior, UnitStart}
use Rattle.code_laws.specs.Laws.{GoesOnFirst}
use Rattle.code_laws.proofs.Standing.{same_instr, same_size}
use Rattle.code_laws.proofs.DangerLemmas.{BeginsAt, own_first}
use Rattle.confinement_laws.proofs.Lines.{save}
use Rattle.confinement_laws.proofs.Runs.{first-word, save-stands}

begun-word : (o : Object) (at : ℕ) → BeginsAt o at → get_or o.code at 0 ≡ 16901
begun-word o at b = ap (λ (x : ℕ). get_or o.code x 0) (sym b.first) ∙ first-word o b.guarded b.kind b.by

pub own-first : (o : Object) (at : ℕ) → UnitStart o at → Own o at → get_or o.code at 0 ≡ 16901
own-first o at u w = begun-word o at (own_first o at u w)

-- ---- what follows an instruction

-- a unit start goes on to a unit start, or to the second word of a guard that begins there
pub data GoesOn (o : Object) (at n : ℕ) (i : Instr) : Type 0 where
  ToUnit : UnitStart o (at + n) → GoesOn o at n i
  IntoGuard : BeginsAt o at → i ≡ save → n ≡ 1 → GoesOn o at n i

into-guard : GoesOnFirst → (o : Object) (at n : ℕ) (i : Instr) → UnitStart o at → Stands o.code at i n → Covered o (at + n) → GoesOn o at n i
unfolding Covered Covers CoversBy
into-guard goes_on_first o at n i u st (top, l, (k, (j, f))) = IntoGuard record { guarded = top; kind = k; by = j; first = first } (same_instr i save (drop at o.code) n 1 st sv) (same_size i save (drop at o.code) n 1 st sv)
  where
    first : j.first ≡ at
    first = sym (goes_on_first o at top k i n j u st f l)

    sv : Stands o.code at save 1
    sv = subst (λ (x : ℕ). Stands o.code x save 1) first (save-stands o top k j (first-word o top k j))

pub goes-on : GoesOnFirst → (o : Object) (at n : ℕ) (i : Instr) → UnitStart o at → Stands o.code at i n → Start o.code (at + n) → Interior o (at + n) ⊎ UnitStart o (at + n) → GoesOn o at n i
goes-on goes_on_first o at n i u st s (inl t) = into-guard goes_on_first o at n i u st t.1
goes-on goes_on_first o at n i u st s (inr v) = ToUnit v
