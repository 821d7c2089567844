-- What is fetched where the words of a guard lie.
use Rattle.std.proofs.Common.{◌≡◌, ℕ, ◌+◌, ◌*◌, ◌<◌, Bool, List, [], ◌∷◌, refl, sym, ap, ◌∙◌, subst, inl, inr, arith}
use Rattle.std.specs.Prelude.{if◌then◌else◌}
use Rattle.machine_model.specs.Memory.{word_at}
use Rattle.machine_model.specs.Operands.{sum_of}
use Rattle.machine_model.specs.Fetching.{IsFetched}
use Rattle.msp_encode.specs.declared.instr.Instr.{Instr}
use Rattle.msp_encode.specs.declared.instr.Instr.TheVariants as instr
use Rattle.msp_encode.specs.declared.instr.Width.TheVariants.{Wide}
use Rattle.msp_encode.specs.declared.instr.Cg.TheVariants.{Zero}
use Rattle.msp_encode.specs.declared.instr.Op2.TheVariants.{Mov}
use Rattle.msp_encode.specs.declared.instr.Src.TheVariants as src
use Rattle.msp_encode.specs.declared.instr.Dst.TheVariants as dst
use Rattle.msp_encode.specs.declared.instr.Cond.TheVariants.{Ne, Nc, C}
use Rattle.msp_encode.specs.Spelling.{First, words_after}
use Rattle.unit_laws.specs.Lines.{Saves, Loads, Adds, Compares, ComparesSp, ComparesTop, ComparesNew, ComparesNewTop, Jumps, Branches, Restores, instr_of, IsIndexed}
use Rattle.unit_laws.proofs.Lines.{differs}

pub fetched-one : (m : List ℕ) (pc w : ℕ) (i : Instr) → word_at m pc ≡ w → First i w → words_after i ≡ [] → IsFetched m pc i 1
fetched-one m pc w i e f a = (omega arith, (subst (First i) (sym e) f, sym a))

pub fetched-two : (m : List ℕ) (pc next w v : ℕ) (i : Instr) → word_at m pc ≡ w → word_at m next ≡ v → pc + 2 ≡ next → next < 65536 → First i w → words_after i ≡ v ∷ [] → IsFetched m pc i 2
fetched-two m pc next w v i e g n l f a =
    let step : sum_of pc 2 ≡ next = omega (arith, n, l) in
    (omega arith, (subst (First i) (sym e) f, ap (λ (x : ℕ). x ∷ []) (ap (word_at m) step ∙ g) ∙ sym a))

pub first-saves : First (instr_of Saves) 0x4205
first-saves = record { op_code = refl; width_bit = refl; source = (refl, refl, λ e. omega (arith, e)); destination = (refl, refl) }

pub first-loads : (n : ℕ) → IsIndexed n → First (instr_of (Loads n)) (0x4004 + 256 * n)
first-loads n (inl e) = subst (λ (j : ℕ). First (instr_of (Loads j)) (0x4004 + 256 * j)) (sym e) record { op_code = refl; width_bit = refl; source = (refl, refl, λ e. omega (arith, e)); destination = (refl, refl) }
first-loads n (inr (inl e)) = subst (λ (j : ℕ). First (instr_of (Loads j)) (0x4004 + 256 * j)) (sym e) record { op_code = refl; width_bit = refl; source = (refl, refl); destination = (refl, refl) }
first-loads n (inr (inr e)) =
    let plain : First (instr.Two Mov Wide (src.Reg n) (dst.Reg 4)) (0x4004 + 256 * n) = record {
      op_code = omega (arith, e.0, e.1);
      width_bit = omega (arith, e.0, e.1);
      source = (omega (arith, e.0, e.1), omega (arith, e.0, e.1), λ q. omega (arith, q, e.0));
      destination = (omega (arith, e.0, e.1), omega (arith, e.0, e.1));
    } in
    subst (λ (b : Bool). First (instr.Two Mov Wide (if b then src.Const Zero else src.Reg n) (dst.Reg 4)) (0x4004 + 256 * n)) (sym (differs n e.0)) plain

pub loads-alone : (n : ℕ) → IsIndexed n → words_after (instr_of (Loads n)) ≡ []
loads-alone n (inl e) = subst (λ (j : ℕ). words_after (instr_of (Loads j)) ≡ []) (sym e) refl
loads-alone n (inr (inl e)) = subst (λ (j : ℕ). words_after (instr_of (Loads j)) ≡ []) (sym e) refl
loads-alone n (inr (inr e)) = subst (λ (b : Bool). words_after (instr.Two Mov Wide (if b then src.Const Zero else src.Reg n) (dst.Reg 4)) ≡ []) (sym (differs n e.0)) refl

pub first-adds : (x : ℕ) → First (instr_of (Adds x)) 0x5034
first-adds x = record { op_code = refl; width_bit = refl; source = (refl, refl); destination = (refl, refl) }

pub first-compares : (v : ℕ) → First (instr_of (Compares v)) 0x9034
first-compares v = record { op_code = refl; width_bit = refl; source = (refl, refl); destination = (refl, refl) }

pub first-sp : First (instr_of ComparesSp) 0x9211
first-sp = record { op_code = refl; width_bit = refl; source = (refl, refl); destination = (refl, refl) }

pub first-top : First (instr_of ComparesTop) 0x9182
first-top = record { op_code = refl; width_bit = refl; source = (refl, refl, λ e. omega (arith, e)); destination = (refl, refl) }

pub first-new : First (instr_of ComparesNew) 0x9214
first-new = record { op_code = refl; width_bit = refl; source = (refl, refl); destination = (refl, refl) }

pub first-new_top : First (instr_of ComparesNewTop) 0x9482
first-new_top = record { op_code = refl; width_bit = refl; source = (refl, refl, λ e. omega (arith, e)); destination = (refl, refl) }

pub first-nc3 : First (instr_of (Jumps Nc 3)) 0x2803
first-nc3 = record { form = refl; code = refl; place = refl }

pub first-nc2 : First (instr_of (Jumps Nc 2)) 0x2802
first-nc2 = record { form = refl; code = refl; place = refl }

pub first-c2 : First (instr_of (Jumps C 2)) 0x2C02
first-c2 = record { form = refl; code = refl; place = refl }

pub first-ne2 : First (instr_of (Jumps Ne 2)) 0x2002
first-ne2 = record { form = refl; code = refl; place = refl }

pub first-branches : (v : ℕ) → First (instr_of (Branches v)) 0x4030
first-branches v = record { op_code = refl; width_bit = refl; source = (refl, refl); destination = (refl, refl) }

pub first-restores : First (instr_of Restores) 0x4502
first-restores = record { op_code = refl; width_bit = refl; source = (refl, refl, λ e. omega (arith, e)); destination = (refl, refl) }
