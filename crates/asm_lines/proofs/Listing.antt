-- Lists of operands.
use Rattle.std.proofs.Common.{◌≡◌, ℕ, Bool, true, false, List, [], ◌∷◌, Err, refl, ap, cond}
use Rattle.std.specs.List.{slice_split, onto_first}
use Rattle.msp_encode.specs.declared.instr.Width.{Width}
use Rattle.asm_model.specs.declared.fault.AsmKind.TheVariants.{BadOperand}
use Rattle.asm_model.specs.declared.name.Name.{Name}
use Rattle.asm_model.specs.declared.name.Value.{Value}
use Rattle.asm_model.specs.declared.mnemonic.MnemonicForm.{MnemonicForm}
use Rattle.asm_model.specs.Lines.{is_nil}
use Rattle.asm_model.specs.Words.{is_comma, operands_of}
use Rattle.asm_model.specs.Instructions.{instruction_of}

-- there is a first part
pub record First (parts : List (List ℕ)) : Type 0 where
  pub part : List ℕ
  pub others : List (List ℕ)
  pub same : parts ≡ part ∷ others

pub first_part : (p : ℕ → Bool) (xs : List ℕ) → First (slice_split p xs)
first_part p [] = record { part = []; others = []; same = refl }
first_part p (x ∷ xs) =
    let f = first_part p xs in
    let P : Bool → Type 0 = λ b. First (cond b ([] ∷ slice_split p xs) (onto_first x (slice_split p xs))) in
    elim (p x) as P [ true ↦ record { part = []; others = slice_split p xs; same = refl } | false ↦ record { part = x ∷ f.part; others = f.others; same = ap (onto_first x) f.same } ]

-- three operands or more are no instruction's
pub many : (names : List (Name × Value)) (f : MnemonicForm) (width : Width) (rest a b third : List ℕ) → is_nil rest ≡ false → slice_split is_comma rest ≡ a ∷ b ∷ slice_split is_comma third → Err BadOperand ≡ instruction_of names f width (operands_of rest)
unfolding operands_of instruction_of
many names f width rest a b third full parts =
    let more = first_part is_comma third in
    rw full (rw parts (rw more.same refl))
