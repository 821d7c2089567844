-- Rules by their numbers.
use Rattle.std.proofs.Common.{◌≡◌, List, [], ◌∷◌, Some, slice_get, refl, ap}
use Rattle.code_model.specs.declared.rules.Rule.{Rule}
use Rattle.code_model.specs.declared.rules.Rule.TheVariants as rule
use Rattle.code_model.specs.Rules.{number}

abbrev by_number : List Rule
by_number = rule.Spelled ∷ rule.Spelled ∷ rule.Reti ∷ rule.Pc ∷ rule.Sp ∷ rule.Sr ∷ rule.Store ∷ rule.Static ∷ rule.Pop ∷ rule.Push
    ∷ rule.Target ∷ rule.Jump ∷ rule.End ∷ rule.Reloc ∷ rule.Entry ∷ []

stands_there : (r : Rule) → slice_get by_number (number r) ≡ Some r
stands_there rule.Spelled = refl
stands_there rule.Reti = refl
stands_there rule.Pc = refl
stands_there rule.Sp = refl
stands_there rule.Sr = refl
stands_there rule.Store = refl
stands_there rule.Static = refl
stands_there rule.Pop = refl
stands_there rule.Push = refl
stands_there rule.Target = refl
stands_there rule.Jump = refl
stands_there rule.End = refl
stands_there rule.Reloc = refl
stands_there rule.Entry = refl

-- no two rules have one number
pub same_rule : (r s : Rule) → number r ≡ number s → r ≡ s
same_rule r s e =
    let f : slice_get by_number (number r) ≡ Some r = stands_there r in
    let g : slice_get by_number (number s) ≡ Some s = stands_there s in
    let h : slice_get by_number (number r) ≡ slice_get by_number (number s) = ap (slice_get by_number) e in cc
