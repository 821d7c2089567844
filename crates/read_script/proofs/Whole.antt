-- A text of which no line is left.
use Rattle.std.proofs.Common.{◌≡◌, ℕ, eqb, true, false, List, [], ◌∷◌, length, Ok, arith}
use Rattle.std.specs.Str.Lines.{lines}
use Rattle.std.proofs.lemmas.Bool.Decides.{nat_tests}
use Rattle.trace_model.specs.declared.scripts.Script.{Script}
use Rattle.trace_model.specs.Grammar.{empty_script, script_from, script_of}

pub whole : (text rest : List ℕ) (number : ℕ) (t : Script) → eqb (length rest) 0 ≡ true → script_from 1 (lines text) empty_script ≡ script_from number (lines rest) t → script_of text ≡ Ok t
unfolding script_of
whole text [] number t empty same = same
whole text (x ∷ xs) number t empty same = let filled : eqb (length (x ∷ xs)) 0 ≡ false = grind (arith, nat_tests) in cc
