-- Scripts worked out by hand, which the definitions compute.
use Rattle.std.proofs.Common.{◌≡◌, ℕ, List, [], ◌∷◌, ◌++◌, codes, Some, None, Ok, Err, refl}
use Rattle.trace_model.specs.declared.scripts.AtKind.TheVariants.{Raise, Pick}
use Rattle.trace_model.specs.declared.scripts.At.{At}
use Rattle.trace_model.specs.declared.scripts.Script.{Script}
use Rattle.trace_model.specs.Grammar.{words_of, is_decimal, number_in, kind_of, with_every, may_follow, with_at, with_mix, with_statement, with_line, script_of, empty_script}
use Rattle.trace_model.specs.Draws.{raised_at, pick_at, mix_pick}

-- a line and its LF
abbrev line : List ℕ → List ℕ
line bytes = bytes ++ 10 ∷ []

abbrev raises : ℕ → ℕ → At
raises step number = record { step = step; what = Raise number }

abbrev picks : ℕ → ℕ → At
picks step number = record { step = step; what = Pick number }

-- a tab, a comment, a line without words, and a last line without LF
pub small-script_of : script_of (line (codes "# two lines") ++ (line (9 ∷ 13 ∷ []) ++ (line (codes "at 2  raise 13 ") ++ codes "mix 4294967295"))) ≡ Ok (record empty_script { ats = raises 2 13 ∷ []; mix = Some 4294967295 })
unfolding words_of is_decimal number_in kind_of with_every may_follow with_at with_mix with_statement with_line script_of
small-script_of = refl

-- the second line's step falls
pub falling-script_of : script_of (line (codes "at 5 raise 1") ++ line (codes "at 4 raise 1")) ≡ Err 2
unfolding words_of is_decimal number_in kind_of with_every may_follow with_at with_mix with_statement with_line script_of
falling-script_of = refl

-- one step may raise lines and have one pick
pub two_picks-script_of : script_of (line (codes "at 7 pick 1") ++ (line (codes "at 7 raise 0") ++ codes "at 7 pick 1")) ≡ Err 3
unfolding words_of is_decimal number_in kind_of with_every may_follow with_at with_mix with_statement with_line script_of
two_picks-script_of = refl

-- twenty digits are out of range
pub long-number_in : number_in 1 10000000 (codes "99999999999999999999") ≡ None
unfolding is_decimal number_in
long-number_in = refl

-- the numbers behind `mix 0` are 1013904223, 1196435762 and 3519870697
pub draws_of_0 : (mix_pick (Some 0) 1 ∷ mix_pick (Some 0) 2 ∷ mix_pick (Some 0) 3 ∷ []) ≡ (Some 15470 ∷ Some 18256 ∷ Some 53708 ∷ [])
draws_of_0 = refl

-- those behind `mix 4294967295`
pub draws_of_4294967295 : (mix_pick (Some 4294967295) 1 ∷ mix_pick (Some 4294967295) 2 ∷ mix_pick (Some 4294967295) 3 ∷ []) ≡ (Some 15445 ∷ Some 12311 ∷ Some 8835 ∷ [])
draws_of_4294967295 = refl

-- every third step raises line 0, and step 6 raises line 13 too
abbrev rows : Script
rows = record { ats = raises 6 13 ∷ (picks 6 65537 ∷ []); everys = record { items = record { period = 3; line = 0 } ∷ [] }; mix = Some 0 }

pub rows-raised_at : (raised_at rows 5 ∷ raised_at rows 6 ∷ raised_at rows 9 ∷ []) ≡ (0 ∷ 8193 ∷ 1 ∷ [])
unfolding raised_at
rows-raised_at = refl

-- step 6 has a pick of its own
pub rows-pick_at : (pick_at rows 1 ∷ pick_at rows 6 ∷ []) ≡ (Some 15470 ∷ Some 65537 ∷ [])
unfolding pick_at
rows-pick_at = refl
