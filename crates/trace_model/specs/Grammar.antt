-- The script that a text stands for, or the first line that breaks a rule.
use Rattle.std.specs.Prelude.{◌≡◌, ◌⊎◌, ℕ, ◌+◌, ◌==◌, ◌&&◌, ◌||◌, not, nat_eq, nat_le, nat_lt, Bool, true, false, List, [], ◌∷◌, ◌++◌, length, filter, fold, codes, Option, Some, None, is_some, option_and_then, Result, Ok, Err, if◌then◌else◌}
use Rattle.std.specs.Option.{option_map}
use Rattle.std.specs.List.{list_all, list_any, slice_split, slice_index_or}
use Rattle.std.specs.Char.{is_ascii, is_ascii_digit}
use Rattle.std.specs.Cmp.Lexicographic.{pointwise}
use Rattle.std.specs.Str.Lines.{lines}
use Rattle.std.specs.Str.Parse.{digits_value}
use Rattle.trace_model.specs.declared.scripts.AtKind.{AtKind}
use Rattle.trace_model.specs.declared.scripts.AtKind.TheVariants.{Raise, Pick}
use Rattle.trace_model.specs.declared.scripts.At.{At}
use Rattle.trace_model.specs.declared.scripts.Every.{Every}
use Rattle.trace_model.specs.declared.scripts.Script.{Script}
use Rattle.trace_model.specs.declared.scripts.ScriptFault.{ScriptFault}
use Rattle.trace_model.specs.declared.scripts.ScriptFault.TheVariants as fault

-- ---- words and numbers

-- space and tab
abbrev pub is_blank : ℕ → Bool
is_blank b = b == 32 || b == 9

abbrev pub is_word : List ℕ → Bool
is_word [] = false
is_word (b ∷ bs) = true

-- what stands between the blanks of a line
unfoldable pub words_of : List ℕ → List (List ℕ)
words_of line = filter is_word (slice_split is_blank line)

abbrev pub word_is : List ℕ → List ℕ → Bool
word_is word other = pointwise nat_eq word other

-- the first byte, or 0 where there is none
abbrev pub first_byte : List ℕ → ℕ
first_byte word = slice_index_or word 0 0

-- `#`
abbrev pub is_comment : List ℕ → Bool
is_comment word = first_byte word == 35

-- one or more digits without a leading zero
unfoldable pub is_decimal : List ℕ → Bool
is_decimal word = nat_le 1 (length word) && list_all is_ascii_digit word && (not (first_byte word == 48) || length word == 1)

-- the number of a word, which is from the one to the other
unfoldable pub number_in : ℕ → ℕ → List ℕ → Option ℕ
number_in least most word =
    if is_decimal word && nat_le least (digits_value 10 word) && nat_le (digits_value 10 word) most then Some (digits_value 10 word) else None

-- ---- what each kind of line says behind its first word

abbrev pub every_by : Option ℕ → Option ℕ → Option Every
every_by None line = None
every_by (Some period) None = None
every_by (Some period) (Some line) = Some (record { period = period; line = line })

-- `every N LINE`
abbrev pub every_of : List (List ℕ) → Option Every
every_of (period ∷ line ∷ []) = every_by (number_in 1 10000000 period) (number_in 0 13 line)
every_of _ = None

-- `raise LINE`, `pick K`
unfoldable pub kind_of : List ℕ → List ℕ → Option AtKind
kind_of word number =
    if word_is word (codes "raise") then option_map Raise (number_in 0 13 number)
    else if word_is word (codes "pick") then option_map Pick (number_in 0 4294967295 number)
    else None

abbrev pub at_by : Option ℕ → Option AtKind → Option At
at_by None kind = None
at_by (Some step) None = None
at_by (Some step) (Some kind) = Some (record { step = step; what = kind })

-- `at S raise LINE`, `at S pick K`
abbrev pub at_of : List (List ℕ) → Option At
at_of (step ∷ word ∷ number ∷ []) = at_by (number_in 1 10000000 step) (kind_of word number)
at_of _ = None

-- `mix N`
abbrev pub mix_of : List (List ℕ) → Option ℕ
mix_of (number ∷ []) = number_in 0 4294967295 number
mix_of _ = None

-- ---- what may stand behind the lines before

-- at most 16 `every` lines
unfoldable pub with_every : Script → Every → Option Script
with_every t e = if nat_lt (length t.everys.items) 16 then Some (record t { everys = record { items = t.everys.items ++ e ∷ [] } }) else None

-- the step of the last, or 0 where there is none
abbrev pub last_step : List At → ℕ
last_step ats = fold (λ step (a : At). a.step) 0 ats

abbrev pub is_pick : AtKind → Bool
is_pick (Raise line) = false
is_pick (Pick number) = true

abbrev pub is_pick_at : ℕ → At → Bool
is_pick_at step a = a.step == step && is_pick a.what

-- a step has a pick
abbrev pub has_pick_at : ℕ → List At → Bool
has_pick_at step ats = list_any (is_pick_at step) ats

-- the step never falls, and has no second pick
unfoldable pub may_follow : List At → At → Bool
may_follow ats a = nat_le (last_step ats) a.step && not (is_pick a.what && has_pick_at a.step ats)

unfoldable pub with_at : Script → At → Option Script
with_at t a = if may_follow t.ats a then Some (record t { ats = t.ats ++ a ∷ [] }) else None

-- at most one `mix` line
unfoldable pub with_mix : Script → ℕ → Option Script
with_mix t number = if is_some t.mix then None else Some (record t { mix = Some number })

-- ---- lines

-- behind a line's first word; none where the line breaks a rule
unfoldable pub with_statement : Script → List ℕ → List (List ℕ) → Option Script
with_statement t word rest =
    if is_comment word then Some t
    else if word_is word (codes "every") then option_and_then (with_every t) (every_of rest)
    else if word_is word (codes "at") then option_and_then (with_at t) (at_of rest)
    else if word_is word (codes "mix") then option_and_then (with_mix t) (mix_of rest)
    else None

-- a line without words says nothing
abbrev pub with_words : Script → List (List ℕ) → Option Script
with_words t [] = Some t
with_words t (word ∷ rest) = with_statement t word rest

-- the script with a line, or none where the line breaks a rule
unfoldable pub with_line : Script → List ℕ → Option Script
with_line t line = if list_all is_ascii line then with_words t (words_of line) else None

-- ---- all lines

abbrev pub empty_script : Script
empty_script = record { ats = []; everys = record { items = [] }; mix = None }

-- what comes behind a line, or the line's number where it breaks a rule
abbrev pub behind_line : {X : Type 0} → ℕ → Option X → (X → Result X ℕ) → Result X ℕ
behind_line number None next = Err number
behind_line number (Some t) next = next t

-- the script of these lines behind another, or the first of them that breaks a rule; they are counted from this number on
abbrev pub script_from : ℕ → List (List ℕ) → Script → Result Script ℕ
script_from number [] t = Ok t
script_from number (line ∷ lines) t = behind_line number (with_line t line) (λ next. script_from (number + 1) lines next)

-- the script that a text stands for, or the number of the first line that breaks a rule, counted from 1
unfoldable pub script_of : List ℕ → Result Script ℕ
script_of text = script_from 1 (lines text) empty_script

-- the text's script, or exactly its first line that breaks a rule; or there was no memory
abbrev pub GivesScript : List ℕ → Result Script ScriptFault → Type 0
GivesScript text (Ok t) = script_of text ≡ Ok t
GivesScript text (Err (fault.At line)) = script_of text ≡ Err line
GivesScript text (Err fault.Memory) = Unit {0}

abbrev pub IsMemory : Result Script ScriptFault → Type 0
IsMemory (Ok t) = ⊥
IsMemory (Err (fault.At line)) = ⊥
IsMemory (Err fault.Memory) = Unit {0}

-- every other answer that the text gives is this one, unless one of the two is want of memory
abbrev pub IsOnlyScript : List ℕ → Result Script ScriptFault → Type 0
IsOnlyScript text answer = (other : Result Script ScriptFault) → GivesScript text other → IsMemory answer ⊎ (IsMemory other ⊎ (other ≡ answer))
