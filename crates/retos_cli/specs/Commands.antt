-- The words of the commands.
use Rattle.std.specs.Prelude.{ℕ, ◌+◌, ◌==◌, Bool, ◌&&◌, ◌||◌, not, nat_le, nat_lt, bytes_eq, List, [], ◌∷◌, length, drop, slice_index, codes, Some, None, if◌then◌else◌}
use Rattle.std.specs.Option.{option_map, option_and_then}
use Rattle.std.specs.declared.option.Option.{Option}
use Rattle.trace_model.specs.Grammar.{number_in}
use Rattle.trace_print.specs.declared.show.Show.{Show}
use Rattle.retos_cli.specs.Words.{word}
use Rattle.retos_cli.specs.declared.command.Command.{Command}
use Rattle.retos_cli.specs.declared.command.Command.TheVariants.{Run, Check, Asm, Insert, Gen}

-- a name has 1 to 255 bytes and doesn't begin with a dash
abbrev pub is_name : List ℕ → Bool
is_name w = nat_lt 0 (length w) && nat_le (length w) 255 && not (slice_index w 0 == 45)

abbrev pub name_of : List ℕ → Option (List ℕ)
name_of w = if is_name w then Some w else None

-- all words are names
abbrev pub names_of : List (List ℕ) → Option (List (List ℕ))
names_of [] = Some []
names_of (w ∷ ws) = if is_name w then option_map (λ names. w ∷ names) (names_of ws) else None

-- a number of steps: decimal, from 1 to 10000000, without sign or leading zero
abbrev pub steps_of : List ℕ → Option ℕ
steps_of w = number_in 1 10000000 w

-- what an object is generated from: such a number from 0 to 4294967295
abbrev pub seed_of : List ℕ → Option ℕ
seed_of w = number_in 0 4294967295 w

-- ---- options: `--all` and `--tail` directly behind the first word, in either order, each at most once

abbrev pub is_all : List ℕ → Bool
is_all w = bytes_eq w (codes "--all")

abbrev pub is_tail : List ℕ → Bool
is_tail w = bytes_eq w (codes "--tail")

abbrev pub show_of : List (List ℕ) → Show
show_of words = record {
  all = is_all (word words 1) || (is_tail (word words 1) && is_all (word words 2));
  tail = is_tail (word words 1) || (is_all (word words 1) && is_tail (word words 2));
}

-- where the words behind the options begin
abbrev pub behind_options : List (List ℕ) → ℕ
behind_options words =
    if (is_all (word words 1) && is_tail (word words 2)) || (is_tail (word words 1) && is_all (word words 2)) then 3
    else (if is_all (word words 1) || is_tail (word words 1) then 2 else 1)

-- ---- each command

-- a run of one application without a script
abbrev pub solo_job : Show → List ℕ → ℕ → Command
solo_job show name steps = Run (record { show = show; script = None; steps = steps; names = name ∷ [] })

-- an application and a number of steps, from this word on
abbrev pub solo_from : ℕ → List (List ℕ) → Option Command
solo_from at words =
    if length words == at + 2 then option_and_then (λ name. option_map (solo_job (show_of words) name) (steps_of (word words (at + 1)))) (name_of (word words at))
    else None

abbrev pub solo_of : List (List ℕ) → Option Command
solo_of words = solo_from (behind_options words) words

-- a run of objects under a script
abbrev pub run_job : Show → List ℕ → ℕ → List (List ℕ) → Command
run_job show script steps names = Run (record { show = show; script = Some script; steps = steps; names = names })

-- a script, a number of steps and 1 to 16 names, from this word on
abbrev pub run_from : ℕ → List (List ℕ) → Option Command
run_from at words =
    if nat_le (at + 3) (length words) && nat_le (length words) (at + 18)
    then option_and_then (λ script. option_and_then (λ steps. option_map (run_job (show_of words) script steps) (names_of (drop (at + 2) words))) (steps_of (word words (at + 1)))) (name_of (word words at))
    else None

abbrev pub run_of : List (List ℕ) → Option Command
run_of words = run_from (behind_options words) words

-- 1 to 16 names
abbrev pub check_of : List (List ℕ) → Option Command
check_of words =
    if nat_le 2 (length words) && nat_le (length words) 17 then option_map (λ names. Check names) (names_of (drop 1 words))
    else None

-- an input and an output
abbrev pub asm_of : List (List ℕ) → Option Command
asm_of words =
    if length words == 3 then option_and_then (λ from. option_map (λ to. Asm from to) (name_of (word words 2))) (name_of (word words 1))
    else None

-- the same
abbrev pub insert_of : List (List ℕ) → Option Command
insert_of words =
    if length words == 3 then option_and_then (λ from. option_map (λ to. Insert from to) (name_of (word words 2))) (name_of (word words 1))
    else None

-- a number and an output
abbrev pub gen_of : List (List ℕ) → Option Command
gen_of words =
    if length words == 3 then option_and_then (λ seed. option_map (λ to. Gen seed to) (name_of (word words 2))) (seed_of (word words 1))
    else None

unfoldable pub command_of : List (List ℕ) → Option Command
command_of words =
    if bytes_eq (word words 0) (codes "solo") then solo_of words
    else (if bytes_eq (word words 0) (codes "run") then run_of words
    else (if bytes_eq (word words 0) (codes "check") then check_of words else (if bytes_eq (word words 0) (codes "asm") then asm_of words
    else (if bytes_eq (word words 0) (codes "insert") then insert_of words
    else (if bytes_eq (word words 0) (codes "gen") then gen_of words else None)))))
