-- The numbers of a command are in their ranges.
use Rattle.std.proofs.Common.{◌≡◌, ℕ, ◌+◌, ◌≤◌, Bool, true, false, cond, ◌&&◌, nat_le, ◌==◌, List, [], ◌∷◌, length, drop, Some, None, refl, sym, subst, arith, bytes_eq, codes}
use Rattle.std.proofs.lemmas.Bool.{leb-true, and_parts}
use Rattle.std.proofs.lemmas.List.{length-drop}
use Rattle.std.specs.Option.{option_map, option_and_then}
use Rattle.std.specs.declared.option.Option.{Option}
use Rattle.std.specs.Str.Parse.{digits_value}
use Rattle.trace_model.specs.Grammar.{is_decimal, number_in}
use Rattle.trace_print.specs.declared.show.Show.{Show}
use Rattle.retos_cli.specs.declared.command.Command.{Command}
use Rattle.retos_cli.specs.declared.command.Command.TheVariants.{Check, Asm, Insert, Gen}
use Rattle.retos_cli.specs.Words.{word}
use Rattle.retos_cli.specs.Commands.{is_name, name_of, names_of, steps_of, seed_of, show_of, solo_job, run_job, solo_from, run_from, behind_options, solo_of, run_of, check_of, asm_of, insert_of, gen_of, command_of}
use Rattle.retos_cli.specs.Bounds.{IsBounded, IsBoundedIfSome}

-- ---- numbers of steps

abbrev AtMost : Option ℕ → Type 0
AtMost None = Unit {0}
AtMost (Some n) = n ≤ 10000000

if-low : (a b c : Bool) (n : ℕ) → (c ≡ true → n ≤ 10000000) → AtMost (cond (a && b && c) (Some n) None)
if-low false b c n h = tt
if-low true false c n h = tt
if-low true true false n h = tt
if-low true true true n h = h refl

low-steps : (w : List ℕ) → AtMost (steps_of w)
unfolding number_in
low-steps w = if-low (is_decimal w) (nat_le 1 (digits_value 10 w)) (nat_le (digits_value 10 w) 10000000) (digits_value 10 w) (λ e. leb-true (digits_value 10 w) 10000000 e)

-- ---- numbers of names

abbrev AsMany : List (List ℕ) → Option (List (List ℕ)) → Type 0
AsMany ws None = Unit {0}
AsMany ws (Some names) = length names ≡ length ws

one-more : (b : Bool) (w : List ℕ) (ws : List (List ℕ)) (o : Option (List (List ℕ))) → AsMany ws o → AsMany (w ∷ ws) (cond b (option_map (λ names. w ∷ names) o) None)
one-more false w ws o h = tt
one-more true w ws None h = tt
one-more true w ws (Some names) h = omega (arith, h)

as-many : (ws : List (List ℕ)) → AsMany ws (names_of ws)
as-many [] = refl
as-many (w ∷ ws) = one-more (is_name w) w ws (names_of ws) (as-many ws)

-- ---- commands

if-some : (b : Bool) (o : Option Command) → (b ≡ true → IsBoundedIfSome o) → IsBoundedIfSome (cond b o None)
if-some true o h = h refl
if-some false o h = tt

either-one : (b : Bool) (x y : Option Command) → IsBoundedIfSome x → IsBoundedIfSome y → IsBoundedIfSome (cond b x y)
either-one true x y h k = h
either-one false x y h k = k

solo-named : (show : Show) (name : Option (List ℕ)) (steps : Option ℕ) → AtMost steps → IsBoundedIfSome (option_and_then (λ name. option_map (solo_job show name) steps) name)
solo-named show None steps h = tt
solo-named show (Some name) None h = tt
solo-named show (Some name) (Some n) h = record { steps = h; few = omega arith }

solo-bounded : (at : ℕ) (words : List (List ℕ)) → IsBoundedIfSome (solo_from at words)
solo-bounded at words =
    if-some (length words == at + 2) (option_and_then (λ name. option_map (solo_job (show_of words) name) (steps_of (word words (at + 1)))) (name_of (word words at)))
    (λ e. solo-named (show_of words) (name_of (word words at)) (steps_of (word words (at + 1))) (low-steps (word words (at + 1))))

run-named : (show : Show) (script : Option (List ℕ)) (steps : Option ℕ) (ws : List (List ℕ)) (names : Option (List (List ℕ))) → AtMost steps → AsMany ws names → length ws ≤ 16
    → IsBoundedIfSome (option_and_then (λ script. option_and_then (λ steps. option_map (run_job show script steps) names) steps) script)
run-named show None steps ws names h k l = tt
run-named show (Some script) None ws names h k l = tt
run-named show (Some script) (Some n) ws None h k l = tt
run-named show (Some script) (Some n) ws (Some names) h k l = record { steps = h; few = omega (arith, k, l) }

behind-few : (at : ℕ) (words : List (List ℕ)) → (nat_le (at + 3) (length words) && nat_le (length words) (at + 18)) ≡ true → length (drop (at + 2) words) ≤ 16
behind-few at words e =
    let most : length words ≤ at + 18 = leb-true (length words) (at + 18) (and_parts (nat_le (at + 3) (length words)) (nat_le (length words) (at + 18)) e).1 in
    omega (arith, most, length-drop (at + 2) words)

run-bounded : (at : ℕ) (words : List (List ℕ)) → IsBoundedIfSome (run_from at words)
run-bounded at words =
    if-some (nat_le (at + 3) (length words) && nat_le (length words) (at + 18))
    (option_and_then (λ script. option_and_then (λ steps. option_map (run_job (show_of words) script steps) (names_of (drop (at + 2) words))) (steps_of (word words (at + 1)))) (name_of (word words at)))
    (λ e. run-named (show_of words) (name_of (word words at)) (steps_of (word words (at + 1))) (drop (at + 2) words) (names_of (drop (at + 2) words)) (low-steps (word words (at + 1))) (as-many (drop (at + 2) words)) (behind-few at words e))

check-named : (ws : List (List ℕ)) (names : Option (List (List ℕ))) → AsMany ws names → length ws ≤ 16 → IsBoundedIfSome (option_map (λ names. Check names) names)
check-named ws None k l = tt
check-named ws (Some names) k l = omega (arith, k, l)

check-few : (words : List (List ℕ)) → (nat_le 2 (length words) && nat_le (length words) 17) ≡ true → length (drop 1 words) ≤ 16
check-few words e =
    let most : length words ≤ 17 = leb-true (length words) 17 (and_parts (nat_le 2 (length words)) (nat_le (length words) 17) e).1 in
    omega (arith, most, length-drop 1 words)

check-bounded : (words : List (List ℕ)) → IsBoundedIfSome (check_of words)
check-bounded words =
    if-some (nat_le 2 (length words) && nat_le (length words) 17) (option_map (λ names. Check names) (names_of (drop 1 words)))
    (λ e. check-named (drop 1 words) (names_of (drop 1 words)) (as-many (drop 1 words)) (check-few words e))

asm-named : (from to : Option (List ℕ)) → IsBoundedIfSome (option_and_then (λ from. option_map (λ to. Asm from to) to) from)
asm-named None to = tt
asm-named (Some from) None = tt
asm-named (Some from) (Some to) = tt

asm-bounded : (words : List (List ℕ)) → IsBoundedIfSome (asm_of words)
asm-bounded words =
    if-some (length words == 3) (option_and_then (λ from. option_map (λ to. Asm from to) (name_of (word words 2))) (name_of (word words 1)))
    (λ e. asm-named (name_of (word words 1)) (name_of (word words 2)))

insert-named : (from to : Option (List ℕ)) → IsBoundedIfSome (option_and_then (λ from. option_map (λ to. Insert from to) to) from)
insert-named None to = tt
insert-named (Some from) None = tt
insert-named (Some from) (Some to) = tt

insert-bounded : (words : List (List ℕ)) → IsBoundedIfSome (insert_of words)
insert-bounded words =
    if-some (length words == 3) (option_and_then (λ from. option_map (λ to. Insert from to) (name_of (word words 2))) (name_of (word words 1)))
    (λ e. insert-named (name_of (word words 1)) (name_of (word words 2)))

gen-named : (seed : Option ℕ) (to : Option (List ℕ)) → IsBoundedIfSome (option_and_then (λ seed. option_map (λ to. Gen seed to) to) seed)
gen-named None to = tt
gen-named (Some seed) None = tt
gen-named (Some seed) (Some to) = tt

gen-bounded : (words : List (List ℕ)) → IsBoundedIfSome (gen_of words)
gen-bounded words =
    if-some (length words == 3) (option_and_then (λ seed. option_map (λ to. Gen seed to) (name_of (word words 2))) (seed_of (word words 1)))
    (λ e. gen-named (seed_of (word words 1)) (name_of (word words 2)))

-- so each command is
pub command_bounded : (words : List (List ℕ)) → IsBoundedIfSome (command_of words)
unfolding command_of
command_bounded words =
    let is : List ℕ → Bool = λ text. bytes_eq (word words 0) text in
    let final : Option Command = cond (is (codes "gen")) (gen_of words) None in
    let last : Option Command = cond (is (codes "insert")) (insert_of words) final in
    let third : Option Command = cond (is (codes "asm")) (asm_of words) last in
    let second : Option Command = cond (is (codes "check")) (check_of words) third in
    let first : Option Command = cond (is (codes "run")) (run_of words) second in
    either-one (is (codes "solo")) (solo_of words) first (solo-bounded (behind_options words) words)
    (either-one (is (codes "run")) (run_of words) second (run-bounded (behind_options words) words)
    (either-one (is (codes "check")) (check_of words) third (check-bounded words)
    (either-one (is (codes "asm")) (asm_of words) last (asm-bounded words)
    (either-one (is (codes "insert")) (insert_of words) final (insert-bounded words)
    (either-one (is (codes "gen")) (gen_of words) None (gen-bounded words) tt)))))

bounded-same : (o : Option Command) (c : Command) → o ≡ Some c → IsBoundedIfSome o → IsBounded c
bounded-same o c e h = let P : Option Command → Type 0 = λ p. IsBoundedIfSome p in subst P e h

pub bounded_by : (words : List (List ℕ)) (c : Command) → Some c ≡ command_of words → IsBounded c
bounded_by words c e = bounded-same (command_of words) c (sym e) (command_bounded words)
