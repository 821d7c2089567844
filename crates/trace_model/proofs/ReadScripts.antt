-- The script that a text stands for meets the rules.
use Rattle.std.proofs.Common.{◌≡◌, ◌≢◌, ◌≤◌, ◌<◌, ◌+◌, ℕ, Bool, true, false, cond, not, zero, suc, eq-eqb, option_map, length-append, ◌&&◌, ◌||◌, eqb, leb, List, [], ◌∷◌, ◌++◌, length, get_or, Option, Some, None, Result, Ok, refl, subst, arith}
use Rattle.std.specs.Prelude.{All, fold, option_and_then}
use Rattle.std.specs.List.{AllPairs}
use Rattle.std.specs.Str.Parse.{digits_value}
use Rattle.std.proofs.lemmas.Bool.Decides.{nat_tests}
use Rattle.std.proofs.lemmas.List.Quantifiers.{all_pairs_push}
use Rattle.std.proofs.lemmas.List.Elements.{All-append}
use Rattle.trace_model.specs.declared.scripts.AtKind.{AtKind}
use Rattle.trace_model.specs.declared.scripts.AtKind.TheVariants.{Raise, Pick}
use Rattle.trace_model.specs.declared.scripts.At.{At}
use Rattle.trace_model.specs.declared.scripts.Every.{Every}
use Rattle.trace_model.specs.declared.scripts.Script.{Script}
use Rattle.trace_model.specs.Scripts.{IsStep, IsKind, IsAt, IsEvery, IsPick, Rises, PicksApart, IsScript}
use Rattle.trace_model.specs.Grammar.{words_of, number_in, every_by, every_of, kind_of, at_by, at_of, mix_of, with_every, last_step, is_pick, is_pick_at, has_pick_at, may_follow, with_at, with_mix, with_statement, with_words, with_line, empty_script, behind_line, script_from, script_of}
use Rattle.std.specs.Str.Lines.{lines}

-- a choice that is there was made
chosen : {X : Type 0} (b : Bool) (x y : X) → cond b (Some x) None ≡ Some y → (b ≡ true) × (x ≡ y)
chosen true x y e = (refl, cc)
chosen false x y e = cc

both : (a b c : Bool) → (a && b && c) ≡ true → (b ≡ true) × (c ≡ true)
both true true true e = (refl, refl)
both true true false e = cc
both true false c e = cc
both false b c e = cc

not_chosen : {X : Type 0} (b : Bool) (x y : X) → cond b None (Some x) ≡ Some y → x ≡ y
not_chosen true x y e = cc
not_chosen false x y e = cc

two : (b c : Bool) → (b && c) ≡ true → (b ≡ true) × (c ≡ true)
two true true e = (refl, refl)
two true false e = cc
two false c e = cc

none_of : (a b : Bool) → a ≡ true → not (a && b) ≡ true → b ≡ false
none_of true true e h = cc
none_of true false e h = refl
none_of false b e h = cc

some_keeps : (t u : Script) → IsScript t → Some t ≡ Some u → IsScript u
some_keeps t u h e = let same : t ≡ u = cc in subst IsScript same h

one_of : {X : Type 0} (P : X → Type 0) (x : X) → P x → All P (x ∷ [])
one_of P x h zero d k = h
one_of P x h (suc n) d k = absurd (omega arith)

-- ---- numbers

pub record IsBetween (least most n : ℕ) : Type 0 where
  pub low : least ≤ n
  pub high : n ≤ most

between : (least most n : ℕ) → leb least n ≡ true → leb n most ≡ true → IsBetween least most n
between least most n low high = record { low = grind (arith, nat_tests); high = grind (arith, nat_tests) }

pub number_is_between : (least most : ℕ) (word : List ℕ) (n : ℕ) → number_in least most word ≡ Some n → IsBetween least most n
unfolding number_in
number_is_between least most word n e =
    let (c, same) = chosen _ _ _ e in
    let (low, high) = both _ _ _ c in
    subst (IsBetween least most) same (between least most (digits_value 10 word) low high)

pub step_is_between : (n : ℕ) → IsBetween 1 10000000 n → IsStep n
step_is_between n h = record { least = h.low; most = h.high }

-- a word that is a number is in its range
abbrev InRange : ℕ → ℕ → Option ℕ → Type 0
InRange least most o = (n : ℕ) → o ≡ Some n → IsBetween least most n

-- ---- kinds of lines

every_by_is : (a b : Option ℕ) (e : Every) → InRange 1 10000000 a → InRange 0 13 b → every_by a b ≡ Some e → IsEvery e
every_by_is None b e ha hb h = cc
every_by_is (Some n) None e ha hb h = cc
every_by_is (Some n) (Some line) e ha hb h =
    let made : Every = record { period = n; line = line } in
    let same : made ≡ e = cc in
    subst IsEvery same (record { period = step_is_between n (ha n refl); line = (hb line refl).high })

every_is : (rest : List (List ℕ)) (e : Every) → every_of rest ≡ Some e → IsEvery e
every_is [] e h = cc
every_is (period ∷ []) e h = cc
every_is (period ∷ line ∷ []) e h = every_by_is _ _ e (number_is_between 1 10000000 period) (number_is_between 0 13 line) h
every_is (period ∷ line ∷ x ∷ xs) e h = cc

kind_by_is : (r p : Bool) (line number : Option ℕ) (kind : AtKind) → InRange 0 13 line → InRange 0 4294967295 number →
    cond r (option_map Raise line) (cond p (option_map Pick number) None) ≡ Some kind → IsKind kind
kind_by_is true p None number kind hl hn h = cc
kind_by_is true p (Some line) number kind hl hn h = let same : Raise line ≡ kind = cc in subst IsKind same (hl line refl).high
kind_by_is false true line None kind hl hn h = cc
kind_by_is false true line (Some number) kind hl hn h = let same : Pick number ≡ kind = cc in subst IsKind same (hn number refl).high
kind_by_is false false line number kind hl hn h = cc

kind_is : (word number : List ℕ) (kind : AtKind) → kind_of word number ≡ Some kind → IsKind kind
unfolding kind_of
kind_is word number kind h = kind_by_is _ _ _ _ kind (number_is_between 0 13 number) (number_is_between 0 4294967295 number) h

at_by_is : (step : Option ℕ) (kind : Option AtKind) (a : At) → InRange 1 10000000 step → ((k : AtKind) → kind ≡ Some k → IsKind k) → at_by step kind ≡ Some a → IsAt a
at_by_is None kind a hs hk h = cc
at_by_is (Some step) None a hs hk h = cc
at_by_is (Some step) (Some kind) a hs hk h =
    let made : At = record { step = step; what = kind } in
    let same : made ≡ a = cc in
    subst IsAt same (record { step = step_is_between step (hs step refl); kind = hk kind refl })

at_is : (rest : List (List ℕ)) (a : At) → at_of rest ≡ Some a → IsAt a
at_is [] a h = cc
at_is (step ∷ []) a h = cc
at_is (step ∷ word ∷ []) a h = cc
at_is (step ∷ word ∷ number ∷ []) a h = at_by_is _ _ a (number_is_between 1 10000000 step) (kind_is word number) h
at_is (step ∷ word ∷ number ∷ x ∷ xs) a h = cc

mix_is : (rest : List (List ℕ)) (n : ℕ) → mix_of rest ≡ Some n → n ≤ 4294967295
mix_is [] n h = cc
mix_is (number ∷ []) n h = (number_is_between 0 4294967295 number n h).high
mix_is (number ∷ x ∷ xs) n h = cc

-- ---- what follows the lines before

pairs_behind : (R : At → At → Type 0) (x : At) (xs : List At) → AllPairs R (x ∷ xs) → AllPairs R xs
pairs_behind R x xs p = λ i j d h k. p (suc i) (suc j) d (omega arith) (omega arith)

abbrev last_from : ℕ → List At → ℕ
last_from n ats = fold (λ step (a : At). a.step) n ats

-- where steps never fall, none is over the last
low_before : (n : ℕ) (xs : List At) → ((k : ℕ) (d : At) → k < length xs → n ≤ (get_or xs k d).step) → AllPairs Rises xs → n ≤ last_from n xs
low_before n [] low rising = omega arith
low_before n (x ∷ xs) low rising =
    let here : n ≤ x.step = low 0 x (omega arith) in
    let rest : x.step ≤ last_from x.step xs = low_before x.step xs (λ k d h. rising 0 (suc k) d (omega arith) (omega arith)) (pairs_behind Rises x xs rising) in
    omega arith

below_last : (n : ℕ) (xs : List At) (k : ℕ) (d : At) → k < length xs → AllPairs Rises xs → (get_or xs k d).step ≤ last_from n xs
below_last n [] k d h rising = absurd (omega arith)
below_last n (x ∷ xs) zero d h rising = low_before x.step xs (λ k e m. rising 0 (suc k) e (omega arith) (omega arith)) (pairs_behind Rises x xs rising)
below_last n (x ∷ xs) (suc k) d h rising = below_last x.step xs k d (omega arith) (pairs_behind Rises x xs rising)

either_false : (a b : Bool) → (a || b) ≡ false → (a ≡ false) × (b ≡ false)
either_false true b e = cc
either_false false b e = (refl, e)

is_pick_true : (kind : AtKind) → IsPick kind → is_pick kind ≡ true
is_pick_true (Raise line) h = absurd h
is_pick_true (Pick number) h = refl

no_pick_here : (step : ℕ) (a : At) → is_pick_at step a ≡ false → IsPick a.what → a.step ≢ step
no_pick_here step a e h same =
    let first : eqb a.step step ≡ true = eq-eqb a.step step same in
    let second : is_pick a.what ≡ true = is_pick_true a.what h in
    let whole : (eqb a.step step && is_pick a.what) ≡ true = rw first second in
    cc

no_pick : (step : ℕ) (xs : List At) (k : ℕ) (d : At) → has_pick_at step xs ≡ false → k < length xs → IsPick (get_or xs k d).what → (get_or xs k d).step ≢ step
no_pick step [] k d e h p = absurd (omega arith)
no_pick step (x ∷ xs) zero d e h p = no_pick_here step x (either_false _ _ e).0 p
no_pick step (x ∷ xs) (suc k) d e h p = no_pick step xs k d (either_false _ _ e).1 (omega arith) p

pick_follows : (ats : List At) (a : At) → not (is_pick a.what && has_pick_at a.step ats) ≡ true → (k : ℕ) (d : At) → k < length ats → PicksApart (get_or ats k d) a
pick_follows ats a e k d h before now =
    let one : is_pick a.what ≡ true = is_pick_true a.what now in
    let none : has_pick_at a.step ats ≡ false = none_of _ _ one e in
    no_pick a.step ats k d none h before

-- ---- a script with a line more

with_every_keeps : (t u : Script) (e : Every) → IsScript t → IsEvery e → with_every t e ≡ Some u → IsScript u
unfolding with_every
with_every_keeps t u e h one made =
    let (few, same) = chosen _ _ _ made in
    let more : All IsEvery (t.everys.items ++ e ∷ []) = All-append IsEvery t.everys.items (e ∷ []) h.everys (one_of IsEvery e one) in
    let fits : length (t.everys.items ++ e ∷ []) ≤ 16 = simp length-append (grind (arith, nat_tests)) in
    subst IsScript same (record { ats = h.ats; everys = more; few_everys = fits; mix = h.mix; rising = h.rising; one_pick = h.one_pick })

with_at_keeps : (t u : Script) (a : At) → IsScript t → IsAt a → with_at t a ≡ Some u → IsScript u
unfolding with_at may_follow
with_at_keeps t u a h one made =
    let (follows, same) = chosen _ _ _ made in
    let parts : (leb (last_step t.ats) a.step ≡ true) × (not (is_pick a.what && has_pick_at a.step t.ats) ≡ true) = two _ _ follows in
    let low : leb (last_step t.ats) a.step ≡ true = parts.0 in
    let apart : not (is_pick a.what && has_pick_at a.step t.ats) ≡ true = parts.1 in
    let step : last_step t.ats ≤ a.step = grind (arith, nat_tests) in
    let more : All IsAt (t.ats ++ a ∷ []) = All-append IsAt t.ats (a ∷ []) h.ats (one_of IsAt a one) in
    let rising : AllPairs Rises (t.ats ++ a ∷ []) = all_pairs_push Rises t.ats a h.rising (λ k d m. let last = below_last 0 t.ats k d m h.rising in omega arith) in
    let picks : AllPairs PicksApart (t.ats ++ a ∷ []) = all_pairs_push PicksApart t.ats a h.one_pick (pick_follows t.ats a apart) in
    subst IsScript same (record { ats = more; everys = h.everys; few_everys = h.few_everys; mix = h.mix; rising = rising; one_pick = picks })

with_mix_keeps : (t u : Script) (n : ℕ) → IsScript t → n ≤ 4294967295 → with_mix t n ≡ Some u → IsScript u
unfolding with_mix
with_mix_keeps t u n h one made =
    let same = not_chosen _ _ _ made in
    subst IsScript same (record { ats = h.ats; everys = h.everys; few_everys = h.few_everys; mix = one; rising = h.rising; one_pick = h.one_pick })

and_then_keeps : {X : Type 0} (o : Option X) (f : X → Option Script) (u : Script) → ((x : X) → o ≡ Some x → f x ≡ Some u → IsScript u) → option_and_then f o ≡ Some u → IsScript u
and_then_keeps None f u each e = cc
and_then_keeps (Some x) f u each e = each x refl e

chain_keeps : (a b c d : Bool) (v w x y : Option Script) (u : Script) → (v ≡ Some u → IsScript u) → (w ≡ Some u → IsScript u) → (x ≡ Some u → IsScript u) → (y ≡ Some u → IsScript u) →
    cond a v (cond b w (cond c x (cond d y None))) ≡ Some u → IsScript u
chain_keeps true b c d v w x y u hv hw hx hy e = hv e
chain_keeps false true c d v w x y u hv hw hx hy e = hw e
chain_keeps false false true d v w x y u hv hw hx hy e = hx e
chain_keeps false false false true v w x y u hv hw hx hy e = hy e
chain_keeps false false false false v w x y u hv hw hx hy e = cc

with_statement_keeps : (t u : Script) (word : List ℕ) (rest : List (List ℕ)) → IsScript t → with_statement t word rest ≡ Some u → IsScript u
unfolding with_statement
with_statement_keeps t u word rest h e =
    chain_keeps _ _ _ _ _ _ _ _ u
    (λ same. some_keeps t u h same)
    (λ made. and_then_keeps (every_of rest) (with_every t) u (λ x is follows. with_every_keeps t u x h (every_is rest x is) follows) made)
    (λ made. and_then_keeps (at_of rest) (with_at t) u (λ x is follows. with_at_keeps t u x h (at_is rest x is) follows) made)
    (λ made. and_then_keeps (mix_of rest) (with_mix t) u (λ x is follows. with_mix_keeps t u x h (mix_is rest x is) follows) made)
    e

with_words_keeps : (t u : Script) (words : List (List ℕ)) → IsScript t → with_words t words ≡ Some u → IsScript u
with_words_keeps t u [] h e = some_keeps t u h e
with_words_keeps t u (word ∷ rest) h e = with_statement_keeps t u word rest h e

if_keeps : (b : Bool) (o : Option Script) (u : Script) → (o ≡ Some u → IsScript u) → cond b o None ≡ Some u → IsScript u
if_keeps true o u each e = each e
if_keeps false o u each e = cc

pub with_line_keeps : (t u : Script) (line : List ℕ) → IsScript t → with_line t line ≡ Some u → IsScript u
unfolding with_line
with_line_keeps t u line h e = if_keeps _ _ u (λ made. with_words_keeps t u (words_of line) h made) e

-- ---- all lines

behind_keeps : (number : ℕ) (o : Option Script) (next : Script → Result Script ℕ) (u : Script) → ((t : Script) → o ≡ Some t → next t ≡ Ok u → IsScript u) → behind_line number o next ≡ Ok u → IsScript u
behind_keeps number None next u each e = cc
behind_keeps number (Some t) next u each e = each t refl e

script_from_keeps : (number : ℕ) (lines : List (List ℕ)) (t u : Script) → IsScript t → script_from number lines t ≡ Ok u → IsScript u
script_from_keeps number [] t u h e = let same : t ≡ u = cc in subst IsScript same h
script_from_keeps number (line ∷ lines) t u h e =
    behind_keeps number (with_line t line) (λ next. script_from (number + 1) lines next) u
    (λ next made rest. script_from_keeps (number + 1) lines next u (with_line_keeps t next line h made) rest) e

empty_is : IsScript empty_script
empty_is = record {
  ats = λ k d h. absurd (omega arith);
  everys = λ k d h. absurd (omega arith);
  few_everys = omega arith;
  mix = tt;
  rising = λ i j d h k. absurd (omega arith);
  one_pick = λ i j d h k. absurd (omega arith);
}

pub script_is : (text : List ℕ) (u : Script) → script_of text ≡ Ok u → IsScript u
unfolding script_of
script_is text u e = script_from_keeps 1 (lines text) empty_script u empty_is e
