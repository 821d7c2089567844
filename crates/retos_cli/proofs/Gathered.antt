-- Names that are gathered one by one.
use Rattle.std.proofs.Common.{◌≡◌, ℕ, ◌<◌, ◌+◌, Bool, true, false, List, [], ◌∷◌, ◌++◌, Some, None, cond, refl, ap, sym, ◌∙◌, length, drop, append_assoc, arith}
use Rattle.std.proofs.Math.Seq.{drop-cons}
use Rattle.std.proofs.lemmas.List.{append-nil}
use Rattle.std.proofs.lemmas.Option.{unwrap_or-slice_get}
use Rattle.std.specs.Option.{option_map}
use Rattle.std.specs.declared.option.Option.{Option}
use Rattle.retos_cli.specs.Commands.{is_name, names_of}
use Rattle.retos_cli.specs.Words.{word}

-- the names so far, and those among the words that are left
abbrev pub gathered : List (List ℕ) → List (List ℕ) → Option (List (List ℕ))
gathered names [] = Some names
gathered names (w ∷ ws) = cond (is_name w) (gathered (names ++ w ∷ []) ws) None

joined : (names rest : List (List ℕ)) (w : List ℕ) → (names ++ w ∷ []) ++ rest ≡ names ++ w ∷ rest
joined names rest w = grind (arith, append_assoc)

by_head : (b : Bool) (w : List ℕ) (names : List (List ℕ)) (o : Option (List (List ℕ))) (g : Option (List (List ℕ))) → g ≡ option_map (λ rest. (names ++ w ∷ []) ++ rest) o
    → cond b g None ≡ option_map (λ rest. names ++ rest) (cond b (option_map (λ rest. w ∷ rest) o) None)
by_head false w names o g e = refl
by_head true w names None g e = e
by_head true w names (Some rest) g e = e ∙ ap (λ x. Some x) (joined names rest w)

pub gathered-is : (ws names : List (List ℕ)) → gathered names ws ≡ option_map (λ rest. names ++ rest) (names_of ws)
gathered-is [] names = ap (λ x. Some x) (sym (append-nil names))
gathered-is (w ∷ ws) names = by_head (is_name w) w names (names_of ws) (gathered (names ++ w ∷ []) ws) (gathered-is ws (names ++ w ∷ []))

as_is : (o : Option (List (List ℕ))) → option_map (λ rest. [] ++ rest) o ≡ o
as_is None = refl
as_is (Some x) = refl

pub gathered_all : (ws : List (List ℕ)) → gathered [] ws ≡ names_of ws
gathered_all ws = gathered-is ws [] ∙ as_is (names_of ws)

split : (words : List (List ℕ)) (at : ℕ) → at < length words → drop at words ≡ word words at ∷ drop (at + 1) words
split words at h = grind (arith, drop-cons, unwrap_or-slice_get)

by_true : (b : Bool) (x y : Option (List (List ℕ))) → b ≡ true → cond b x y ≡ x
by_true b x y e = ap (λ c. cond c x y) e

by_false : (b : Bool) (x y : Option (List (List ℕ))) → b ≡ false → cond b x y ≡ y
by_false b x y e = ap (λ c. cond c x y) e

pub gathered_one : (words names : List (List ℕ)) (at : ℕ) → at < length words → is_name (word words at) ≡ true
    → gathered names (drop at words) ≡ gathered (names ++ word words at ∷ []) (drop (at + 1) words)
gathered_one words names at h e = ap (λ ws. gathered names ws) (split words at h) ∙ by_true (is_name (word words at)) (gathered (names ++ word words at ∷ []) (drop (at + 1) words)) None e

pub gathered_none : (words names : List (List ℕ)) (at : ℕ) → at < length words → is_name (word words at) ≡ false → gathered names (drop at words) ≡ None
gathered_none words names at h e = ap (λ ws. gathered names ws) (split words at h) ∙ by_false (is_name (word words at)) (gathered (names ++ word words at ∷ []) (drop (at + 1) words)) None e
