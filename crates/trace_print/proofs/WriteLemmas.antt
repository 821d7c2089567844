-- The texts of the items of a list, from a place on.
use Rattle.std.proofs.Common.{◌≡◌, ℕ, ◌+◌, ◌<◌, ◌≤◌, List, [], ◌∷◌, ◌++◌, length, drop, slice_get, get_or, Some, None, sym, ap, ◌∙◌, arith, append_assoc, ◌⊎◌, inl, inr}
use Rattle.std.specs.List.{flat_map}
use Rattle.std.proofs.Math.Seq.{drop-cons}
use Rattle.std.proofs.lemmas.List.{drop_all, append-nil}
use Rattle.std.proofs.lemmas.List.Concat.{flat_map-cons}
use Rattle.std.proofs.lemmas.Option.{slice_get_within, get_or_from_slice_get, slice_get_cases}

-- an item, then what is behind it
drop_from : (ws : List (ℕ × ℕ)) (at : ℕ) (w : ℕ × ℕ) → slice_get ws at ≡ Some w → drop at ws ≡ w ∷ drop (at + 1) ws
drop_from ws at w h =
    grind (arith, drop-cons ws at w (slice_get_within ws at w h), get_or_from_slice_get ws at w w h)

-- nothing is behind the end
drop_past : (ws : List (ℕ × ℕ)) (at : ℕ) → slice_get ws at ≡ None → drop at ws ≡ []
drop_past ws at h = drop_past_by ws at h (slice_get_cases ws at).1
  where
    drop_past_by : (ws : List (ℕ × ℕ)) (at : ℕ) → slice_get ws at ≡ None
        → ((x : ℕ × ℕ) × (at < length ws) × (slice_get ws at ≡ Some x) × (get_or ws at x ≡ x)) ⊎ ((length ws ≤ at) × (slice_get ws at ≡ None))
        → drop at ws ≡ []
    drop_past_by ws at h (inl found) = cc
    drop_past_by ws at h (inr past) = drop_all at ws past.0

texts_from : (f : ℕ × ℕ → List ℕ) (ws : List (ℕ × ℕ)) (at : ℕ) (w : ℕ × ℕ) → slice_get ws at ≡ Some w
    → flat_map f (drop at ws) ≡ f w ++ flat_map f (drop (at + 1) ws)
texts_from f ws at w h = ap (flat_map f) (drop_from ws at w h) ∙ flat_map-cons f w (drop (at + 1) ws)

-- what got an item's text lacks the texts of those behind it
pub one_more : (f : ℕ × ℕ → List ℕ) (line new whole : List ℕ) (ws : List (ℕ × ℕ)) (at : ℕ) (w : ℕ × ℕ) → slice_get ws at ≡ Some w
    → line ++ flat_map f (drop at ws) ≡ whole → new ≡ line ++ f w → new ++ flat_map f (drop (at + 1) ws) ≡ whole
one_more f line new whole ws at w h e n =
    grind (arith, texts_from f ws at w h, append_assoc line (f w) (flat_map f (drop (at + 1) ws)))

-- with no item behind it, it has all
pub no_more : (f : ℕ × ℕ → List ℕ) (line whole : List ℕ) (ws : List (ℕ × ℕ)) (at : ℕ) → slice_get ws at ≡ None
    → line ++ flat_map f (drop at ws) ≡ whole → line ≡ whole
no_more f line whole ws at h e = sym (append-nil line) ∙ ap (λ rest. line ++ flat_map f rest) (sym (drop_past ws at h)) ∙ e
