-- Text that is appended piece by piece.
use Rattle.std.proofs.Common.{◌≡◌, ℕ, ◌<◌, List, [], ◌∷◌, ◌++◌, Some, None, ap, ◌∙◌, sym, refl, length, append_assoc, arith}
use Rattle.std.specs.declared.option.Option.{Option}
use Rattle.std.proofs.lemmas.List.{append-nil}
use Rattle.edge_io.specs.Known.{appended, GotPrefix}

-- all but this rest of the whole was appended
pub record GotBefore (old new : Option (List ℕ)) (whole rest : List ℕ) : Type 0 where
  pub part : List ℕ
  pub whole_is : part ++ rest ≡ whole
  pub got : new ≡ appended old part

pub appended_twice : (o : Option (List ℕ)) (a b : List ℕ) → appended (appended o a) b ≡ appended o (a ++ b)
appended_twice None a b = refl
appended_twice (Some xs) a b = ap (λ x. Some x) (grind (arith, append_assoc))

pub appended_none : (o : Option (List ℕ)) → appended o [] ≡ o
appended_none None = refl
appended_none (Some xs) = ap (λ x. Some x) (append-nil xs)

pub more_than_none : (xs ys : List ℕ) → 0 < length xs → 0 < length (xs ++ ys)
more_than_none [] ys h = absurd (omega (arith, h))
more_than_none (x ∷ xs) ys h = omega arith

pub before_start : (old : Option (List ℕ)) (whole : List ℕ) → GotBefore old old whole whole
before_start old whole = record { part = []; whole_is = refl; got = sym (appended_none old) }

pub before_more : (old mid new : Option (List ℕ)) (whole piece left : List ℕ) → GotBefore old mid whole (piece ++ left) → new ≡ appended mid piece → GotBefore old new whole left
before_more old mid new whole piece left b e = record {
  part = b.part ++ piece;
  whole_is = append_assoc b.part piece left ∙ b.whole_is;
  got = e ∙ ap (λ (o : Option (List ℕ)). appended o piece) b.got ∙ appended_twice old b.part piece;
}

pub before_cut : (old mid new : Option (List ℕ)) (whole piece left : List ℕ) → GotBefore old mid whole (piece ++ left) → GotPrefix mid new piece → GotPrefix old new whole
before_cut old mid new whole piece left b g = record {
  part = b.part ++ g.part;
  rest = g.rest ++ left;
  whole_is = append_assoc b.part g.part (g.rest ++ left) ∙ ap (λ (x : List ℕ). b.part ++ x) (sym (append_assoc g.part g.rest left) ∙ ap (λ (x : List ℕ). x ++ left) g.whole_is) ∙ b.whole_is;
  short = more_than_none g.rest left g.short;
  got = g.got ∙ ap (λ (o : Option (List ℕ)). appended o g.part) b.got ∙ appended_twice old b.part g.part;
}
