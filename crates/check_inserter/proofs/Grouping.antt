-- Groups and their units.
use Rattle.std.proofs.Common.{◌≡◌, ℕ, ◌+◌, ◌≤◌, ◌<◌, max, nat_eq, nat_le, if◌then◌else◌, Bool, true, false, List, [], ◌∷◌, ◌++◌, length, map, take, get_or, Option, None, Some, sym, refl, ap, ◌∙◌, arith, rules, append_assoc}
use Rattle.std.proofs.lemmas.Bool.{le-leb}
use Rattle.std.proofs.lemmas.List.{take_more}
use Rattle.code_model.specs.declared.guards.Reach.{Reach}
use Rattle.code_model.specs.Fields.{Fields}
use Rattle.insert_model.specs.declared.line.Line.{Line}
use Rattle.insert_model.specs.declared.piece.Piece.{Piece}
use Rattle.insert_model.specs.declared.piece.Word.{Word}
use Rattle.insert_model.specs.Words.{unit_words}
use Rattle.insert_model.specs.Guards.{wide_guard}
use Rattle.insert_model.specs.Groups.{Cell, cell, run, greatest, later_of, later}
use Rattle.insert_model.specs.Layout.{Jumps, difference_of, beside, reach_of, reach_from, wide_unit, wide_unit_of, unit_of_lines}
use Rattle.check_inserter.specs.declared.groups.Run.{Run}
use Rattle.check_inserter.specs.Cells.{Counts}
use Rattle.check_inserter.proofs.Growing.{unit_words_none, both_words}

-- ---- how many lines are of a group

pub later_first : (f : Fields) (l : Line) (ls : List Line) → f.version < 2 → 0 ≡ later f l ls
unfolding later
later_first f l ls h = let e : nat_le 2 f.version ≡ false = search rules in rw e refl

pub later_none : (f : Fields) (l : Line) (ls : List Line) → cell l ≡ None → 0 ≡ later f l ls
unfolding later
later_none f l ls e = by (nat_le 2 f.version)
  where
    by : (b : Bool) → 0 ≡ (if b then later_of f (cell l) ls else 0)
    by true = ap (λ (o : Option Cell). later_of f o ls) (sym e)
    by false = refl

pub later_some : (f : Fields) (l : Line) (ls : List Line) (c : Cell) (r : Run) (n : ℕ) → 2 ≤ f.version → cell l ≡ Some c → Counts (run f c 3 ls) r → n ≡ (if nat_eq r.greatest 0 then 0 else r.count) → n ≡ later f l ls
unfolding later
later_some f l ls c r n v e are en =
    let second : nat_le 2 f.version ≡ true = le-leb 2 f.version v in
    let same : (if nat_eq r.greatest 0 then 0 else r.count) ≡ later_of f (Some c) ls = λ j. if nat_eq (are.greatest_is j) 0 then 0 else are.count_is j in
    rw second (en ∙ same ∙ ap (λ (o : Option Cell). later_of f o ls) (sym e))

-- ---- the greatest distance

greatest_push : (xs : List ℕ) (y : ℕ) → greatest (xs ++ y ∷ []) ≡ max (greatest xs) y
unfolding greatest
greatest_push [] y = omega arith
greatest_push (x ∷ xs) y = omega (arith, greatest_push xs y)

pub greatest_one : (F : Line → ℕ) (l : Line) (n : ℕ) → n ≡ F l → n ≡ greatest (map F (l ∷ []))
unfolding greatest
greatest_one F l n e = omega (arith, e)

map_push : (F : Line → ℕ) (xs : List Line) (y : Line) → map F (xs ++ y ∷ []) ≡ map F xs ++ F y ∷ []
map_push F [] y = refl
map_push F (x ∷ xs) y = ap (λ (zs : List ℕ). F x ∷ zs) (map_push F xs y)

pub greatest_more : (F : Line → ℕ) (l : Line) (ls : List Line) (i : ℕ) (d : Line) (m n : ℕ) → i < length ls → m ≡ greatest (map F (l ∷ take i ls)) → n ≡ max m (F (get_or ls i d)) → n ≡ greatest (map F (l ∷ take (i + 1) ls))
greatest_more F l ls i d m n h em en =
    let cut : map F (l ∷ take (i + 1) ls) ≡ map F (l ∷ take i ls) ++ F (get_or ls i d) ∷ [] = ap (λ (xs : List Line). map F (l ∷ xs)) (take_more ls i d h) ∙ map_push F (l ∷ take i ls) (get_or ls i d) in
    omega (arith, em, en, ap greatest cut, greatest_push (map F (l ∷ take i ls)) (F (get_or ls i d)))

-- ---- the unit of a group

map_pieces : (F : Line → Piece) (xs : List Line) (y : Line) → map F (xs ++ y ∷ []) ≡ map F xs ++ F y ∷ []
map_pieces F [] y = refl
map_pieces F (x ∷ xs) y = ap (λ (zs : List Piece). F x ∷ zs) (map_pieces F xs y)

pub beside_more : (c : Cell) (out a b : List Word) (ls : List Line) (i : ℕ) (d : Line) (p : Piece) → i < length ls → a ≡ out ++ unit_words (map (beside c) (take i ls)) → p ≡ beside c (get_or ls i d) → b ≡ a ++ unit_words (p ∷ [])
    → b ≡ out ++ unit_words (map (beside c) (take (i + 1) ls))
beside_more c out a b ls i d p h ea ep eb =
    both_words out a b (map (beside c) (take i ls)) (p ∷ []) ea eb
    ∙ ap (λ (ps : List Piece). out ++ unit_words ps)
    (ap (λ (q : Piece). map (beside c) (take i ls) ++ q ∷ []) ep ∙ sym (map_pieces (beside c) (take i ls) (get_or ls i d)) ∙ ap (map (beside c)) (sym (take_more ls i d h)))

pub wide_words : (c : Cell) (l : Line) (ls : List Line) (out a b e : List Word) (g : List Piece) (p : Piece) (r : Reach) (n : ℕ) → n ≡ greatest (map (λ (m : Line). difference_of c (cell m)) (l ∷ ls)) → r ≡ reach_of n
    → g ≡ wide_guard r c.base c.index c.kind → p ≡ beside c l → a ≡ out ++ unit_words g → b ≡ a ++ unit_words (p ∷ []) → e ≡ b ++ unit_words (map (beside c) ls) → e ≡ out ++ unit_words (wide_unit c (l ∷ ls))
unfolding wide_unit
wide_words c l ls out a b e g p r n en er eg ep ea eb ee =
    let reach : r ≡ reach_from c (l ∷ ls) = er ∙ ap reach_of en in
    let same : (g ++ p ∷ []) ++ map (beside c) ls ≡ wide_guard (reach_from c (l ∷ ls)) c.base c.index c.kind ++ map (beside c) (l ∷ ls) =
    append_assoc g (p ∷ []) (map (beside c) ls) ∙ (λ j. (eg ∙ ap (λ (x : Reach). wide_guard x c.base c.index c.kind) reach) j ++ ep j ∷ map (beside c) ls) in
    both_words out b e (g ++ p ∷ []) (map (beside c) ls) (both_words out a b g (p ∷ []) ea eb) ee ∙ ap (λ (ps : List Piece). out ++ unit_words ps) same

pub group_none : (js : Jumps) (size : ℕ) (l : Line) (ls : List Line) (out : List Word) {b : Bool} → b ≡ nat_eq (length ls) 0 → b ≡ false → cell l ≡ None → out ≡ out ++ unit_words (unit_of_lines js size l ls)
group_none js size l [] out e f n = let never : true ≡ false = sym e ∙ f in cc
group_none js size l (k ∷ ks) out e f n = unit_words_none out ∙ ap (λ (o : Option Cell). out ++ unit_words (wide_unit_of o (l ∷ k ∷ ks))) (sym n)
