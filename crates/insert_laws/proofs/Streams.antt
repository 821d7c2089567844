-- Instructions one after another.
use Rattle.std.proofs.Common.{◌≡◌, ℕ, zero, suc, ◌+◌, ◌<◌, List, [], ◌∷◌, ◌++◌, length, take, drop, refl, sym, subst, ap, ◌∙◌, arith}
use Rattle.std.specs.List.{flat_map}
use Rattle.std.proofs.lemmas.List.{append_assoc, append-nil, length-append, length-drop, drop_at, take_at}
use Rattle.std.proofs.lemmas.List.Concat.{flat_map-append}
use Rattle.msp_encode.specs.declared.instr.Instr.{Instr}
use Rattle.msp_encode.specs.Spelling.{Spells, InstrFits}
use Rattle.code_model.specs.Starts.{Begins, Stands, Steps, Reached, Start}
use Rattle.code_laws.specs.Laws.{IsSame, OneStands}
use Rattle.msp_encode.specs.Spelled.{count, spelling}
use Rattle.insert_laws.specs.Pieces.{size_of}
use Rattle.msp_encode.proofs.Spelled.{spells}

abbrev pub FitEach : List Instr → Type 0
FitEach [] = Unit {0}
FitEach (i ∷ is) = InstrFits i × FitEach is

abbrev pub words_of : List Instr → List ℕ
words_of is = flat_map spelling is

pub spelling_length : (i : Instr) → length (spelling i) ≡ count i
unfolding spelling
spelling_length i = omega arith

pub size_none : size_of [] ≡ 0
unfolding size_of
size_none = refl

pub size_push : (is : List Instr) (i : Instr) → size_of (is ++ i ∷ []) ≡ size_of is + count i
unfolding size_of
size_push is i =
    let e : flat_map spelling (is ++ i ∷ []) ≡ flat_map spelling is ++ flat_map spelling (i ∷ []) = flat_map-append spelling is (i ∷ []) in
    omega (arith, ap length e, length-append (flat_map spelling is) (flat_map spelling (i ∷ [])), ap length (append-nil (spelling i)), spelling_length i)

pub size_is : (is : List Instr) → length (words_of is) ≡ size_of is
unfolding size_of
size_is is = refl

fit_middle : (a : List Instr) (i : Instr) (b : List Instr) → FitEach (a ++ i ∷ b) → InstrFits i
fit_middle [] i b f = f.0
fit_middle (x ∷ a) i b f = fit_middle a i b f.1

words_split : (a : List Instr) (i : Instr) (b : List Instr) → words_of (a ++ i ∷ b) ≡ words_of a ++ (spelling i ++ words_of b)
words_split a i b = flat_map-append spelling a (i ∷ b)

begins_with : (i : Instr) (ws : List ℕ) → InstrFits i → Begins (spelling i ++ ws) i (count i)
begins_with i ws f =
    let e : take (count i) (spelling i ++ ws) ≡ spelling i = take_at (spelling i) ws (count i) (spelling_length i) in
    (omega (arith, length-append (spelling i) ws, spelling_length i), subst (Spells i) (sym e) (spells i f))

pub stands_at : (a : List Instr) (i : Instr) (b : List Instr) → FitEach (a ++ i ∷ b) → Stands (words_of (a ++ i ∷ b)) (size_of a) i (count i)
stands_at a i b f =
    let e : drop (size_of a) (words_of (a ++ i ∷ b)) ≡ spelling i ++ words_of b =
    ap (drop (size_of a)) (words_split a i b) ∙ drop_at (words_of a) (spelling i ++ words_of b) (size_of a) (size_is a) in
    subst (λ (ws : List ℕ). Begins ws i (count i)) (sym e) (begins_with i (words_of b) (fit_middle a i b f))

pub record Cut (is : List Instr) (at : ℕ) : Type 0 where
  pub before : List Instr
  pub instr : Instr
  pub after : List Instr
  pub are : is ≡ before ++ instr ∷ after
  pub place : at ≡ size_of before

-- the walk comes to a cut, or to the end
data Come (is : List Instr) (at : ℕ) : Type 0 where
  AtCut : Cut is at → Come is at
  AtEnd : at ≡ size_of is → Come is at

come_on : (a : List Instr) (is : List Instr) → Come (a ++ is) (size_of a)
come_on a [] = AtEnd (ap size_of (sym (append-nil a)))
come_on a (i ∷ is) = AtCut (record { before = a; instr = i; after = is; are = refl; place = refl })

module _ (one : OneStands) where
  come_next : (is : List Instr) (from to : ℕ) → FitEach is → Cut is from → Steps (words_of is) from to → Come is to
  come_next is from to f c s =
      let fit : FitEach (c.before ++ c.instr ∷ c.after) = subst FitEach c.are f in
      let st : Stands (words_of is) from c.instr (count c.instr) =
      subst (λ (js : List Instr). Stands (words_of js) from c.instr (count c.instr)) (sym c.are)
      (subst (λ (n : ℕ). Stands (words_of (c.before ++ c.instr ∷ c.after)) n c.instr (count c.instr)) (sym c.place) (stands_at c.before c.instr c.after fit)) in
      let same : IsSame s.instr c.instr s.words (count c.instr) = one (words_of is) from s.instr c.instr s.words (count c.instr) s.stands st in
      let e : to ≡ size_of (c.before ++ c.instr ∷ []) = omega (arith, s.ends, same.words, c.place, size_push c.before c.instr) in
      let split : is ≡ (c.before ++ c.instr ∷ []) ++ c.after = c.are ∙ sym (append_assoc c.before (c.instr ∷ []) c.after) in
      subst (λ (js : List Instr). Come js to) (sym split) (subst (λ (n : ℕ). Come ((c.before ++ c.instr ∷ []) ++ c.after) n) (sym e) (come_on (c.before ++ c.instr ∷ []) c.after))

  cut_from : (is : List Instr) (at : ℕ) → at < length (words_of is) → Come is at → Cut is at
  cut_from is at h (AtCut c) = c
  cut_from is at h (AtEnd e) = absurd (omega (arith, size_is is))

  -- a place that is left lies before the end
  step_inside : (code : List ℕ) (from to : ℕ) → Steps code from to → from < length code
  step_inside code from to s = inside s.instr s.words s.stands
    where
      inside : (i : Instr) (n : ℕ) → Stands code from i n → from < length code
      inside i zero st = absurd st.1
      inside i (suc n) st = omega (arith, st.0, length-drop from code)

  come_to : (is : List Instr) (k at : ℕ) → FitEach is → Reached (words_of is) k at → Come is at
  come_to is zero at f r = subst (λ (n : ℕ). Come is n) (size_none ∙ sym r) (come_on [] is)
  come_to is (suc k) at f (from, r, s) = come_next is from at f (cut_from is from (step_inside (words_of is) from at s) (come_to is k from f r)) s

  pub start_cut : (is : List Instr) (at : ℕ) → FitEach is → Start (words_of is) at → Cut is at
  start_cut is at f s = cut_from is at s.below (come_to is s.count at f s.reached)

-- ---- from a cut to a start

reach : (a b : List Instr) → FitEach (a ++ b) → (k : ℕ) × Reached (words_of (a ++ b)) k (size_of a)
reach a b f = reach_from [] a b f (0, size_none)
  where
    reach_from : (done a b : List Instr) → FitEach (done ++ (a ++ b)) → ((k : ℕ) × Reached (words_of (done ++ (a ++ b))) k (size_of done))
        → (k : ℕ) × Reached (words_of (done ++ (a ++ b))) k (size_of (done ++ a))
    reach_from done [] b f r = subst (λ (js : List Instr). (k : ℕ) × Reached (words_of (done ++ b)) k (size_of js)) (sym (append-nil done)) r
    reach_from done (i ∷ a) b f r =
        let split : done ++ (i ∷ a ++ b) ≡ (done ++ i ∷ []) ++ (a ++ b) = sym (append_assoc done (i ∷ []) (a ++ b)) in
        let next : (k : ℕ) × Reached (words_of (done ++ (i ∷ a ++ b))) k (size_of (done ++ i ∷ [])) =
        (suc r.0, (size_of done, r.1, record { instr = i; words = count i; stands = stands_at done i (a ++ b) f; ends = size_push done i })) in
        let go : (k : ℕ) × Reached (words_of ((done ++ i ∷ []) ++ (a ++ b))) k (size_of ((done ++ i ∷ []) ++ a)) =
        reach_from (done ++ i ∷ []) a b (subst FitEach split f) (subst (λ (js : List Instr). (k : ℕ) × Reached (words_of js) k (size_of (done ++ i ∷ []))) split next) in
        subst (λ (js : List Instr). (k : ℕ) × Reached (words_of js) k (size_of (done ++ (i ∷ a)))) (sym split)
        (subst (λ (js : List Instr). (k : ℕ) × Reached (words_of ((done ++ i ∷ []) ++ (a ++ b))) k (size_of js)) (append_assoc done (i ∷ []) a) go)

pub cut_start : (is : List Instr) (at : ℕ) → FitEach is → Cut is at → Start (words_of is) at
cut_start is at f c =
    let fit : FitEach (c.before ++ c.instr ∷ c.after) = subst FitEach c.are f in
    let r = reach c.before (c.instr ∷ c.after) fit in
    let st = stands_at c.before c.instr c.after fit in
    let s : Start (words_of (c.before ++ c.instr ∷ c.after)) (size_of c.before) = record { count = r.0; reached = r.1; below = below_end c.before c.instr c.after } in
    subst (λ (js : List Instr). Start (words_of js) at) (sym c.are) (subst (λ (n : ℕ). Start (words_of (c.before ++ c.instr ∷ c.after)) n) (sym c.place) s)
  where
    below_end : (a : List Instr) (i : Instr) (b : List Instr) → size_of a < length (words_of (a ++ i ∷ b))
    below_end a i b =
        omega (arith, ap length (words_split a i b), length-append (words_of a) (spelling i ++ words_of b), length-append (spelling i) (words_of b), spelling_length i, size_is a)

pub cut_stands : (is : List Instr) (at : ℕ) → FitEach is → (c : Cut is at) → Stands (words_of is) at c.instr (count c.instr)
cut_stands is at f c =
    let fit : FitEach (c.before ++ c.instr ∷ c.after) = subst FitEach c.are f in
    subst (λ (js : List Instr). Stands (words_of js) at c.instr (count c.instr)) (sym c.are)
    (subst (λ (n : ℕ). Stands (words_of (c.before ++ c.instr ∷ c.after)) n c.instr (count c.instr)) (sym c.place) (stands_at c.before c.instr c.after fit))
