-- What a script gives for a step, from what a schedule has ready.
use Rattle.std.proofs.Common.{◌≡◌, ◌≢◌, ℕ, zero, suc, ◌<◌, ◌≤◌, ◌+◌, ◌-◌, ◌%◌, ◌^◌, ◌⊎◌, true, cond, ltb, List, [], ◌∷◌, ◌++◌, length, map, get_or, drop, Option, Some, None, ap, ◌∙◌, sym, refl, subst, arith, inl, inr}
use Rattle.std.specs.Prelude.{All, bit_or}
use Rattle.std.specs.Int.Bits.{or_zero_r}
use Rattle.std.specs.List.{fold, filter_map, cons_option, slice_get, list_any, AllPairs}
use Rattle.std.specs.Option.{option_or}
use Rattle.std.proofs.lemmas.Bool.{ne_eqb, cases_lt, lt-ltb, le-ltb}
use Rattle.std.proofs.Common.{eq-eqb}
use Rattle.std.proofs.lemmas.List.{drop_more, append-nil, get_or-drop, length-drop}
use Rattle.std.proofs.lemmas.List.Folds.{list_any_at, list_any_none}
use Rattle.std.proofs.lemmas.Option.{slice_get_within, get_or_from_slice_get, slice_get_cases}
use Rattle.trace_model.specs.declared.scripts.AtKind.{AtKind}
use Rattle.trace_model.specs.declared.scripts.AtKind.TheVariants.{Raise, Pick}
use Rattle.trace_model.specs.declared.scripts.At.{At}
use Rattle.trace_model.specs.declared.scripts.Every.{Every}
use Rattle.trace_model.specs.declared.scripts.Script.{Script}
use Rattle.trace_model.specs.Scripts.{IsAt, IsKind, Rises}
use Rattle.trace_model.specs.Draws.{kind_mask, at_mask, kind_pick, at_pick, all_masks, every_mask, first_or, mix_pick, raised_at, pick_at}
use Rattle.script_schedule.specs.declared.schedule.Schedule.{Schedule}
use Rattle.script_schedule.specs.declared.schedule.AtLines.{AtLines}
use Rattle.script_schedule.specs.declared.schedule.EveryLines.{EveryLines}
use Rattle.script_schedule.specs.Readiness.{ArePassed, AreAhead, IsReady, listed, or_kind_pick, AreTaken, AreAtLines, AreEveryLines}

-- ---- lines of other steps

abbrev AreOthers : List At → (step : ℕ) → Type 0
AreOthers ats step = (i : ℕ) (d : At) → i < length ats → (get_or ats i d).step ≢ step

mask-other : (step : ℕ) (a : At) → a.step ≢ step → at_mask step a ≡ 0
mask-other step a h = ap (λ b. cond b (kind_mask a.what) 0) (ne_eqb a.step step h)

pick-other : (step : ℕ) (a : At) → a.step ≢ step → at_pick step a ≡ None
pick-other step a h = ap (λ b. cond b (kind_pick a.what) None) (ne_eqb a.step step h)

mask-own : (step : ℕ) (a : At) → a.step ≡ step → at_mask step a ≡ kind_mask a.what
mask-own step a h = ap (λ b. cond b (kind_mask a.what) 0) (eq-eqb a.step step h)

pick-own : (step : ℕ) (a : At) → a.step ≡ step → at_pick step a ≡ kind_pick a.what
pick-own step a h = ap (λ b. cond b (kind_pick a.what) None) (eq-eqb a.step step h)

or-mask-other : (step n : ℕ) (a : At) → a.step ≢ step → bit_or n (at_mask step a) ≡ n
or-mask-other step n a h = ap (λ m. bit_or n m) (mask-other step a h) ∙ or_zero_r n

others-behind : (x : At) (xs : List At) (step : ℕ) → AreOthers (x ∷ xs) step → AreOthers xs step
others-behind x xs step h = λ i d l. h (suc i) d (omega arith)

masks-none : (step n : ℕ) (xs : List At) → AreOthers xs step → fold bit_or n (map (at_mask step) xs) ≡ n
masks-none step n [] h = refl
masks-none step n (x ∷ xs) h =
    ap (λ m. fold bit_or m (map (at_mask step) xs)) (or-mask-other step n x (h 0 x (omega arith)))
    ∙ masks-none step n xs (others-behind x xs step h)

picks-none : (step : ℕ) (xs : List At) → AreOthers xs step → filter_map (at_pick step) xs ≡ []
picks-none step [] h = refl
picks-none step (x ∷ xs) h =
    ap (λ o. cons_option o (filter_map (at_pick step) xs)) (pick-other step x (h 0 x (omega arith)))
    ∙ picks-none step xs (others-behind x xs step h)

abbrev AreOthersBelow : List At → (place step : ℕ) → Type 0
AreOthersBelow ats place step = (i : ℕ) (d : At) → i < place → i < length ats → (get_or ats i d).step ≢ step

below-behind : (x : At) (xs : List At) (n step : ℕ) → AreOthersBelow (x ∷ xs) (suc n) step → AreOthersBelow xs n step
below-behind x xs n step h = λ i d b l. h (suc i) d (omega arith) (omega arith)

masks-skip : (step n : ℕ) (xs : List At) (k : ℕ) → AreOthersBelow xs k step
    → fold bit_or n (map (at_mask step) (drop k xs)) ≡ fold bit_or n (map (at_mask step) xs)
masks-skip step n xs zero h = refl
masks-skip step n [] (suc k) h = refl
masks-skip step n (x ∷ xs) (suc k) h =
    masks-skip step n xs k (below-behind x xs k step h)
    ∙ ap (λ m. fold bit_or m (map (at_mask step) xs)) (sym (or-mask-other step n x (h 0 x (omega arith) (omega arith))))

picks-skip : (step : ℕ) (xs : List At) (k : ℕ) → AreOthersBelow xs k step
    → filter_map (at_pick step) (drop k xs) ≡ filter_map (at_pick step) xs
picks-skip step xs zero h = refl
picks-skip step [] (suc k) h = refl
picks-skip step (x ∷ xs) (suc k) h =
    picks-skip step xs k (below-behind x xs k step h)
    ∙ ap (λ o. cons_option o (filter_map (at_pick step) xs)) (sym (pick-other step x (h 0 x (omega arith) (omega arith))))

-- ---- the loop over the `at` lines

below-step : (ats : List At) (place step s : ℕ) → ArePassed ats place s → suc s ≤ step → AreOthersBelow ats place step
below-step ats place step s h l = λ i d b w. let p = h i d b in omega arith

pub taken_start : (ats : List At) (step : ℕ) (a : AtLines) → a.raised ≡ 0 → a.pick ≡ None → a.place ≤ length ats → 1 ≤ step
    → ArePassed ats a.place (step - 1) → AreTaken ats step a
taken_start ats step a r p w l passed =
    let before : AreOthersBelow ats a.place step = below-step ats a.place step (step - 1) passed (omega arith) in
    record {
      within = w;
      passed = λ i d b. let h = passed i d b in omega arith;
      masks = ap (λ n. fold bit_or n (map (at_mask step) (drop a.place ats))) r ∙ masks-skip step 0 ats a.place before;
      picks = λ other.
          ap (λ o. first_or (listed o ++ filter_map (at_pick step) (drop a.place ats)) other) p
          ∙ ap (λ xs. first_or xs other) (picks-skip step ats a.place before);
    }

pick-more : (pick : Option ℕ) (kind : AtKind) (rest : List ℕ) (other : Option ℕ)
    → first_or (listed (or_kind_pick pick kind) ++ rest) other ≡ first_or (listed pick ++ cons_option (kind_pick kind) rest) other
pick-more None (Raise line) rest other = refl
pick-more None (Pick number) rest other = refl
pick-more (Some x) kind rest other = refl

picks-cons : (step : ℕ) (x : At) (xs : List At) → x.step ≡ step
    → filter_map (at_pick step) (x ∷ xs) ≡ cons_option (kind_pick x.what) (filter_map (at_pick step) xs)
picks-cons step x xs e = ap (λ o. cons_option o (filter_map (at_pick step) xs)) (pick-own step x e)

-- one line more
pub record IsOneMore (ats : List At) (step : ℕ) (a b : AtLines) (x : At) : Type 0 where
  pub found : slice_get ats a.place ≡ Some x
  pub here : x.step ≡ step
  pub raised : b.raised ≡ bit_or a.raised (kind_mask x.what)
  pub pick : b.pick ≡ or_kind_pick a.pick x.what
  pub place : b.place ≡ a.place + 1

drop-here : (ats : List At) (n : ℕ) (x : At) → slice_get ats n ≡ Some x → drop n ats ≡ x ∷ drop (n + 1) ats
drop-here ats n x e =
    drop_more ats n x (slice_get_within ats n x e) ∙ ap (λ y. y ∷ drop (n + 1) ats) (get_or_from_slice_get ats n x x e)

passed-more : (ats : List At) (step n k : ℕ) (x : At) → k ≡ n + 1 → slice_get ats n ≡ Some x → x.step ≡ step → ArePassed ats n step
    → ArePassed ats k step
passed-more ats step n k x e found here h = λ i d l. by i d (cases_lt i n) (omega arith)
  where
    by : (i : ℕ) (d : At) → (i < n) ⊎ (n ≤ i) → i ≤ n → (get_or ats i d).step ≤ step
    by i d (inl b) l = h i d b
    by i d (inr b) l =
        let at : i ≡ n = omega arith in
        let is : (get_or ats i d).step ≡ x.step = ap (λ j. (get_or ats j d).step) at ∙ ap (λ (y : At). y.step) (get_or_from_slice_get ats n x d found) in
        omega arith

pub taken_more : (ats : List At) (step : ℕ) (a b : AtLines) (x : At) → AreTaken ats step a → IsOneMore ats step a b x → AreTaken ats step b
taken_more ats step a b x h m =
    let within : a.place < length ats = slice_get_within ats a.place x m.found in
    let rest : List At = drop (a.place + 1) ats in
    let left : drop b.place ats ≡ rest = ap (λ n. drop n ats) m.place in
    record {
      within = omega (arith, m.place);
      passed = passed-more ats step a.place b.place x m.place m.found m.here h.passed;
      masks =
          ap (λ xs. fold bit_or b.raised (map (at_mask step) xs)) left
          ∙ ap (λ n. fold bit_or n (map (at_mask step) rest)) (m.raised ∙ ap (λ k. bit_or a.raised k) (sym (mask-own step x m.here)))
          ∙ ap (λ xs. fold bit_or a.raised (map (at_mask step) xs)) (sym (drop-here ats a.place x m.found))
          ∙ h.masks;
      picks = λ other.
          ap (λ xs. first_or (listed b.pick ++ filter_map (at_pick step) xs) other) left
          ∙ ap (λ o. first_or (listed o ++ filter_map (at_pick step) rest) other) m.pick
          ∙ pick-more a.pick x.what (filter_map (at_pick step) rest) other
          ∙ ap (λ xs. first_or (listed a.pick ++ xs) other)
          (sym (picks-cons step x rest m.here) ∙ ap (λ xs. filter_map (at_pick step) xs) (sym (drop-here ats a.place x m.found)))
          ∙ h.picks other;
    }

-- ---- its end

rest-others : (ats : List At) (step place due : ℕ) → AreAhead ats place due → suc step ≤ due → AreOthers (drop place ats) step
rest-others ats step place due h l = λ i d w.
    let within : place + i < length ats = omega (arith, length-drop place ats) in
    let p : due ≤ (get_or ats (place + i) d).step = h (place + i) d (omega arith) within in
    let same : (get_or (drop place ats) i d).step ≡ (get_or ats (place + i) d).step = ap (λ (y : At). y.step) (get_or-drop place ats i d) in
    omega (arith, p, same)

pub taken_end : (ats : List At) (step : ℕ) (a b : AtLines) → AreTaken ats step a → b.raised ≡ a.raised → b.pick ≡ a.pick
    → b.place ≡ a.place → AreAhead ats a.place b.due → suc step ≤ b.due → AreAtLines ats step b
taken_end ats step a b h r p w ahead later =
    let rest : AreOthers (drop a.place ats) step = rest-others ats step a.place b.due ahead later in
    record {
      within = omega (arith, w, h.within);
      passed = λ i d l. h.passed i d (omega (arith, w));
      ahead = λ i d l m. ahead i d (omega (arith, w)) m;
      later = later;
      raised = r ∙ sym (masks-none step a.raised (drop a.place ats) rest) ∙ h.masks;
      pick = λ other.
          ap (λ o. first_or (listed o) other) p
          ∙ ap (λ xs. first_or xs other)
          (sym (append-nil (listed a.pick)) ∙ ap (λ xs. listed a.pick ++ xs) (sym (picks-none step (drop a.place ats) rest)))
          ∙ h.picks other;
    }

pub ahead_here : (ats : List At) (n : ℕ) (x : At) → AllPairs Rises ats → slice_get ats n ≡ Some x → AreAhead ats n x.step
ahead_here ats n x rising found = λ i d l w. by i d (cases_lt n i) l w
  where
    is : (d : At) → (get_or ats n d).step ≡ x.step
    is d = ap (λ (y : At). y.step) (get_or_from_slice_get ats n x d found)

    by : (i : ℕ) (d : At) → (n < i) ⊎ (i ≤ n) → n ≤ i → i < length ats → x.step ≤ (get_or ats i d).step
    by i d (inl b) l w = let h = rising n i d b w in let e = is d in omega arith
    by i d (inr b) l w =
        let at : i ≡ n = omega arith in
        let same : (get_or ats i d).step ≡ x.step = ap (λ j. (get_or ats j d).step) at ∙ is d in
        omega arith

pub ahead_none : (ats : List At) (n due : ℕ) → slice_get ats n ≡ None → AreAhead ats n due
ahead_none ats n due found = λ i d l w. absurd (by (slice_get_cases ats n).1 i l w)
  where
    by : ((x : At) × (n < length ats) × (slice_get ats n ≡ Some x) × (get_or ats n x ≡ x)) ⊎ ((length ats ≤ n) × (slice_get ats n ≡ None))
        → (i : ℕ) → n ≤ i → i < length ats → ⊥
    by (inl (x, b, e, g)) i l w = cc
    by (inr (b, e)) i l w = omega arith

-- ---- a step

or-first : (o other : Option ℕ) → option_or o other ≡ first_or (listed o) other
or-first None other = refl
or-first (Some x) other = refl

pub due_raised : (t : Script) (step : ℕ) (a : AtLines) (e : EveryLines) → AreAtLines t.ats step a → AreEveryLines t.everys.items step e
    → bit_or a.raised e.raised ≡ raised_at t step
unfolding raised_at
due_raised t step a e h k =
    ap (λ n. bit_or n e.raised) h.raised ∙ ap (λ n. bit_or (all_masks (map (at_mask step) t.ats)) n) k.raised

pub due_pick : (t : Script) (step : ℕ) (a : AtLines) (drawn : Option ℕ) → AreAtLines t.ats step a → drawn ≡ mix_pick t.mix step
    → option_or a.pick drawn ≡ pick_at t step
unfolding pick_at
due_pick t step a drawn h e =
    or-first a.pick drawn ∙ h.pick drawn ∙ ap (λ o. first_or (filter_map (at_pick step) t.ats) o) e

-- no line stands for the step
ready-others : (t : Script) (s step : ℕ) (c : Schedule) → IsReady t s c → step ≡ s + 1 → step < c.due → AreOthers t.ats step
ready-others t s step c h e l = λ i d w. by i d w (cases_lt i c.place)
  where
    by : (i : ℕ) (d : At) → i < length t.ats → (i < c.place) ⊎ (c.place ≤ i) → (get_or t.ats i d).step ≢ step
    by i d w (inl b) = let p = h.passed i d b in omega arith
    by i d w (inr b) = let p = h.ahead i d b w in omega arith

mask-apart : (step : ℕ) (e : Every) → step % e.period ≢ 0 → every_mask step e ≡ 0
mask-apart step e h = ap (λ b. cond b (2 ^ e.line) 0) (ne_eqb (step % e.period) 0 h)

everys-none : (step : ℕ) (es : List Every) → All (λ e. step % e.period ≢ 0) es → all_masks (map (every_mask step) es) ≡ 0
everys-none step [] h = refl
everys-none step (e ∷ es) h =
    ap (λ n. fold bit_or n (map (every_mask step) es)) (mask-apart step e (h 0 e (omega arith)))
    ∙ everys-none step es (λ i d l. h (suc i) d (omega arith))

pub idle_raised : (t : Script) (s step : ℕ) (c : Schedule) → IsReady t s c → step ≡ s + 1 → step < c.due → 0 ≡ raised_at t step
unfolding raised_at
idle_raised t s step c h e l =
    sym (
    ap (λ n. bit_or n (all_masks (map (every_mask step) t.everys.items))) (masks-none step 0 t.ats (ready-others t s step c h e l))
    ∙ everys-none step t.everys.items (h.between step (omega arith) l)
    )

pub idle_pick : (t : Script) (s step : ℕ) (c : Schedule) (drawn : Option ℕ) → IsReady t s c → step ≡ s + 1 → step < c.due
    → drawn ≡ mix_pick t.mix step → drawn ≡ pick_at t step
unfolding pick_at
idle_pick t s step c drawn h e l is =
    is ∙ sym (ap (λ xs. first_or xs (mix_pick t.mix step)) (picks-none step t.ats (ready-others t s step c h e l)))

-- ---- later lines

pub later_is : (t : Script) (s : ℕ) (c : Schedule) → IsReady t s c → ltb c.place (length t.ats) ≡ list_any (λ a. ltb s a.step) t.ats
later_is t s c h = by (cases_lt c.place (length t.ats))
  where
    some : At
    some = record { step = 0; what = Raise 0 }

    by : (c.place < length t.ats) ⊎ (length t.ats ≤ c.place) → ltb c.place (length t.ats) ≡ list_any (λ a. ltb s a.step) t.ats
    by (inl b) =
        let l : c.due ≤ (get_or t.ats c.place some).step = h.ahead c.place some (omega arith) b in
        let here : ltb s (get_or t.ats c.place some).step ≡ true = lt-ltb _ _ (omega (arith, h.later)) in
        lt-ltb _ _ b ∙ sym (list_any_at (λ a. ltb s a.step) t.ats c.place some b here)
    by (inr b) =
        le-ltb _ _ b ∙ sym (list_any_none (λ a. ltb s a.step) t.ats (λ i d w. le-ltb s (get_or t.ats i d).step (h.passed i d (omega arith))))

-- ---- the line at a place

pub kind_at : (ats : List At) (n : ℕ) (x : At) → All IsAt ats → slice_get ats n ≡ Some x → IsKind x.what
kind_at ats n x h e =
    subst (λ (y : At). IsKind y.what) (get_or_from_slice_get ats n x x e) (h n x (slice_get_within ats n x e)).kind

pub step_at : (ats : List At) (n step : ℕ) (x : At) → AreAhead ats n step → slice_get ats n ≡ Some x → x.step ≤ step → x.step ≡ step
step_at ats n step x h e l =
    let p : step ≤ (get_or ats n x).step = h n x (omega arith) (slice_get_within ats n x e) in
    let same : (get_or ats n x).step ≡ x.step = ap (λ (y : At). y.step) (get_or_from_slice_get ats n x x e) in
    omega arith
