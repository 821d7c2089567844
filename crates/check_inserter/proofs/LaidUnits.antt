-- The units of the groups so far, and where they stand.
use Rattle.std.proofs.Common.{◌≡◌, ℕ, zero, suc, ◌+◌, ◌-◌, ◌≤◌, ◌<◌, nat_lt, true, false, List, [], ◌∷◌, ◌++◌, inl, inr, length, map, take, drop, get_or, slice_index, replicate, ℤ, Option, sym, subst, refl, ap, ◌∙◌, arith, rules, append_assoc}
use Rattle.std.proofs.lemmas.Bool.{cases_lt}
use Rattle.std.proofs.lemmas.List.{append-nil, take_all, length-drop, drop_more, drop_all, length-append, length-replicate, get_or_append_left, get_or-append_right, get_or-replicate, get_or-map}
use Rattle.std.proofs.lemmas.List.Concat.{flat_map-append}
use Rattle.msp_encode.specs.declared.instr.Instr.{Instr}
use Rattle.msp_encode.specs.declared.instr.Instr.TheVariants as instr
use Rattle.code_model.specs.declared.object.Object.{Object}
use Rattle.code_model.specs.Fields.{Fields, fields}
use Rattle.insert_model.specs.declared.line.Line.{Line}
use Rattle.insert_model.specs.declared.piece.Word.{Word}
use Rattle.msp_encode.specs.Spelled.{count}
use Rattle.insert_model.specs.Words.{unit_words}
use Rattle.insert_model.specs.Source.{lines}
use Rattle.insert_model.specs.Units.{static_bytes}
use Rattle.insert_model.specs.Groups.{later, Group, groups_from, groups}
use Rattle.insert_model.specs.Layout.{Jumps, line_unit_of, line_unit, unit_of_lines, unit_in, units, before}
use Rattle.check_inserter.specs.declared.laying.Laid.{Laid}
use Rattle.source_faults.specs.Read.{IsRow, IsSource}
use Rattle.check_inserter.specs.Places.{IsLaidIn}

-- ---- the groups before a place

not_less : (a b : ℕ) → b ≤ a → nat_lt a b ≡ false
not_less a b h = search rules

is_less : (a b : ℕ) → a < b → nat_lt a b ≡ true
is_less a b h = search rules

pub before_in : (k : ℕ) (g : Group) (gs : List Group) → g.head.at < k → before k (g ∷ gs) ≡ g ∷ before k gs
unfolding before
before_in k g gs h = rw (is_less g.head.at k h) refl

pub before_out : (k : ℕ) (g : Group) (gs : List Group) → k ≤ g.head.at → before k (g ∷ gs) ≡ before k gs
unfolding before
before_out k g gs h = rw (not_less g.head.at k h) refl

before_none : (k : ℕ) → before k [] ≡ []
unfolding before
before_none k = refl

before_append : (k : ℕ) (xs ys : List Group) → before k (xs ++ ys) ≡ before k xs ++ before k ys
before_append k [] ys = ap (λ (gs : List Group). gs ++ before k ys) (sym (before_none k))
before_append k (x ∷ xs) ys = elim (cases_lt x.head.at k) [
  | inl less ↦ before_in k x (xs ++ ys) less ∙ ap (λ (gs : List Group). x ∷ gs) (before_append k xs ys) ∙ ap (λ (gs : List Group). gs ++ before k ys) (sym (before_in k x xs less))
  | inr more ↦ before_out k x (xs ++ ys) more ∙ before_append k xs ys ∙ ap (λ (gs : List Group). gs ++ before k ys) (sym (before_out k x xs more))
]

-- groups that start before a place
pub Below : ℕ → List Group → Type 0
Below k [] = Unit {0}
Below k (g ∷ gs) = (g.head.at < k) × Below k gs

below_more : (a b : ℕ) (gs : List Group) → a ≤ b → Below a gs → Below b gs
unfolding Below
below_more a b [] h r = tt
below_more a b (g ∷ gs) h r = (omega (arith, r.0), below_more a b gs h r.1)

below_push : (k : ℕ) (gs : List Group) (g : Group) → Below k gs → g.head.at < k → Below k (gs ++ g ∷ [])
unfolding Below
below_push k [] g r h = (h, tt)
below_push k (x ∷ xs) g r h = (r.0, below_push k xs g r.1 h)

below_all : (k : ℕ) (gs : List Group) → Below k gs → before k gs ≡ gs
unfolding Below
below_all k [] r = before_none k
below_all k (g ∷ gs) r = before_in k g gs r.0 ∙ ap (λ (hs : List Group). g ∷ hs) (below_all k gs r.1)

-- groups of lines that begin at a place or behind
pub above : (f : Fields) (k from to skip : ℕ) (ls : List Line) → IsRow from ls to → k ≤ from → before k (groups_from f skip ls) ≡ []
unfolding groups_from
above f k from to zero [] r h = before_none k
above f k from to (suc skip) [] r h = before_none k
above f k from to (suc skip) (l ∷ ls) r h = above f k (from + count l.instr) to skip ls r.1 (omega arith)
above f k from to zero (l ∷ ls) r h =
    before_out k (record { head = l; rest = take (later f l ls) ls }) (groups_from f (later f l ls) ls) (omega (arith, r.0))
    ∙ above f k (from + count l.instr) to (later f l ls) ls r.1 (omega arith)

pub groups_none : (f : Fields) (skip : ℕ) → groups_from f skip [] ≡ []
unfolding groups_from
groups_none f zero = refl
groups_none f (suc skip) = refl

pub some_count : (i : Instr) → 1 ≤ count i
some_count (instr.Two op w s d) = omega arith
some_count (instr.One op w s) = omega arith
some_count instr.Reti = omega arith
some_count (instr.Jump c k) = omega arith

-- ---- units

pub units_append : (js : Jumps) (size : ℕ) (xs ys : List Group) → units js size (xs ++ ys) ≡ units js size xs ++ units js size ys
unfolding units
units_append js size xs ys = flat_map-append (λ g. unit_words (unit_in js size g)) xs ys

pub units_one : (js : Jumps) (size : ℕ) (g : Group) → units js size (g ∷ []) ≡ unit_words (unit_in js size g)
unfolding units
units_one js size g = append-nil (unit_words (unit_in js size g))

units_none : (js : Jumps) (size : ℕ) → units js size [] ≡ []
unfolding units
units_none js size = refl

-- a unit asks for the jump of its first line alone
same_line : (js ks : Jumps) (size : ℕ) (l : Line) (i : Instr) → js l ≡ ks l → line_unit_of js size l i ≡ line_unit_of ks size l i
same_line js ks size l (instr.Two op w s d) e = refl
same_line js ks size l (instr.One op w s) e = refl
same_line js ks size l instr.Reti e = refl
same_line js ks size l (instr.Jump c k) e = ap (λ (j : Option ℤ). line_unit_of (λ m. j) size l (instr.Jump c k)) e

same_unit : (js ks : Jumps) (size : ℕ) (l : Line) (rest : List Line) → js l ≡ ks l → unit_of_lines js size l rest ≡ unit_of_lines ks size l rest
unfolding line_unit
same_unit js ks size l [] e = same_line js ks size l l.instr e
same_unit js ks size l (m ∷ ms) e = refl

unit_is : (js : Jumps) (size : ℕ) (l : Line) (rest : List Line) (j : Option ℤ) → j ≡ js l → unit_of_lines (λ m. j) size l rest ≡ unit_in js size (record { head = l; rest = rest })
unfolding unit_in
unit_is js size l rest j e = same_unit (λ m. j) js size l rest e

-- ---- the walk over the lines

pub record IsLaidTo (js : Jumps) (o : Object) (ls : List Line) (i skip : ℕ) (ws : List Word) (ps : List ℕ) : Type 0 where
  pub done : List Group
  pub split : groups_from (fields o) 0 ls ≡ done ++ groups_from (fields o) skip (drop i ls)
  pub words : ws ≡ units js (static_bytes (fields o)) done
  pub below : Below (length ps) done
  pub back : IsRow (length ps) (drop i ls) (length o.code)
  pub each : (k : ℕ) → k < length ps → slice_index ps k ≡ length (units js (static_bytes (fields o)) (before k (groups_from (fields o) 0 ls)))

pub laid_begins : (js : Jumps) (o : Object) (ls : List Line) → IsRow 0 ls (length o.code) → IsLaidTo js o ls 0 0 [] []
unfolding Below
laid_begins js o ls row = record {
  done = [];
  split = refl;
  words = sym (units_none js (static_bytes (fields o)));
  below = tt;
  back = row;
  each = λ k h. let never : k < 0 = h in absurd (omega arith);
}

-- a place at which the done groups are those before it
at_place : (js : Jumps) (o : Object) (ls : List Line) (done behind : List Group) (ws : List Word) (k : ℕ) → groups_from (fields o) 0 ls ≡ done ++ behind → ws ≡ units js (static_bytes (fields o)) done
    → Below k done → before k behind ≡ [] → length ws ≡ length (units js (static_bytes (fields o)) (before k (groups_from (fields o) 0 ls)))
at_place js o ls done behind ws k split words below none =
    let e : before k (groups_from (fields o) 0 ls) ≡ done =
    ap (before k) split ∙ before_append k done behind ∙ ap (λ (gs : List Group). gs ++ before k behind) (below_all k done below) ∙ ap (λ (gs : List Group). done ++ gs) none ∙ append-nil done in
    ap length words ∙ ap (λ (gs : List Group). length (units js (static_bytes (fields o)) gs)) (sym e)

module _ (js : Jumps) (o : Object) (ls : List Line) (i skip : ℕ) (words : List Word) (places : List ℕ) (r : IsLaidTo js o ls i skip words places) (h : i < length ls) (l d : Line) (is : l ≡ get_or ls i d) where
  cut : drop i ls ≡ l ∷ drop (i + 1) ls
  cut = drop_more ls i d h ∙ ap (λ (m : Line). m ∷ drop (i + 1) ls) (sym is)

  row : IsRow (length places) (l ∷ drop (i + 1) ls) (length o.code)
  row = subst (λ (ms : List Line). IsRow (length places) ms (length o.code)) cut r.back

  -- a line of an earlier group
  module _ (s n : ℕ) (es : skip ≡ suc s) (q : List ℕ) (en : n ≡ count l.instr) (eq : q ≡ places ++ replicate n (length words)) where
    split_on : groups_from (fields o) 0 ls ≡ r.done ++ groups_from (fields o) s (drop (i + 1) ls)
    unfolding groups_from
    split_on = r.split ∙ (λ j. r.done ++ groups_from (fields o) (es j) (cut j))

    length_on : length q ≡ length places + count l.instr
    length_on = omega (arith, ap length eq, length-append places (replicate n (length words)), length-replicate n (length words), en)

    each_on : (k : ℕ) → k < length q → slice_index q k ≡ length (units js (static_bytes (fields o)) (before k (groups_from (fields o) 0 ls)))
    each_on k less =
        ap (λ (xs : List ℕ). slice_index xs k) eq ∙
        elim (cases_lt k (length places)) as (λ _. slice_index (places ++ replicate n (length words)) k ≡ length (units js (static_bytes (fields o)) (before k (groups_from (fields o) 0 ls)))) [
          | inl old ↦ get_or_append_left places (replicate n (length words)) 0 k old ∙ r.each k old
          | inr here ↦
              get_or-append_right places (replicate n (length words)) (length places) k 0 refl here
              ∙ get_or-replicate n (k - length places) (length words) 0 (omega (arith, length_on, en))
              ∙ at_place js o ls r.done (groups_from (fields o) s (drop (i + 1) ls)) words k split_on r.words (below_more (length places) k r.done here r.below)
              (above (fields o) k (length places + count l.instr) (length o.code) s (drop (i + 1) ls) row.1 (omega (arith, length_on)))
        ]

    pub laid_skips : IsLaidTo js o ls (i + 1) s words q
    laid_skips = record {
      done = r.done;
      split = split_on;
      words = r.words;
      below = below_more (length places) (length q) r.done (omega (arith, length_on)) r.below;
      back = subst (λ (x : ℕ). IsRow x (drop (i + 1) ls) (length o.code)) (sym length_on) row.1;
      each = each_on;
    }

  -- the first line of a group
  module _ (zs : skip ≡ 0) (m : ℕ) (em : m ≡ later (fields o) l (drop (i + 1) ls)) (rest : List Line) (er : rest ≡ take m (drop (i + 1) ls)) (j : Option ℤ) (ej : j ≡ js l) (size : ℕ) (ez : size ≡ static_bytes (fields o))
      (p q : List ℕ) (w : List Word) (n : ℕ) (ep : p ≡ places ++ replicate 1 (length words)) (ew : w ≡ words ++ unit_words (unit_of_lines (λ x. j) size l rest))
      (en : n ≡ count l.instr - 1) (eq : q ≡ p ++ replicate n (length w)) where
    group : Group
    group = record { head = l; rest = take (later (fields o) l (drop (i + 1) ls)) (drop (i + 1) ls) }

    split_first : groups_from (fields o) 0 ls ≡ r.done ++ group ∷ groups_from (fields o) m (drop (i + 1) ls)
    unfolding groups_from group
    split_first =
        r.split ∙ (λ x. r.done ++ groups_from (fields o) (zs x) (cut x)) ∙ (λ x. r.done ++ group ∷ groups_from (fields o) (sym em x) (drop (i + 1) ls))

    split_next : groups_from (fields o) 0 ls ≡ (r.done ++ group ∷ []) ++ groups_from (fields o) m (drop (i + 1) ls)
    split_next = split_first ∙ sym (append_assoc r.done (group ∷ []) (groups_from (fields o) m (drop (i + 1) ls)))

    rest_is : rest ≡ take (later (fields o) l (drop (i + 1) ls)) (drop (i + 1) ls)
    rest_is = er ∙ ap (λ (x : ℕ). take x (drop (i + 1) ls)) em

    unit_here : unit_words (unit_of_lines (λ x. j) size l rest) ≡ units js (static_bytes (fields o)) (group ∷ [])
    unfolding group
    unit_here =
        (λ x. unit_words (unit_of_lines (λ y. j) (ez x) l (rest_is x)))
        ∙ ap unit_words (unit_is js (static_bytes (fields o)) l (take (later (fields o) l (drop (i + 1) ls)) (drop (i + 1) ls)) j ej) ∙ sym (units_one js (static_bytes (fields o)) group)

    words_on : w ≡ units js (static_bytes (fields o)) (r.done ++ group ∷ [])
    words_on =
        ew ∙ (λ x. r.words x ++ unit_here x) ∙ sym (units_append js (static_bytes (fields o)) r.done (group ∷ []))

    head_at : group.head.at ≡ length places
    unfolding group
    head_at = row.0

    length_p : length p ≡ length places + 1
    length_p = omega (arith, ap length ep, length-append places (replicate 1 (length words)), length-replicate 1 (length words))

    length_q : length q ≡ length places + count l.instr
    length_q = omega (arith, ap length eq, length-append p (replicate n (length w)), length-replicate n (length w), length_p, en)

    at_first : (k : ℕ) → k ≡ length places → length words ≡ length (units js (static_bytes (fields o)) (before k (groups_from (fields o) 0 ls)))
    at_first k e =
        at_place js o ls r.done (group ∷ groups_from (fields o) m (drop (i + 1) ls)) words k split_first r.words (below_more (length places) k r.done (omega arith) r.below)
        (before_out k group (groups_from (fields o) m (drop (i + 1) ls)) (omega (arith, head_at)) ∙ above (fields o) k (length places + count l.instr) (length o.code) m (drop (i + 1) ls) row.1 (omega arith))

    at_next : (k : ℕ) → length places < k → k ≤ length places + count l.instr → length w ≡ length (units js (static_bytes (fields o)) (before k (groups_from (fields o) 0 ls)))
    at_next k low high =
        at_place js o ls (r.done ++ group ∷ []) (groups_from (fields o) m (drop (i + 1) ls)) w k split_next words_on
        (below_push k r.done group (below_more (length places) k r.done (omega arith) r.below) (omega (arith, head_at)))
        (above (fields o) k (length places + count l.instr) (length o.code) m (drop (i + 1) ls) row.1 high)

    each_next : (k : ℕ) → k < length q → slice_index q k ≡ length (units js (static_bytes (fields o)) (before k (groups_from (fields o) 0 ls)))
    each_next k less =
        ap (λ (xs : List ℕ). slice_index xs k) eq ∙
        elim (cases_lt k (length p)) as (λ _. slice_index (p ++ replicate n (length w)) k ≡ length (units js (static_bytes (fields o)) (before k (groups_from (fields o) 0 ls)))) [
          | inl early ↦
              get_or_append_left p (replicate n (length w)) 0 k early ∙ ap (λ (xs : List ℕ). slice_index xs k) ep ∙
              elim (cases_lt k (length places)) as (λ _. slice_index (places ++ replicate 1 (length words)) k ≡ length (units js (static_bytes (fields o)) (before k (groups_from (fields o) 0 ls)))) [
                | inl old ↦ get_or_append_left places (replicate 1 (length words)) 0 k old ∙ r.each k old
                | inr here ↦
                    get_or-append_right places (replicate 1 (length words)) (length places) k 0 refl here
                    ∙ get_or-replicate 1 (k - length places) (length words) 0 (omega (arith, length_p))
                    ∙ at_first k (omega (arith, length_p))
              ]
          | inr late ↦
              get_or-append_right p (replicate n (length w)) (length p) k 0 refl late
              ∙ get_or-replicate n (k - length p) (length w) 0 (omega (arith, length_q, length_p, en))
              ∙ at_next k (omega (arith, length_p)) (omega (arith, length_q))
        ]

    pub laid_steps : IsLaidTo js o ls (i + 1) m w q
    laid_steps = record {
      done = r.done ++ group ∷ [];
      split = split_next;
      words = words_on;
      below = below_push (length q) r.done group (below_more (length places) (length q) r.done (omega (arith, length_q)) r.below) (omega (arith, head_at, length_q, some_count l.instr));
      back = subst (λ (x : ℕ). IsRow x (drop (i + 1) ls) (length o.code)) (sym length_q) row.1;
      each = each_next;
    }

pub laid_ends : (js : Jumps) (o : Object) (ls : List Line) (i skip : ℕ) (words : List Word) (places q : List ℕ) (laid : Laid) → IsLaidTo js o ls i skip words places → length ls ≤ i → IsSource o ls
    → q ≡ places ++ replicate 1 (length words) → laid.words.items ≡ words → laid.places.items ≡ q → IsLaidIn js o laid
unfolding groups
laid_ends js o ls i skip words places q laid r past source eq ew ep = record {
  words = ew ∙ r.words ∙ ap (units js (static_bytes (fields o))) (sym groups_are);
  places = record { count = count_is; each = each_is; past = past_is };
}
  where
    none : groups_from (fields o) skip (drop i ls) ≡ []
    none = ap (groups_from (fields o) skip) (drop_all i ls past) ∙ groups_none (fields o) skip

    split : groups_from (fields o) 0 ls ≡ r.done
    split = r.split ∙ ap (λ (gs : List Group). r.done ++ gs) none ∙ append-nil r.done

    groups_are : groups_from (fields o) 0 (lines (fields o)) ≡ r.done
    groups_are = ap (groups_from (fields o) 0) (sym source.are) ∙ split

    end : length places ≡ length o.code
    end = subst (λ (ms : List Line). IsRow (length places) ms (length o.code)) (drop_all i ls past) r.back

    all_below : (k : ℕ) → length o.code ≤ k → before k r.done ≡ r.done
    all_below k h = below_all k r.done (below_more (length places) k r.done (omega (arith, end)) r.below)

    past_is : (k : ℕ) → length o.code ≤ k → before k (groups_from (fields o) 0 (lines (fields o))) ≡ groups_from (fields o) 0 (lines (fields o))
    past_is k h = subst (λ (gs : List Group). before k gs ≡ gs) (sym groups_are) (all_below k h)

    count_is : length laid.places.items ≡ length o.code + 1
    count_is = ap length (ep ∙ eq) ∙ (let e : length (places ++ replicate 1 (length words)) ≡ length o.code + 1 = omega (arith, length-append places (replicate 1 (length words)), length-replicate 1 (length words), end) in e)

    at_end : (k : ℕ) → length o.code ≤ k → length words ≡ length (units js (static_bytes (fields o)) (before k (groups_from (fields o) 0 ls)))
    at_end k h = ap length r.words ∙ ap (λ (gs : List Group). length (units js (static_bytes (fields o)) gs)) (sym (all_below k h) ∙ ap (before k) (sym split))

    each_is : (k : ℕ) → k ≤ length o.code → slice_index laid.places.items k ≡ length (units js (static_bytes (fields o)) (before k (groups_from (fields o) 0 (lines (fields o)))))
    each_is k less =
        ap (λ (xs : List ℕ). slice_index xs k) (ep ∙ eq) ∙
        (elim (cases_lt k (length places)) as (λ _. slice_index (places ++ replicate 1 (length words)) k ≡ length (units js (static_bytes (fields o)) (before k (groups_from (fields o) 0 ls)))) [
          | inl old ↦ get_or_append_left places (replicate 1 (length words)) 0 k old ∙ r.each k old
          | inr here ↦
              get_or-append_right places (replicate 1 (length words)) (length places) k 0 refl here
              ∙ get_or-replicate 1 (k - length places) (length words) 0 (omega (arith, end))
              ∙ at_end k (omega (arith, end))
        ])
        ∙ ap (λ (ms : List Line). length (units js (static_bytes (fields o)) (before k (groups_from (fields o) 0 ms)))) source.are

pub carried : (js : Jumps) (o : Object) (ls : List Line) (i : ℕ) (m n : ℕ) (v w : List Word) (p q : List ℕ) → IsLaidTo js o ls i m v p → n ≡ m → w ≡ v → q ≡ p → IsLaidTo js o ls i n w q
carried js o ls i m n v w p q r en ew eq =
    subst (λ (x : ℕ). IsLaidTo js o ls i x w q) (sym en) (subst (λ (x : List Word). IsLaidTo js o ls i m x q) (sym ew) (subst (λ (x : List ℕ). IsLaidTo js o ls i m v x) (sym eq) r))

-- a line's jump
pub offset_at : (js : Jumps) (ls : List Line) (ks : List (Option ℤ)) (i : ℕ) (d : Line) (k : Option ℤ) → ks ≡ map js ls → i < length ls → get_or ks i k ≡ js (get_or ls i d)
offset_at js ls ks i d k e h = ap (λ (xs : List (Option ℤ)). get_or xs i k) e ∙ get_or-map js ls i d k h

-- the lines behind a place, as a part up to the end
pub all_behind : (n : ℕ) (ls : List Line) → take (length ls - n) (drop n ls) ≡ drop n ls
all_behind n ls = take_all (length ls - n) (drop n ls) (omega (arith, length-drop n ls))

pub later_behind : (f : Fields) (l : Line) (ls : List Line) (n m : ℕ) → m ≡ later f l (take (length ls - n) (drop n ls)) → m ≡ later f l (drop n ls)
later_behind f l ls n m e = e ∙ ap (later f l) (all_behind n ls)
