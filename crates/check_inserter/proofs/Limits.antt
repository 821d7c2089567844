-- Layouts from their offsets, and the first group whose unit passes the most words.
use Rattle.std.proofs.Common.{◌≡◌, ℕ, zero, suc, ◌+◌, ◌*◌, ◌≤◌, ◌<◌, nat_le, nat_lt, if◌then◌else◌, ◌&&◌, Bool, true, false, List, [], ◌∷◌, ◌++◌, inl, inr, length, map, take, slice_index, slice_index_or, replicate, ℤ, pos, Option, None, Some, sym, subst, refl, ap, ◌∙◌, arith, rules}
use Rattle.std.proofs.lemmas.Bool.{cases_order}
use Rattle.std.proofs.lemmas.Int.{ints}
use Rattle.msp_encode.specs.declared.instr.Instr.{Instr}
use Rattle.msp_encode.specs.declared.instr.Instr.TheVariants as instr
use Rattle.code_model.specs.declared.object.TheConstants.{CODE_WORDS_MAX}
use Rattle.code_model.specs.declared.object.Object.{Object}
use Rattle.code_model.specs.Fields.{Fields, fields}
use Rattle.insert_model.specs.declared.line.Line.{Line}
use Rattle.msp_encode.specs.Spelled.{count}
use Rattle.insert_model.specs.Source.{lines}
use Rattle.insert_model.specs.Units.{static_bytes}
use Rattle.insert_model.specs.Groups.{later, Group, groups_from, groups}
use Rattle.insert_model.specs.Layout.{Jumps, units, before, longest, is_near_in, is_short, sized, final_offset, final, final_units}
use Rattle.insert_model.specs.Laws.{SizedLaw, ShortLaw}
use Rattle.insert_model.specs.Faults.{most_words, Passes}
use Rattle.check_inserter.specs.declared.laying.Laid.{Laid}
use Rattle.check_inserter.specs.Fitting.{IsOffset, AreOffsets}
use Rattle.source_faults.specs.Read.{IsRow}
use Rattle.check_inserter.specs.Places.{ArePlaces, IsLaidIn, IsFinal}
use Rattle.check_inserter.proofs.LaidUnits.{before_in, before_out, above, some_count}
use Rattle.check_inserter.proofs.Placing.{units_cons, all_words}

-- ---- offsets of lines

offset_in : (js : Jumps) (ls : List Line) (k : ℕ) → ((l : Line) → IsOffset (js l)) → IsOffset (slice_index_or (map js ls) k None)
offset_in js [] k each = tt
offset_in js (l ∷ ls) zero each = each l
offset_in js (l ∷ ls) (suc k) each = offset_in js ls k each

offsets_are : (js : Jumps) (ls : List Line) (ks : List (Option ℤ)) → ((l : Line) → IsOffset (js l)) → ks ≡ map js ls → AreOffsets ks
offsets_are js ls ks each e = record { each = λ k. subst (λ (xs : List (Option ℤ)). IsOffset (slice_index_or xs k None)) (sym e) (offset_in js ls k each) }

pub long_offsets : (ls : List Line) (ks : List (Option ℤ)) → ks ≡ map longest ls → AreOffsets ks
long_offsets ls ks e = offsets_are longest ls ks (λ l. tt) e

zero_by : (b : Bool) → IsOffset (if b then Some (pos 0) else None)
zero_by true = (omega (arith, ints), omega (arith, ints))
zero_by false = tt

sized_offset : (f : Fields) (l : Line) → IsOffset (sized f l)
unfolding sized
sized_offset f l = zero_by (is_short f l)

pub sized_offsets : (f : Fields) (ls : List Line) (ks : List (Option ℤ)) → ks ≡ map (sized f) ls → AreOffsets ks
sized_offsets f ls ks e = offsets_are (sized f) ls ks (sized_offset f) e

final_by : (f : Fields) (l : Line) (i : Instr) (b : Bool) → ShortLaw → l.instr ≡ i → is_short f l ≡ b → IsOffset (if b then Some (final_offset f l i) else None)
final_by f l i false law e s = tt
final_by f l (instr.Two op w x d) true law e s = zero_by true
final_by f l (instr.One op w x) true law e s = zero_by true
final_by f l instr.Reti true law e s = zero_by true
final_by f l (instr.Jump c k) true law e s = subst (λ (i : Instr). IsOffset (Some (final_offset f l i))) e (law f l c k e s)

final_is_offset : (f : Fields) → ShortLaw → (l : Line) → IsOffset (final f l)
unfolding final
final_is_offset f law l = final_by f l l.instr (is_short f l) law refl refl

pub final_offsets : (f : Fields) (ls : List Line) (ks : List (Option ℤ)) → ShortLaw → ks ≡ map (final f) ls → AreOffsets ks
final_offsets f ls ks law e = offsets_are (final f) ls ks (final_is_offset f law) e

pub no_offsets : (ls : List Line) (n : ℕ) → n ≡ length ls → replicate n None ≡ map longest ls
no_offsets ls n e = ap (λ (m : ℕ). replicate m None) e ∙ all ls
  where
    all : (ms : List Line) → replicate (length ms) None ≡ map longest ms
    all [] = refl
    all (m ∷ ms) = ap (λ (ks : List (Option ℤ)). None ∷ ks) (all ms)

-- ---- the final layout

-- in version 1 no jump is short
not_short : (f : Fields) (l : Line) → f.version < 2 → is_short f l ≡ false
unfolding is_short
not_short f l h = let e : nat_le 2 f.version ≡ false = search rules in ap (λ (b : Bool). b && is_near_in longest f l l.instr) e

long_is_final : (f : Fields) → f.version < 2 → longest ≡ final f
unfolding final
long_is_final f h = λ i l. ap (λ (b : Bool). if b then Some (final_offset f l l.instr) else None) (sym (not_short f l h)) i

long_is_sized : (f : Fields) → f.version < 2 → longest ≡ sized f
unfolding sized
long_is_sized f h = λ i l. ap (λ (b : Bool). if b then Some (pos 0) else None) (sym (not_short f l h)) i

final_of : (o : Object) (laid : Laid) → SizedLaw → laid.words.items ≡ final_units (fields o) → ArePlaces (sized (fields o)) (fields o) laid.places.items → IsFinal o laid
unfolding final_units
final_of o laid law words places = record {
  words = words;
  size = ap length words ∙ law (fields o) (groups (fields o));
  places = places;
}

pub first_final : (o : Object) (laid : Laid) → SizedLaw → o.version < 2 → IsLaidIn longest o laid → IsFinal o laid
unfolding final_units
first_final o laid law first is =
    final_of o laid law (is.words ∙ ap (λ (js : Jumps). units js (static_bytes (fields o)) (groups (fields o))) (long_is_final (fields o) first))
    (subst (λ (js : Jumps). ArePlaces js (fields o) laid.places.items) (long_is_sized (fields o) first) is.places)

pub placed_final : (o : Object) (laid : Laid) → SizedLaw → IsLaidIn (final (fields o)) o laid → IsFinal o laid
unfolding final_units
placed_final o laid law is =
    final_of o laid law is.words (record {
      count = is.places.count;
      each = λ k h. is.places.each k h ∙ law (fields o) (before k (groups (fields o)));
      past = is.places.past;
    })

-- ---- the group that passes

-- the group that starts at a place
record CutAt (at : ℕ) (gs : List Group) : Type 0 where
  front : List Group
  group : Group
  behind : List Group
  are : gs ≡ front ++ group ∷ behind
  is : group.head.at ≡ at
  here : before at gs ≡ front
  next : before (at + 1) gs ≡ front ++ group ∷ []

none_before : (js : Jumps) (size : ℕ) (xs ys : List Group) → xs ≡ ys → length (units js size xs) < length (units js size ys) → ⊥
none_before js size xs ys e h = omega (arith, ap (λ (gs : List Group). length (units js size gs)) e)

with_head : (at : ℕ) (g : Group) (gs : List Group) → g.head.at < at → CutAt at gs → CutAt at (g ∷ gs)
with_head at g gs h c = record {
  front = g ∷ c.front;
  group = c.group;
  behind = c.behind;
  are = ap (λ (hs : List Group). g ∷ hs) c.are;
  is = c.is;
  here = before_in at g gs h ∙ ap (λ (hs : List Group). g ∷ hs) c.here;
  next = before_in (at + 1) g gs (omega arith) ∙ ap (λ (hs : List Group). g ∷ hs) c.next;
}

cut_step : (js : Jumps) (size at : ℕ) (g : Group) (gs : List Group) → ((k : ℕ) → k ≤ g.head.at + 1 → before k gs ≡ []) → (length (units js size (before at gs)) < length (units js size (before (at + 1) gs)) → CutAt at gs)
    → length (units js size (before at (g ∷ gs))) < length (units js size (before (at + 1) (g ∷ gs))) → CutAt at (g ∷ gs)
cut_step js size at g gs none go h = elim (cases_order g.head.at at) [
  | inl same ↦ record {
    front = [];
    group = g;
    behind = gs;
    are = refl;
    is = same;
    here = before_out at g gs (omega arith) ∙ none at (omega arith);
    next = before_in (at + 1) g gs (omega arith) ∙ ap (λ (hs : List Group). g ∷ hs) (none (at + 1) (omega arith));
  }
  | inr other ↦ elim other [
    | inl less ↦
        with_head at g gs less
        (go (omega (
          arith,
          h,
          ap (λ (hs : List Group). length (units js size hs)) (before_in at g gs less),
          ap (λ (hs : List Group). length (units js size hs)) (before_in (at + 1) g gs (omega arith)),
          units_cons js size g (before at gs),
          units_cons js size g (before (at + 1) gs),
        )))
    | inr more ↦
        absurd (none_before js size (before at (g ∷ gs)) (before (at + 1) (g ∷ gs))
        (before_out at g gs (omega arith) ∙ none at (omega arith) ∙ sym (before_out (at + 1) g gs (omega arith) ∙ none (at + 1) (omega arith))) h)
  ]
]

none_in : (k : ℕ) → before k [] ≡ []
unfolding before
none_in k = refl

cut_at : (js : Jumps) (f : Fields) (size at from to skip : ℕ) (ls : List Line) → IsRow from ls to → length (units js size (before at (groups_from f skip ls))) < length (units js size (before (at + 1) (groups_from f skip ls)))
    → CutAt at (groups_from f skip ls)
unfolding groups_from
cut_at js f size at from to zero [] r h = absurd (none_before js size (before at []) (before (at + 1) []) (none_in at ∙ sym (none_in (at + 1))) h)
cut_at js f size at from to (suc skip) [] r h = absurd (none_before js size (before at []) (before (at + 1) []) (none_in at ∙ sym (none_in (at + 1))) h)
cut_at js f size at from to (suc skip) (l ∷ ls) r h = cut_at js f size at (from + count l.instr) to skip ls r.1 h
cut_at js f size at from to zero (l ∷ ls) r h =
    cut_step js size at (record { head = l; rest = take (later f l ls) ls }) (groups_from f (later f l ls) ls)
    (λ k less. above f k (from + count l.instr) to (later f l ls) ls r.1 (omega (arith, r.0, less, some_count l.instr)))
    (cut_at js f size at (from + count l.instr) to (later f l ls) ls r.1) h

pub first_place_small : (js : Jumps) (f : Fields) (places : List ℕ) → ArePlaces js f places → slice_index places 0 ≤ CODE_WORDS_MAX
unfolding units before
first_place_small js f places are = omega (arith, are.each 0 (omega arith), ap (λ (gs : List Group). length (units js (static_bytes f) gs)) (none_at (groups f)))
  where
    none_at : (gs : List Group) → before 0 gs ≡ []
    none_at [] = refl
    none_at (g ∷ gs) = let e : nat_lt g.head.at 0 ≡ false = search rules in rw e (none_at gs)

pub passes_at : (o : Object) (laid : Laid) (at : ℕ) → SizedLaw → IsRow 0 (lines (fields o)) (length o.code) → IsFinal o laid → at < length o.code → slice_index laid.places.items at ≤ CODE_WORDS_MAX
    → CODE_WORDS_MAX < slice_index laid.places.items (at + 1) → Passes o (2 * at)
unfolding most_words groups
passes_at o laid at law row is inside small big =
    let here : slice_index laid.places.items at ≡ length (units (sized (fields o)) (static_bytes (fields o)) (before at (groups (fields o)))) = is.places.each at (omega arith) in
    let next : slice_index laid.places.items (at + 1) ≡ length (units (sized (fields o)) (static_bytes (fields o)) (before (at + 1) (groups (fields o)))) = is.places.each (at + 1) (omega arith) in
    let c : CutAt at (groups (fields o)) = cut_at (sized (fields o)) (fields o) (static_bytes (fields o)) at 0 (length o.code) 0 (lines (fields o)) row (omega (arith, here, next)) in
    record {
      before = c.front;
      group = c.group;
      after = c.behind;
      are = c.are;
      is = ap (λ (n : ℕ). 2 * n) (sym c.is);
      fits = omega (arith, here, law (fields o) c.front, ap (λ (gs : List Group). length (units (sized (fields o)) (static_bytes (fields o)) gs)) c.here);
      passes = omega (arith, next, law (fields o) (c.front ++ c.group ∷ []), ap (λ (gs : List Group). length (units (sized (fields o)) (static_bytes (fields o)) gs)) c.next);
    }

pub all_fit : (o : Object) (laid : Laid) (at : ℕ) → IsFinal o laid → at ≡ length o.code → slice_index laid.places.items at ≤ CODE_WORDS_MAX → length laid.words.items ≤ most_words
unfolding most_words
all_fit o laid at is e small =
    omega (arith, is.size, all_words (sized (fields o)) (fields o) laid.places.items is.places, ap (slice_index laid.places.items) e)
