-- Each line of the source is clean, and the words of its group's unit lie where the place map sends it.
use Rattle.std.proofs.Common.{◌≡◌, ℕ, zero, suc, ◌+◌, ◌*◌, ◌/◌, ◌≤◌, ◌<◌, nat_lt, true, false, List, [], ◌∷◌, ◌++◌, inl, inr, length, slice_index_or, subst, ap, ◌∙◌, arith, rules}
use Rattle.std.proofs.lemmas.Bool.{cases_lt}
use Rattle.std.proofs.lemmas.List.{length-append}
use Rattle.std.proofs.lemmas.List.Concat.{flat_map-append}
use Rattle.msp_encode.specs.Laws.{LegalByCases}
use Rattle.msp_decode.specs.Function.{ReadingLaw}
use Rattle.code_model.specs.declared.object.Object.{Object}
use Rattle.code_model.specs.Fields.{Fields, fields}
use Rattle.insert_model.specs.declared.line.Line.{Line}
use Rattle.insert_model.specs.declared.piece.Word.{Word}
use Rattle.insert_model.specs.Words.{unit_words}
use Rattle.insert_model.specs.Source.{lines}
use Rattle.insert_model.specs.Units.{static_bytes}
use Rattle.insert_model.specs.Groups.{Group, behind, groups}
use Rattle.insert_model.specs.Layout.{Jumps, unit_in, units, before, words_before, sized, place_map}
use Rattle.insert_model.specs.Laws.{SizeLaw, LineLaw, GroupsLaw, SizedLaw}
use Rattle.insert_laws.specs.Pieces.{unit_of_group, pieces_of, pieces}
use Rattle.insert_laws.specs.Shapes.{IsCleanLine}
use Rattle.insert_laws.specs.Lines.{group_words, UnitLies, LinesAreClean, CodeIsPieces, GroupsHaveUnits}
use Rattle.insert_laws.proofs.UnitsFit.{source_fits}
use Rattle.insert_laws.proofs.CleanLines.{AllClean, all_clean}
use Rattle.insert_laws.proofs.Placed.{code_words}
use Rattle.insert_laws.proofs.Guarding.{span, span_append, unit_words_append}
use Rattle.insert_laws.proofs.GroupOrder.{InRow, source_row, first_less, before_group, before_next, place_is, pieces_more}

-- ---- each line is clean

clean_in : (o : Object) (ls : List Line) (l : Line) (k : ℕ) → AllClean o ls → k < length ls → slice_index_or ls k l ≡ l → IsCleanLine o l
clean_in o [] l k c h e = absurd (omega arith)
clean_in o (x ∷ ls) l zero c h e = subst (IsCleanLine o) e c.0
clean_in o (x ∷ ls) l (suc k) c h e = clean_in o ls l k c.1 (omega arith) e

pub all_lines_clean : ReadingLaw → LegalByCases → LinesAreClean
all_lines_clean reads legal o q i l h = clean_in o (lines (fields o)) l h.0 (all_clean o i.clean (source_fits o reads legal)) h.1 h.2

pub code_pieces : CodeIsPieces
code_pieces o q i = code_words o q i

-- ---- a group, those in front of it and those behind it

record Split (gs : List Group) (g : Group) : Type 0 where
  front : List Group
  back : List Group
  are : gs ≡ front ++ g ∷ back

split_in : (gs : List Group) (g : Group) (k : ℕ) → k < length gs → slice_index_or gs k g ≡ g → Split gs g
split_in [] g k h e = absurd (omega arith)
split_in (x ∷ gs) g zero h e = record { front = []; back = gs; are = ap (λ (y : Group). y ∷ gs) e }
split_in (x ∷ gs) g (suc k) h e =
    let s : Split gs g = split_in gs g k (omega arith) e in record { front = x ∷ s.front; back = s.back; are = ap (λ (hs : List Group). x ∷ hs) s.are }

-- ---- the words of their units

-- more groups are before a greater place, so the place map sends a greater offset to no lesser one
more_words : (js : Jumps) (size a b : ℕ) (gs : List Group) → a ≤ b → length (units js size (before a gs)) ≤ length (units js size (before b gs))
unfolding units before
more_words js size a b [] h = omega arith
more_words js size a b (g ∷ gs) h = elim (cases_lt g.head.at a) [
  | inl less ↦
      let m : g.head.at < b = omega arith in
      let e : nat_lt g.head.at a ≡ true = search rules in
      let f : nat_lt g.head.at b ≡ true = search rules in
      rw (e, f) (longer (unit_words (unit_in js size g)) (units js size (before a gs)) (units js size (before b gs)) (more_words js size a b gs h))
  | inr more ↦
      let e : nat_lt g.head.at a ≡ false = search rules in
      elim (cases_lt g.head.at b) [
        | inl less ↦
            let f : nat_lt g.head.at b ≡ true = search rules in
            rw (e, f) (omega (arith, more_words js size a b gs h, length-append (unit_words (unit_in js size g)) (units js size (before b gs))))
        | inr most ↦ let f : nat_lt g.head.at b ≡ false = search rules in rw (e, f) (more_words js size a b gs h)
      ]
]
  where
    longer : (us xs ys : List Word) → length xs ≤ length ys → length (us ++ xs) ≤ length (us ++ ys)
    longer us xs ys h = omega (arith, length-append us xs, length-append us ys)

place_more : (f : Fields) (a b : ℕ) → a ≤ b → place_map f (2 * a) ≤ place_map f (2 * b)
unfolding place_map words_before
place_more f a b h = omega (arith, more_words (sized f) (static_bytes f) (2 * a / 2) (2 * b / 2) (groups f) (omega arith))

module _ (sizes : SizedLaw) (o : Object) where
  one_more : (front : List Group) (g : Group) → span (pieces_of (fields o) (front ++ g ∷ [])) ≡ span (pieces_of (fields o) front) + length (group_words o g)
  unfolding span
  one_more front g = ap span (pieces_more (fields o) front g) ∙ span_append (pieces_of (fields o) front) (unit_of_group (fields o) g)

  all_words : (front : List Group) (g : Group) (back : List Group) → groups (fields o) ≡ front ++ g ∷ back
      → unit_words (pieces (fields o)) ≡ unit_words (pieces_of (fields o) front) ++ (group_words o g ++ unit_words (pieces_of (fields o) back))
  unfolding pieces pieces_of
  all_words front g back e =
      ap (λ (gs : List Group). unit_words (pieces_of (fields o) gs)) e ∙ ap unit_words (flat_map-append (unit_of_group (fields o)) front (g ∷ back))
      ∙ unit_words_append (pieces_of (fields o) front) (unit_of_group (fields o) g ++ pieces_of (fields o) back)
      ∙ ap (λ (ws : List Word). unit_words (pieces_of (fields o) front) ++ ws) (unit_words_append (unit_of_group (fields o) g) (pieces_of (fields o) back))

  unit_lies : InRow 0 (groups (fields o)) (length o.code) → (g : Group) → Split (groups (fields o)) g → UnitLies o g
  unfolding span
  unit_lies c g s =
      let whole : InRow 0 (s.front ++ g ∷ s.back) (length o.code) = subst (λ (gs : List Group). InRow 0 gs (length o.code)) s.are c in
      let upto : (k : ℕ) → g.head.at < k → k ≤ behind g → place_map (fields o) (2 * k) ≡ 2 * (span (pieces_of (fields o) s.front) + length (group_words o g)) =
      λ k h m. place_is sizes (fields o) k (s.front ++ g ∷ []) (ap (before k) s.are ∙ before_next k 0 s.front g s.back (length o.code) whole h m) ∙ ap (λ (n : ℕ). 2 * n) (one_more s.front g) in
      let here : place_map (fields o) (2 * g.head.at) ≡ 2 * span (pieces_of (fields o) s.front) =
      place_is sizes (fields o) g.head.at s.front (ap (before g.head.at) s.are ∙ before_group 0 s.front g s.back (length o.code) whole) in
      let some : g.head.at < behind g = first_less 0 s.front g s.back (length o.code) whole in
      record {
        front = unit_words (pieces_of (fields o) s.front);
        back = unit_words (pieces_of (fields o) s.back);
        are = all_words s.front g s.back s.are;
        first = here;
        behind = upto (behind g) some (omega arith);
        apart = λ t. elim (cases_lt g.head.at t) [
          | inl less ↦ inr (omega (arith, upto (g.head.at + 1) (omega arith) (omega (arith, some)), place_more (fields o) (g.head.at + 1) t (omega arith)))
          | inr more ↦ inl (omega (arith, here, place_more (fields o) t g.head.at more))
        ];
      }

pub units_lie : SizeLaw → LineLaw → GroupsLaw → SizedLaw → GroupsHaveUnits
units_lie size line cuts sizes o q i g h = unit_lies sizes o (source_row size line cuts o i.spelled) g (split_in (groups (fields o)) g h.0 h.1 h.2)
