-- The words of each unit stand in memory, one behind another.
use Rattle.std.proofs.Common.{◌≡◌, ℕ, ◌+◌, ◌*◌, ◌%◌, ◌<◌, List, [], ◌∷◌, ◌++◌, inl, inr, length, map, slice_index, Option, None, Some, refl, sym, subst, ap, ◌∙◌, arith}
use Rattle.std.specs.List.{AllByRecursion, Contains, flat_map}
use Rattle.std.proofs.lemmas.List.Elements.{All-contains, All-contains_itself, All-from_recursion, recursion_from_All}
use Rattle.std.proofs.lemmas.List.{append_assoc, length-append, length-map, map-append, get_or_at}
use Rattle.machine_model.specs.Memory.{word_at}
use Rattle.code_model.specs.declared.object.Object.{Object}
use Rattle.code_model.specs.declared.parts.RelKind.{RelKind}
use Rattle.code_model.specs.Fields.{fields}
use Rattle.load_model.specs.Domains.{Domain, addend}
use Rattle.load_model.specs.Standing.{CodeStands, CodeImageLaw}
use Rattle.insert_model.specs.declared.line.Line.{Line}
use Rattle.insert_model.specs.Groups.{Group, members, groups}
use Rattle.insert_model.specs.Layout.{place_map}
use Rattle.insert_model.specs.Laws.{GroupsLaw}
use Rattle.insert_model.specs.declared.piece.Word.{Word}
use Rattle.insert_model.specs.Words.{unit_words}
use Rattle.insert_model.specs.Source.{lines}
use Rattle.insert_model.specs.Inserted.{moved_value, moved}
use Rattle.insert_laws.specs.Pieces.{pieces}
use Rattle.insert_laws.specs.Laws.{kind_in, RelocsStand, RelocsArePieces}
use Rattle.insert_laws.specs.Shapes.{IsCleanLine}
use Rattle.insert_laws.specs.Lines.{group_words, UnitLies, LinesAreClean, CodeIsPieces, GroupsHaveUnits}
use Rattle.unit_laws.specs.Guards.{WordsAt}
use Rattle.placed_unit_laws.specs.Placed.{unit_address, unit_at, word_in_place, placed_word}
use Rattle.placed_unit_laws.specs.Ends.{group_behind, UnitStands, UnitStandsLaw}
use Rattle.placed_unit_laws.proofs.Here.{IsHereOf, here_of}

kind_here : (xs : List Word) (w : Word) (ys : List Word) → kind_in (xs ++ w ∷ ys) (length xs) ≡ w.kind
kind_here [] w ys = refl
kind_here (x ∷ xs) w ys = kind_here xs w ys

-- the code of an object with guards, and its relocations
record IsCodeOf (o q : Object) (ws : List Word) : Type 0 where
  code : q.code ≡ map (moved (place_map (fields o))) ws
  are : unit_words (pieces (fields o)) ≡ ws
  relocs : RelocsStand o q

module _ (o : Object) (d : Domain) (m : List ℕ) (ws : List Word) (is : IsCodeOf o d.object ws) (stands : CodeStands d m) where
  inside : (xs : List Word) (w : Word) (ys : List Word) → ws ≡ xs ++ w ∷ ys → length xs < length d.object.code
  inside xs w ys e = omega (arith, ap length is.code, length-map ws (moved (place_map (fields o))), ap length e, length-append xs (w ∷ ys))

  code_word : (xs : List Word) (w : Word) (ys : List Word) → ws ≡ xs ++ w ∷ ys → slice_index d.object.code (length xs) ≡ moved (place_map (fields o)) w
  code_word xs w ys e =
      let go : Word → ℕ = moved (place_map (fields o)) in
      let cut : d.object.code ≡ map go xs ++ go w ∷ map go ys = is.code ∙ ap (map go) e ∙ map-append go xs (w ∷ ys) in
      ap (λ (cs : List ℕ). slice_index cs (length xs)) cut ∙ get_or_at (map go xs) (go w) (map go ys) 0 (length xs) (length-map xs go)

  -- one word
  word_stands : (xs : List Word) (w : Word) (ys : List Word) → ws ≡ xs ++ w ∷ ys → word_at m (d.code_lo + 2 * length xs) ≡ placed_word o d w
  unfolding word_at
  word_stands xs w ys e = by w.kind (ap (λ (vs : List Word). kind_in vs (length xs)) (is.are ∙ e) ∙ kind_here xs w ys) (code_word xs w ys e)
    where
      by : (k : Option RelKind) → kind_in (unit_words (pieces (fields o))) (length xs) ≡ k → slice_index d.object.code (length xs) ≡ moved_value (place_map (fields o)) w.value k
          → word_at m (d.code_lo + 2 * length xs) ≡ word_in_place o d w.value k
      by None none c = stands.plain (length xs) (inside xs w ys e) (is.relocs.none (length xs) none) ∙ c
      by (Some k) some c =
          stands.moved (length xs) k (inside xs w ys e) (is.relocs.some (length xs) k some) ∙ ap (λ (x : ℕ). (x + addend d k) % 65536) c

  -- some of the words, one behind another
  words_stand : (xs us ys : List Word) (base k : ℕ) → ws ≡ xs ++ (us ++ ys) → base + k ≡ d.code_lo + 2 * length xs → WordsAt m base k (map (placed_word o d) us)
  words_stand xs [] ys base k e h = tt
  words_stand xs (w ∷ us) ys base k e h = (
    ap (word_at m) h ∙ word_stands xs w (us ++ ys) e,
    words_stand (xs ++ w ∷ []) us ys base (k + 2) (e ∙ sym (append_assoc xs (w ∷ []) (us ++ ys))) (omega (arith, h, length-append xs (w ∷ []))),
  )

  code_length : length d.object.code ≡ length ws
  code_length = ap length is.code ∙ length-map ws (moved (place_map (fields o)))

-- ---- the lines of a group

each_by : (P Q : Line → Type 0) → ((l : Line) → P l → Q l) → (ls : List Line) → AllByRecursion P ls → AllByRecursion Q ls
each_by P Q f [] h = tt
each_by P Q f (l ∷ ls) h = (f l h.0, each_by P Q f ls h.1)

-- a fact of all lines is one of a group's
module _ (P : Line → Type 0) where
  front_all : (xs ys : List Line) → AllByRecursion P (xs ++ ys) → AllByRecursion P xs
  front_all [] ys h = tt
  front_all (x ∷ xs) ys h = (h.0, front_all xs ys h.1)

  back_all : (xs ys : List Line) → AllByRecursion P (xs ++ ys) → AllByRecursion P ys
  back_all [] ys h = h
  back_all (x ∷ xs) ys h = back_all xs ys h.1

  each_group : (gs : List Group) → AllByRecursion P (flat_map members gs) → AllByRecursion (λ (g : Group). AllByRecursion P (members g)) gs
  each_group [] h = tt
  each_group (g ∷ gs) h = (front_all (members g) (flat_map members gs) h, each_group gs (back_all (members g) (flat_map members gs) h))

  of_lines : (ls : List Line) → ((l : Line) → Contains ls l → P l) → AllByRecursion P ls
  of_lines ls f = each_by (Contains ls) P f ls (recursion_from_All (Contains ls) ls (All-contains_itself ls))

  pub of_group : (gs : List Group) (ls : List Line) (g : Group) → flat_map members gs ≡ ls → ((l : Line) → Contains ls l → P l) → Contains gs g → AllByRecursion P (members g)
  of_group gs ls g e f c =
      All-contains (λ (k : Group). AllByRecursion P (members k)) gs g
      (All-from_recursion (λ (k : Group). AllByRecursion P (members k)) gs (each_group gs (subst (AllByRecursion P) (sym e) (of_lines ls f)))) c

-- ---- a unit in memory

module _ (groups' : GroupsLaw) (clean : LinesAreClean) (have : GroupsHaveUnits) (code : CodeIsPieces) (relocs : RelocsArePieces) (image : CodeImageLaw) where
  stands_at : (o : Object) (d : Domain) (low top : ℕ) (m r : List ℕ) (g : Group) → IsHereOf o d low top m r g → UnitLies o g → UnitStands o d m g
  unfolding unit_address
  stands_at o d low top m r g here u =
      let is : IsCodeOf o d.object (unit_words (pieces (fields o))) = record { code = code o d.object here.inserted; are = refl; relocs = relocs o d.object here.inserted } in
      let placed : CodeStands d m = image d m here.at.placed.code_even here.at.code in
      let all : length d.object.code ≡ length u.front + (length (group_words o g) + length u.back) =
      code_length o d m (unit_words (pieces (fields o))) is placed ∙ ap length u.are ∙ length-append u.front (group_words o g ++ u.back) ∙ ap (λ (n : ℕ). length u.front + n) (length-append (group_words o g) u.back) in
      let first : unit_at o d g.head ≡ d.code_lo + 2 * length u.front = ap (λ (x : ℕ). d.code_lo + x) u.first in
      let behind : group_behind o d g ≡ d.code_lo + 2 * (length u.front + length (group_words o g)) = ap (λ (x : ℕ). d.code_lo + x) u.behind in
      record {
        clean = All-from_recursion (IsCleanLine o) (members g) (of_group (IsCleanLine o) (groups (fields o)) (lines (fields o)) g (groups' (fields o)).are (clean o d.object here.inserted) here.at.group);
        words = words_stand o d m (unit_words (pieces (fields o))) is placed u.front (group_words o g) u.back (unit_at o d g.head) 0 u.are (omega (arith, first));
        behind = omega (arith, first, behind);
        even = omega (arith, first, here.at.placed.code_even);
        below = omega (arith, behind, all, here.at.placed.code_high);
        apart = λ t s h. elim (u.apart t) [ inl a ↦ omega (arith, h.0, first, a) | inr b ↦ omega (arith, h.1, behind, b) ];
      }

  pub unit_law : UnitStandsLaw
  unit_law o q i d low top m r g e at =
      let here : IsHereOf o d low top m r g = here_of o q i d low top m r g e at in stands_at o d low top m r g here (have o d.object here.inserted g at.group)
