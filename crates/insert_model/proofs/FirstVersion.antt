-- In version 1 each line stands alone.
use Rattle.std.proofs.Common.{◌≡◌, ℕ, ◌*◌, ◌/◌, ◌<◌, nat_le, nat_lt, if◌then◌else◌, Bool, true, false, cond, ◌&&◌, List, [], ◌∷◌, ◌++◌, length, map, take, ℤ, pos, Option, None, Some, refl, ap, ◌∙◌, arith}
use Rattle.std.specs.List.{filter}
use Rattle.std.proofs.lemmas.Bool.{leb-true}
use Rattle.msp_encode.specs.declared.instr.Instr.{Instr}
use Rattle.msp_encode.specs.declared.instr.Instr.TheVariants as instr
use Rattle.code_model.specs.Fields.{Fields}
use Rattle.insert_model.specs.declared.line.Line.{Line}
use Rattle.insert_model.specs.declared.piece.Piece.{Piece}
use Rattle.insert_model.specs.declared.piece.Word.{Word}
use Rattle.insert_model.specs.Words.{unit_words}
use Rattle.insert_model.specs.Source.{lines}
use Rattle.insert_model.specs.Units.{static_bytes, unit}
use Rattle.insert_model.specs.Groups.{cell, later_of, later, Group, alone, groups_from, groups}
use Rattle.insert_model.specs.Layout.{Jumps, jump_by, line_unit_of, line_unit, unit_in, units, before, words_before, is_near_in, longest, is_short, sized, final_offset, final, final_units, place_map}
use Rattle.insert_model.specs.Laws.{line_units, FirstVersionLaw}

module _ (f : Fields) (first : f.version < 2) where
  not_second : nat_le 2 f.version ≡ false
  not_second = by (nat_le 2 f.version) refl
    where
      by : (b : Bool) → nat_le 2 f.version ≡ b → b ≡ false
      by true e = absurd (omega (arith, first, leb-true 2 f.version e))
      by false e = refl

  none_later : (l : Line) (ls : List Line) → later f l ls ≡ 0
  unfolding later
  none_later l ls = ap (λ (b : Bool). if b then later_of f (cell l) ls else 0) not_second

  all_alone : (ls : List Line) → groups_from f 0 ls ≡ map alone ls
  unfolding groups_from
  all_alone [] = refl
  all_alone (l ∷ ls) =
      ap (λ (n : ℕ). record { head = l; rest = take n ls } ∷ groups_from f n ls) (none_later l ls) ∙ ap (λ (gs : List Group). alone l ∷ gs) (all_alone ls)

  never_short : (l : Line) → is_short f l ≡ false
  unfolding is_short
  never_short l = ap (λ (b : Bool). b && is_near_in longest f l l.instr) not_second

  not_final : (l : Line) → final f l ≡ None
  unfolding final
  not_final l = ap (λ (b : Bool). if b then Some (final_offset f l l.instr) else None) (never_short l)

  not_sized : (l : Line) → sized f l ≡ None
  unfolding sized
  not_sized l = ap (λ (b : Bool). if b then Some (pos 0) else None) (never_short l)

  -- where no jump is short, a line has its own unit
  own_unit_by : (js : Jumps) (l : Line) (i : Instr) → js l ≡ None → line_unit_of js (static_bytes f) l i ≡ unit (static_bytes f) l
  own_unit_by js l (instr.Two op w s d) e = refl
  own_unit_by js l (instr.One op w s) e = refl
  own_unit_by js l instr.Reti e = refl
  own_unit_by js l (instr.Jump c k) e = ap (λ (j : Option ℤ). jump_by j c (unit (static_bytes f) l)) e

  own_unit : (js : Jumps) (l : Line) → js l ≡ None → unit_in js (static_bytes f) (alone l) ≡ unit (static_bytes f) l
  unfolding unit_in line_unit
  own_unit js l e = own_unit_by js l l.instr e

  own_units : (js : Jumps) (ls : List Line) → ((l : Line) → js l ≡ None) → units js (static_bytes f) (map alone ls) ≡ line_units f ls
  unfolding units line_units
  own_units js [] h = refl
  own_units js (l ∷ ls) h = ap (λ (ps : List Piece). unit_words ps ++ units js (static_bytes f) (map alone ls)) (own_unit js l (h l)) ∙ ap (λ (ws : List Word). unit_words (unit (static_bytes f) l) ++ ws) (own_units js ls h)

  kept : (l : Line) (gs : List Group) (ls : List Line) (b : Bool) → gs ≡ map alone ls → cond b (alone l ∷ gs) gs ≡ map alone (cond b (l ∷ ls) ls)
  kept l gs ls true e = ap (λ (hs : List Group). alone l ∷ hs) e
  kept l gs ls false e = e

  alone_before : (at : ℕ) (ls : List Line) → before at (map alone ls) ≡ map alone (filter (λ (l : Line). nat_lt l.at at) ls)
  unfolding before
  alone_before at [] = refl
  alone_before at (l ∷ ls) = kept l (before at (map alone ls)) (filter (λ (l : Line). nat_lt l.at at) ls) (nat_lt l.at at) (alone_before at ls)

  groups_alone : groups f ≡ map alone (lines f)
  unfolding groups
  groups_alone = all_alone (lines f)

  are : final_units f ≡ line_units f (lines f)
  unfolding final_units
  are = ap (units (final f) (static_bytes f)) groups_alone ∙ own_units (final f) (lines f) not_final

  places : (x : ℕ) → place_map f x ≡ 2 * length (line_units f (filter (λ (l : Line). nat_lt l.at (x / 2)) (lines f)))
  unfolding place_map words_before
  places x =
      ap (λ (gs : List Group). 2 * length (units (sized f) (static_bytes f) (before (x / 2) gs))) groups_alone
      ∙ ap (λ (gs : List Group). 2 * length (units (sized f) (static_bytes f) gs)) (alone_before (x / 2) (lines f))
      ∙ ap (λ (ws : List Word). 2 * length ws) (own_units (sized f) (filter (λ (l : Line). nat_lt l.at (x / 2)) (lines f)) not_sized)

pub first_law : FirstVersionLaw
first_law f h = record { are = are f h; places = places f h }
