-- What the unit of a group is: that of a line, a jump of one word, or a wide guard with the stores that it serves.
use Rattle.std.proofs.Common.{◌≡◌, ◌≢◌, ℕ, ◌*◌, ◌%◌, ◌<◌, ◌≤◌, nat_eq, if◌then◌else◌, Bool, true, false, List, [], ◌∷◌, ◌++◌, inl, inr, length, map, ℤ, Option, None, Some, refl, sym, subst, ap, ◌∙◌, arith}
use Rattle.std.specs.List.{AllByRecursion, flat_map}
use Rattle.std.proofs.lemmas.Bool.{and_parts, leb-true, eqb-true, eqb-false}
use Rattle.std.proofs.lemmas.List.Elements.{recursion_from_All}
use Rattle.msp_encode.specs.declared.instr.Op2.{Op2}
use Rattle.msp_encode.specs.declared.instr.Cond.{Cond}
use Rattle.msp_encode.specs.declared.instr.Width.{Width}
use Rattle.msp_encode.specs.declared.instr.Src.{Src}
use Rattle.msp_encode.specs.declared.instr.Dst.{Dst}
use Rattle.msp_encode.specs.declared.instr.Dst.TheVariants as dst
use Rattle.msp_encode.specs.declared.instr.Instr.{Instr}
use Rattle.msp_encode.specs.declared.instr.Instr.TheVariants as instr
use Rattle.msp_encode.specs.Spelling.{DstFits, InstrFits}
use Rattle.msp_encode.specs.Forms.{writes}
use Rattle.code_model.specs.declared.object.Object.{Object}
use Rattle.code_model.specs.declared.guards.Reach.{Reach}
use Rattle.code_model.specs.declared.guards.Reach.TheVariants as reach
use Rattle.code_model.specs.declared.parts.RelKind.{RelKind}
use Rattle.code_model.specs.Fields.{Fields, fields}
use Rattle.code_model.specs.Guards.{reach_bytes}
use Rattle.insert_model.specs.declared.line.Line.{Line}
use Rattle.insert_model.specs.declared.piece.Piece.{Piece}
use Rattle.insert_model.specs.Source.{own}
use Rattle.insert_model.specs.Guards.{jump, wide_guard}
use Rattle.insert_model.specs.Units.{static_bytes, unit}
use Rattle.insert_model.specs.Groups.{Cell, cell_by, cell_of, cell, difference, is_reached, is_near_cell, is_target, if_near, greatest, Group, members}
use Rattle.insert_model.specs.Layout.{jump_by, line_unit_of, line_unit, difference_of, beside_by, beside, reach_of, reach_from, wide_unit, wide_unit_of, unit_of_lines, unit_in, is_short, final_offset, final}
use Rattle.insert_model.specs.Laws.{Joins, IsRun, IsGroup}
use Rattle.insert_laws.specs.Pieces.{unit_of_group, pieces_of}
use Rattle.insert_laws.specs.Shapes.{IsCleanLine}
use Rattle.insert_laws.proofs.UnitsFit.{HasSmallIndex}
use Rattle.insert_laws.proofs.CleanLines.{AllClean}
use Rattle.insert_laws.proofs.CleanGroups.{IsCleanGroup, AllGroups}

-- ---- stores

-- an instruction stores at a cell
pub record StoresAt (i : Instr) (k : Option RelKind) (e : Cell) : Type 0 where
  pub op : Op2
  pub width : Width
  pub source : Src
  pub is : i ≡ instr.Two op width source (dst.Indexed e.base e.index)
  pub does : writes op ≡ true
  pub kind : k ≡ e.kind

some_cell : (a b : Cell) → Some a ≡ Some b → a ≡ b
some_cell a b e = cc

no_cell : (e : Cell) → None ≡ Some e → ⊥
no_cell e h = cc

abbrev made : ℕ → ℕ → Option RelKind → Cell
made n x k = record { base = n; index = x; kind = k }

stores_by : (b : Bool) (op : Op2) (w : Width) (s : Src) (d : Dst) (k : Option RelKind) (e : Cell) → writes op ≡ b → cell_by b d k ≡ Some e → StoresAt (instr.Two op w s d) k e
stores_by true op w s (dst.Indexed n x) k e t h =
    let same : made n x k ≡ e = some_cell (made n x k) e h in
    record { op = op; width = w; source = s; is = ap (λ (y : Cell). instr.Two op w s (dst.Indexed y.base y.index)) same; does = t; kind = ap (λ (y : Cell). y.kind) same }
stores_by true op w s (dst.Reg n) k e t h = absurd (no_cell e h)
stores_by true op w s (dst.Symbolic x) k e t h = absurd (no_cell e h)
stores_by true op w s (dst.Absolute x) k e t h = absurd (no_cell e h)
stores_by false op w s d k e t h = absurd (no_cell e h)

pub stores_of : (i : Instr) (k : Option RelKind) (e : Cell) → cell_of i k ≡ Some e → StoresAt i k e
stores_of (instr.Two op w s d) k e h = stores_by (writes op) op w s d k e refl h
stores_of (instr.One op w s) k e h = absurd (no_cell e h)
stores_of instr.Reti k e h = absurd (no_cell e h)
stores_of (instr.Jump c n) k e h = absurd (no_cell e h)

-- ---- differences

abbrev pub IsReached : ℕ → Type 0
IsReached d = (d % 2 ≡ 0) × (d ≤ 6)

no_number : (d : ℕ) → None ≡ Some d → ⊥
no_number d h = cc

reached_so : (d : ℕ) → is_reached d ≡ true → IsReached d
reached_so d e = let both = and_parts _ _ e in (eqb-true (d % 2) 0 both.1, leb-true d 6 both.0)

-- what joins a run that begins with a cell
pub record Joined (c : Cell) (l : Line) : Type 0 where
  pub at : Cell
  pub cell_is : cell l ≡ Some at
  pub near : is_near_cell c at ≡ true
  pub reached : IsReached (difference_of c (cell l))

of_near : (c : Cell) (e : Option Cell) (d : ℕ) → if_near c e ≡ Some d → (a : Cell) × ((e ≡ Some a) × ((is_near_cell c a ≡ true) × IsReached (difference_of c e)))
of_near c None d h = absurd (no_number d h)
of_near c (Some e) d h = by (is_near_cell c e) refl h
  where
    by : (b : Bool) → is_near_cell c e ≡ b → (if b then Some (difference c.index e.index) else None) ≡ Some d → (a : Cell) × ((Some e ≡ Some a) × ((is_near_cell c a ≡ true) × IsReached (difference c.index e.index)))
    by true t g = (e, (refl, (t, reached_so (difference c.index e.index) (and_parts _ _ (and_parts _ _ t).1).1)))
    by false t g = absurd (no_number d g)

pub joined : (f : Fields) (c : Cell) (l : Line) → Joins f c l → Joined c l
joined f c l (d, h) = by (is_target f (2 * l.at)) h
  where
    by : (b : Bool) → (if b then None else if_near c (cell l)) ≡ Some d → Joined c l
    by true g = absurd (no_number d g)
    by false g = let n = of_near c (cell l) d g in record { at = n.0; cell_is = n.1.0; near = n.1.1.0; reached = n.1.1.1 }

-- ---- the stores of a wide unit

-- a line of a group whose greatest difference from a cell is at most so many bytes
pub record IsBeside (o : Object) (most : ℕ) (c : Cell) (l : Line) : Type 0 where
  pub op : Op2
  pub width : Width
  pub source : Src
  pub base : ℕ
  pub index : ℕ
  pub clean : IsCleanLine o l
  pub line : l.instr ≡ instr.Two op width source (dst.Indexed base index)
  pub stores : writes op ≡ true
  pub even : difference_of c (cell l) % 2 ≡ 0
  pub near : difference_of c (cell l) ≤ most

-- `op src,x(R4)`
abbrev pub near_piece : Op2 → Width → Src → ℕ → Option RelKind → Piece
near_piece op w s x k = record { instr = instr.Two op w s (dst.Indexed 4 x); source = k; destination = None }

pub beside_is : (o : Object) (most : ℕ) (c : Cell) (l : Line) (h : IsBeside o most c l) → beside c l ≡ near_piece h.op h.width h.source (difference_of c (cell l)) (own l).source
unfolding beside
beside_is o most c l h = ap (beside_by c l (own l)) h.line

-- a clean line that stores, and stands so near to the cell
beside_of : (o : Object) (most : ℕ) (c : Cell) (l : Line) (e : Cell) → IsCleanLine o l → cell l ≡ Some e → difference_of c (cell l) % 2 ≡ 0 → difference_of c (cell l) ≤ most → IsBeside o most c l
beside_of o most c l e clean s even near =
    let t : StoresAt l.instr (own l).destination e = stores_of l.instr (own l).destination e s in
    record { op = t.op; width = t.width; source = t.source; base = e.base; index = e.index; clean = clean; line = t.is; stores = t.does; even = even; near = near }

abbrev pub AllBeside : Object → ℕ → Cell → List Line → Type 0
AllBeside o most c ls = AllByRecursion (IsBeside o most c) ls

-- ---- how far a group reaches

abbrev pub differences : Cell → List Line → List ℕ
differences c ls = map (λ (l : Line). difference_of c (cell l)) ls

-- of several numbers the greatest is one that is reached, if each is
pub greatest_reached : (ds : List ℕ) → AllByRecursion IsReached ds → IsReached (greatest ds)
unfolding greatest
greatest_reached [] h = (refl, omega arith)
greatest_reached (d ∷ ds) h = let r : IsReached (greatest ds) = greatest_reached ds h.1 in (omega (arith, r.0, h.0.0), omega (arith, r.1, h.0.1))

first_least : (d : ℕ) (ds : List ℕ) → d ≤ greatest (d ∷ ds)
unfolding greatest
first_least d ds = omega arith

pub rest_least : (d : ℕ) (ds : List ℕ) → greatest ds ≤ greatest (d ∷ ds)
unfolding greatest
rest_least d ds = omega arith

pub reach_is : (d : ℕ) → IsReached d → d ≢ 0 → reach_bytes (reach_of d) ≡ d
reach_is d h some = by (nat_eq d 2) (nat_eq d 4) refl refl
  where
    by : (a b : Bool) → nat_eq d 2 ≡ a → nat_eq d 4 ≡ b → reach_bytes (if a then reach.Two else (if b then reach.Four else reach.Six)) ≡ d
    by true b ea eb = sym (eqb-true d 2 ea)
    by false true ea eb = sym (eqb-true d 4 eb)
    by false false ea eb =
        let two : d ≢ 2 = eqb-false d 2 ea in
        let four : d ≢ 4 = eqb-false d 4 eb in
        omega (arith, h.0, h.1, some, two, four)

-- ---- the unit of a run

pub record IsWideUnit (o : Object) (g : Group) : Type 0 where
  pub from : Cell
  pub reach : Reach
  pub fits : DstFits (dst.Indexed from.base from.index)
  pub are : unit_of_group (fields o) g ≡ wide_guard reach from.base from.index from.kind ++ map (beside from) (members g)
  pub each : AllBeside o (reach_bytes reach) from (members g)
  pub few : length (members g) ≤ 4
  pub version : 2 ≤ o.version

-- the cell's own difference is none
pub no_difference : (c : Cell) (e : Option Cell) → e ≡ Some c → c.index < 65536 → difference_of c e ≡ 0
no_difference c e s small = let h : difference c.index c.index ≡ 0 = omega (arith, small) in subst (λ (x : Option Cell). difference_of c x ≡ 0) (sym s) h

pub all_joined : (f : Fields) (c : Cell) (ls : List Line) → AllByRecursion (Joins f c) ls → AllByRecursion IsReached (differences c ls)
all_joined f c [] h = tt
all_joined f c (l ∷ ls) h = (let j : Joined c l = joined f c l h.0 in j.reached, all_joined f c ls h.1)

module _ (o : Object) (c : Cell) (most : ℕ) where
  rest_beside : (ls : List Line) → AllClean o ls → AllByRecursion (Joins (fields o) c) ls → greatest (differences c ls) ≤ most → AllBeside o most c ls
  rest_beside [] clean h top = tt
  rest_beside (l ∷ ls) clean h top =
      let j : Joined c l = joined (fields o) c l h.0 in (
        beside_of o most c l j.at clean.0 j.cell_is j.reached.0 (omega (arith, top, first_least (difference_of c (cell l)) (differences c ls))),
        rest_beside ls clean.1 h.1 (omega (arith, top, rest_least (difference_of c (cell l)) (differences c ls))),
      )

pub run_unit : (o : Object) (l k : Line) (ks : List Line) (c : Cell) → cell l ≡ Some c → unit_of_group (fields o) (record { head = l; rest = k ∷ ks }) ≡ wide_unit c (l ∷ k ∷ ks)
unfolding unit_of_group unit_in
run_unit o l k ks c s = ap (λ (x : Option Cell). wide_unit_of x (l ∷ k ∷ ks)) s

pub wide_is : (c : Cell) (ls : List Line) → wide_unit c ls ≡ wide_guard (reach_from c ls) c.base c.index c.kind ++ map (beside c) ls
unfolding wide_unit
wide_is c ls = refl

-- a store's operand is as its line's
pub stored_read : (l : Line) (c : Cell) → InstrFits l.instr → HasSmallIndex l.instr → cell l ≡ Some c → DstFits (dst.Indexed c.base c.index) × (c.index < 65536)
stored_read l c fits small s =
    let t : StoresAt l.instr (own l).destination c = stores_of l.instr (own l).destination c s in
    let f : InstrFits (instr.Two t.op t.width t.source (dst.Indexed c.base c.index)) = subst InstrFits t.is fits in
    (f.1, subst HasSmallIndex t.is small)

run_is : (o : Object) (l k : Line) (ks : List Line) (c : Cell) → IsCleanGroup o (record { head = l; rest = k ∷ ks }) → cell l ≡ Some c → AllByRecursion (Joins (fields o) c) (k ∷ ks)
    → length (k ∷ ks) ≤ 3 → greatest (differences c (k ∷ ks)) ≢ 0 → 2 ≤ o.version → IsWideUnit o (record { head = l; rest = k ∷ ks })
run_is o l k ks c h s joins' few some version =
    let read = stored_read l c h.fits.0.0 h.fits.0.1 s in
    let zero' : difference_of c (cell l) ≡ 0 = no_difference c (cell l) s read.1 in
    let top : IsReached (greatest (differences c (l ∷ k ∷ ks))) =
    greatest_reached (differences c (l ∷ k ∷ ks)) ((omega (arith, zero'), omega (arith, zero')), all_joined (fields o) c (k ∷ ks) joins') in
    let more : greatest (differences c (k ∷ ks)) ≤ greatest (differences c (l ∷ k ∷ ks)) = rest_least (difference_of c (cell l)) (differences c (k ∷ ks)) in
    let never : greatest (differences c (l ∷ k ∷ ks)) ≢ 0 = λ e. some (omega (arith, e, more)) in
    let bytes : reach_bytes (reach_from c (l ∷ k ∷ ks)) ≡ greatest (differences c (l ∷ k ∷ ks)) = reach_is (greatest (differences c (l ∷ k ∷ ks))) top never in
    record {
      from = c;
      reach = reach_from c (l ∷ k ∷ ks);
      fits = read.0;
      are = run_unit o l k ks c s ∙ wide_is c (l ∷ k ∷ ks);
      each = (
        beside_of o (reach_bytes (reach_from c (l ∷ k ∷ ks))) c l c h.clean.0 s (omega (arith, zero')) (omega (arith, zero')),
        rest_beside o c (reach_bytes (reach_from c (l ∷ k ∷ ks))) (k ∷ ks) h.clean.1 joins' (omega (arith, bytes, more)),
      );
      few = omega (arith, few);
      version = version;
    }

-- ---- units

pub data UnitIs (o : Object) (g : Group) : Type 0 where
  Lone : g.rest ≡ [] → IsCleanLine o g.head → unit_of_group (fields o) g ≡ unit (static_bytes (fields o)) g.head → UnitIs o g
  Short : g.rest ≡ [] → IsCleanLine o g.head → (c : Cond) (k : ℤ) → g.head.instr ≡ instr.Jump c k → is_short (fields o) g.head ≡ true
      → unit_of_group (fields o) g ≡ jump c (final_offset (fields o) g.head g.head.instr) ∷ [] → UnitIs o g
  Several : IsWideUnit o g → UnitIs o g

lone_unit : (f : Fields) (g : Group) → g.rest ≡ [] → unit_of_group f g ≡ line_unit_of (final f) (static_bytes f) g.head g.head.instr
unfolding unit_of_group unit_in line_unit
lone_unit f g e = ap (unit_of_lines (final f) (static_bytes f) g.head) e

final_by : (f : Fields) (l : Line) (b : Bool) → is_short f l ≡ b → final f l ≡ (if b then Some (final_offset f l l.instr) else None)
unfolding final
final_by f l b e = ap (λ (x : Bool). if x then Some (final_offset f l l.instr) else None) e

module _ (o : Object) (g : Group) (alone : g.rest ≡ []) (clean : IsCleanLine o g.head) where
  unit_by : (i : Instr) → g.head.instr ≡ i → unit_of_group (fields o) g ≡ line_unit_of (final (fields o)) (static_bytes (fields o)) g.head i
  unit_by i e = lone_unit (fields o) g alone ∙ ap (line_unit_of (final (fields o)) (static_bytes (fields o)) g.head) e

  jump_is : (c : Cond) (k : ℤ) → g.head.instr ≡ instr.Jump c k → (b : Bool) → is_short (fields o) g.head ≡ b → UnitIs o g
  jump_is c k e true s =
      Short alone clean c k e s
      (unit_by (instr.Jump c k) e ∙ ap (λ (x : Option ℤ). jump_by x c (unit (static_bytes (fields o)) g.head)) (final_by (fields o) g.head true s))
  jump_is c k e false s =
      Lone alone clean (unit_by (instr.Jump c k) e ∙ ap (λ (x : Option ℤ). jump_by x c (unit (static_bytes (fields o)) g.head)) (final_by (fields o) g.head false s))

  lone_is : (i : Instr) → g.head.instr ≡ i → UnitIs o g
  lone_is (instr.Two op w s d) e = Lone alone clean (unit_by (instr.Two op w s d) e)
  lone_is (instr.One op w s) e = Lone alone clean (unit_by (instr.One op w s) e)
  lone_is instr.Reti e = Lone alone clean (unit_by instr.Reti e)
  lone_is (instr.Jump c k) e = jump_is c k e (is_short (fields o) g.head) refl

no_rest : (c : Cell) → greatest (differences c []) ≢ 0 → ⊥
unfolding greatest
no_rest c h = h refl

pub unit_is : (o : Object) (g : Group) → IsCleanGroup o g → UnitIs o g
unit_is o g c = by c.is
  where
    on_run : (l : Line) (ks : List Line) → IsCleanGroup o (record { head = l; rest = ks }) → IsRun (fields o) (record { head = l; rest = ks }) → IsWideUnit o (record { head = l; rest = ks })
    on_run l [] h r = absurd (no_rest r.from r.reaches)
    on_run l (k ∷ ks) h r = run_is o l k ks r.from h r.begins (recursion_from_All (Joins (fields o) r.from) (k ∷ ks) r.others) r.few r.reaches r.version

    by : IsGroup (fields o) g → UnitIs o g
    by (inl e) = lone_is o g e c.clean.0 g.head.instr refl
    by (inr r) = Several (on_run g.head g.rest c r)

-- ---- a fact of pieces

-- what holds of the units of lines and of jumps, of wide guards and of the stores behind them, and of lists that are put together,
-- holds of all pieces
module _ (o : Object) (P : List Piece → Type 0) (none : P []) (join : (xs ys : List Piece) → P xs → P ys → P (xs ++ ys)) where
  pub pieces_by : ((g : Group) → IsCleanGroup o g → P (unit_of_group (fields o) g)) → (gs : List Group) → AllGroups o gs → P (pieces_of (fields o) gs)
  unfolding pieces_of
  pieces_by unit' [] c = none
  pieces_by unit' (g ∷ gs) c = join (unit_of_group (fields o) g) (flat_map (unit_of_group (fields o)) gs) (unit' g c.0) (pieces_by unit' gs c.1)

  module _ (line : (l : Line) → IsCleanLine o l → P (unit (static_bytes (fields o)) l))
      (short : (l : Line) (c : Cond) (k : ℤ) → l.instr ≡ instr.Jump c k → is_short (fields o) l ≡ true → P (jump c (final_offset (fields o) l l.instr) ∷ []))
      (guard : (r : Reach) (c : Cell) → DstFits (dst.Indexed c.base c.index) → P (wide_guard r c.base c.index c.kind))
      (store : (most : ℕ) (c : Cell) (l : Line) → IsBeside o most c l → P (beside c l ∷ [])) where
    stores : (most : ℕ) (c : Cell) (ls : List Line) → AllBeside o most c ls → P (map (beside c) ls)
    stores most c [] h = none
    stores most c (l ∷ ls) h = join (beside c l ∷ []) (map (beside c) ls) (store most c l h.0) (stores most c ls h.1)

    unit_by_kind : (g : Group) → UnitIs o g → P (unit_of_group (fields o) g)
    unit_by_kind g (Lone e c u) = subst P (sym u) (line g.head c)
    unit_by_kind g (Short e c d k same s u) = subst P (sym u) (short g.head d k same s)
    unit_by_kind g (Several w) =
        subst P (sym w.are) (join (wide_guard w.reach w.from.base w.from.index w.from.kind) (map (beside w.from) (members g)) (guard w.reach w.from w.fits) (stores (reach_bytes w.reach) w.from (members g) w.each))

    pub all_pieces : (gs : List Group) → AllGroups o gs → P (pieces_of (fields o) gs)
    all_pieces gs c = pieces_by (λ g h. unit_by_kind g (unit_is o g h)) gs c
