-- Where the units stand: the layout in which each jump has its longest unit tells which jumps are one word, and these make the
-- final layout.
use Rattle.std.specs.Prelude.{ℕ, ◌+◌, ◌-◌, ◌*◌, ◌/◌, ◌==◌, ◌&&◌, Bool, false, nat_le, nat_lt, if◌then◌else◌, List, [], ◌∷◌, ◌++◌, length, map, ℤ, pos, negsuc, Option, None, Some}
use Rattle.std.specs.List.{flat_map, filter}
use Rattle.msp_encode.specs.declared.registers.TheConstants.{CHECKED}
use Rattle.msp_encode.specs.declared.instr.Cond.{Cond}
use Rattle.msp_encode.specs.declared.instr.Dst.TheVariants as dst
use Rattle.msp_encode.specs.declared.instr.Instr.{Instr}
use Rattle.msp_encode.specs.declared.instr.Instr.TheVariants as instr
use Rattle.code_model.specs.declared.guards.Reach.{Reach}
use Rattle.code_model.specs.declared.guards.Reach.TheVariants as reach
use Rattle.code_model.specs.Fields.{Fields}
use Rattle.insert_model.specs.declared.line.Line.{Line}
use Rattle.insert_model.specs.declared.piece.Piece.{Piece}
use Rattle.insert_model.specs.declared.piece.Word.{Word}
use Rattle.insert_model.specs.Words.{unit_words}
use Rattle.insert_model.specs.Source.{own}
use Rattle.insert_model.specs.Guards.{jump, wide_guard}
use Rattle.insert_model.specs.Units.{static_bytes, target_offset, unit}
use Rattle.insert_model.specs.Groups.{Cell, cell, difference, greatest, Group, groups}

-- ---- the unit of a group

-- the offset of each jump that is one word
abbrev pub Jumps : Type 0
Jumps = Line → Option ℤ

abbrev pub jump_by : Option ℤ → Cond → List Piece → List Piece
jump_by None c ps = ps
jump_by (Some k) c ps = jump c k ∷ []

abbrev pub line_unit_of : Jumps → ℕ → Line → Instr → List Piece
line_unit_of js size l (instr.Two op w s d) = unit size l
line_unit_of js size l (instr.One op w s) = unit size l
line_unit_of js size l instr.Reti = unit size l
line_unit_of js size l (instr.Jump c k) = jump_by (js l) c (unit size l)

-- the unit of a line that stands alone
unfoldable pub line_unit : Jumps → ℕ → Line → List Piece
line_unit js size l = line_unit_of js size l l.instr

abbrev pub difference_of : Cell → Option Cell → ℕ
difference_of c None = 0
difference_of c (Some e) = difference c.index e.index

-- `op src,x(R4)`, where x is the difference from the cell that the group begins with
abbrev pub beside_by : Cell → Line → Piece → Instr → Piece
beside_by c l p (instr.Two op w s d) = record { instr = instr.Two op w s (dst.Indexed CHECKED (difference_of c (cell l))); source = p.source; destination = None }
beside_by c l p i = p

unfoldable pub beside : Cell → Line → Piece
beside c l = beside_by c l (own l) l.instr

abbrev pub reach_of : ℕ → Reach
reach_of d = if d == 2 then reach.Two else (if d == 4 then reach.Four else reach.Six)

-- how far the lines of a group reach
abbrev pub reach_from : Cell → List Line → Reach
reach_from c ls = reach_of (greatest (map (λ (l : Line). difference_of c (cell l)) ls))

-- a guard of all stores of a group, and then these
unfoldable pub wide_unit : Cell → List Line → List Piece
wide_unit c ls = wide_guard (reach_from c ls) c.base c.index c.kind ++ map (beside c) ls

abbrev pub wide_unit_of : Option Cell → List Line → List Piece
wide_unit_of None ls = []
wide_unit_of (Some c) ls = wide_unit c ls

abbrev pub unit_of_lines : Jumps → ℕ → Line → List Line → List Piece
unit_of_lines js size l [] = line_unit js size l
unit_of_lines js size l (k ∷ ks) = wide_unit_of (cell l) (l ∷ k ∷ ks)

-- the unit of a group, beside a static part of so many bytes
unfoldable pub unit_in : Jumps → ℕ → Group → List Piece
unit_in js size g = unit_of_lines js size g.head g.rest

-- the words of the units of groups, one unit after another
unfoldable pub units : Jumps → ℕ → List Group → List Word
units js size gs = flat_map (λ g. unit_words (unit_in js size g)) gs

-- ---- places

-- the groups that start before a place
unfoldable pub before : ℕ → List Group → List Group
before at gs = filter (λ (g : Group). nat_lt g.head.at at) gs

-- how many words the units have that stand before that of an offset's word
unfoldable pub words_before : Jumps → Fields → ℕ → ℕ
words_before js f x = length (units js (static_bytes f) (before (x / 2) (groups f)))

-- ---- jumps of one word

-- each jump has its longest unit
abbrev pub longest : Jumps
longest l = None

-- the words from behind a jump at one place to another: t - p - 1 over whole numbers
unfoldable pub span_between : (p t : ℕ) → ℤ
span_between p t = if nat_lt p t then pos (t - p - 1) else negsuc (p - t)

-- it is from -512 to 511
unfoldable pub is_near : (p t : ℕ) → Bool
is_near p t = nat_le t (p + 512) && nat_lt p (t + 512)

abbrev pub is_near_in : Jumps → Fields → Line → Instr → Bool
is_near_in js f l (instr.Two op w s d) = false
is_near_in js f l (instr.One op w s) = false
is_near_in js f l instr.Reti = false
is_near_in js f l (instr.Jump c k) = is_near (words_before js f (2 * l.at)) (words_before js f (target_offset l.at k))

-- a jump that is one word
unfoldable pub is_short : Fields → Line → Bool
is_short f l = nat_le 2 f.version && is_near_in longest f l l.instr

-- the jumps that are one word, whatever their offsets
unfoldable pub sized : Fields → Jumps
sized f l = if is_short f l then Some (pos 0) else None

-- where a source offset went
unfoldable pub place_map : Fields → ℕ → ℕ
place_map f x = 2 * words_before (sized f) f x

abbrev pub final_offset : Fields → Line → Instr → ℤ
final_offset f l (instr.Two op w s d) = pos 0
final_offset f l (instr.One op w s) = pos 0
final_offset f l instr.Reti = pos 0
final_offset f l (instr.Jump c k) = span_between (words_before (sized f) f (2 * l.at)) (words_before (sized f) f (target_offset l.at k))

-- their offsets
unfoldable pub final : Fields → Jumps
final f l = if is_short f l then Some (final_offset f l l.instr) else None

-- the words of all units
unfoldable pub final_units : Fields → List Word
final_units f = units (final f) (static_bytes f) (groups f)
