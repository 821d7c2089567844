-- Groups: the source instructions that have one unit. In version 1 each stands alone.
use Rattle.std.specs.Prelude.{ℕ, zero, suc, ◌+◌, ◌-◌, ◌*◌, ◌/◌, ◌%◌, ◌==◌, ◌&&◌, ◌||◌, Bool, true, false, not, max, nat_le, if◌then◌else◌, List, [], ◌∷◌, length, take, slice_index, Option, None, Some, is_some}
use Rattle.std.specs.List.{find}
use Rattle.msp_encode.specs.declared.instr.Dst.{Dst}
use Rattle.msp_encode.specs.declared.instr.Dst.TheVariants as dst
use Rattle.msp_encode.specs.declared.instr.Instr.{Instr}
use Rattle.msp_encode.specs.declared.instr.Instr.TheVariants as instr
use Rattle.code_model.specs.declared.parts.Export.{Export}
use Rattle.code_model.specs.declared.parts.Reloc.{Reloc}
use Rattle.code_model.specs.declared.parts.RelKind.{RelKind}
use Rattle.code_model.specs.declared.parts.RelKind.TheVariants.{Code, Data, Lo, Hi}
use Rattle.code_model.specs.Fields.{Fields}
use Rattle.insert_model.specs.declared.line.Line.{Line}
use Rattle.msp_encode.specs.Spelled.{count}
use Rattle.msp_encode.specs.Forms.{writes}
use Rattle.insert_model.specs.Source.{word_in, lines, own}
use Rattle.insert_model.specs.Units.{target_offset}

-- ---- targets

-- an instruction at a place is a jump to an offset
abbrev pub jumps_to : (x at : ℕ) → Instr → Bool
jumps_to x at (instr.Two op w s d) = false
jumps_to x at (instr.One op w s) = false
jumps_to x at instr.Reti = false
jumps_to x at (instr.Jump c k) = target_offset at k == x

abbrev pub is_code : RelKind → Bool
is_code Code = true
is_code Data = false
is_code Lo = false
is_code Hi = false

-- the word that a relocation is of
abbrev pub relocated_word : Fields → Reloc → ℕ
relocated_word f r = if r.in_code then slice_index f.code (r.offset / 2) else word_in f.init r.offset

-- an offset that a jump, a word to which the code's address is added, the entry or an export names
unfoldable pub is_target : Fields → ℕ → Bool
is_target f x =
    is_some (find (λ (l : Line). jumps_to x l.at l.instr) (lines f)) || (is_some (find (λ (r : Reloc). is_code r.kind && (relocated_word f r == x)) f.relocs)
    || ((f.entry == x) || is_some (find (λ (e : Export). e.offset == x) f.exports)))

-- ---- cells

-- where an instruction stores: a base register, and an index with its relocation
pub record Cell : Type 0 where
  pub base : ℕ
  pub index : ℕ
  pub kind : Option RelKind

-- that of an operation with the destination X(Rn) that writes
abbrev pub cell_by : Bool → Dst → Option RelKind → Option Cell
cell_by true (dst.Indexed n x) k = Some (record { base = n; index = x; kind = k })
cell_by _ _ k = None

abbrev pub cell_of : Instr → Option RelKind → Option Cell
cell_of (instr.Two op w s d) k = cell_by (writes op) d k
cell_of _ k = None

abbrev pub cell : Line → Option Cell
cell l = cell_of l.instr (own l).destination

-- (y - x) mod 65,536
abbrev pub difference : (x y : ℕ) → ℕ
difference x y = (y + (65536 - x)) % 65536

abbrev pub is_data : Option RelKind → Bool
is_data None = false
is_data (Some Code) = false
is_data (Some Data) = true
is_data (Some Lo) = false
is_data (Some Hi) = false

-- both have the static part's address added, or neither has
abbrev pub is_alike : (j k : Option RelKind) → Bool
is_alike j k = if is_data j then is_data k else not (is_data k)

-- 0, 2, 4 or 6
abbrev pub is_reached : ℕ → Bool
is_reached d = nat_le d 6 && (d % 2 == 0)

-- a second cell may stand in a run that begins with the first
abbrev pub is_near_cell : (c e : Cell) → Bool
is_near_cell c e = (e.base == c.base) && (is_alike c.kind e.kind && is_reached (difference c.index e.index))

-- ---- runs

abbrev pub if_near : Cell → Option Cell → Option ℕ
if_near c None = None
if_near c (Some e) = if is_near_cell c e then Some (difference c.index e.index) else None

-- the difference of an instruction that may be a later one of a run that begins with a cell
abbrev pub joins : Fields → Cell → Line → Option ℕ
joins f c l = if is_target f (2 * l.at) then None else if_near c (cell l)

abbrev pub cons_if : Option ℕ → List ℕ → List ℕ
cons_if None ds = []
cons_if (Some d) ds = d ∷ ds

-- the differences of the later instructions of a run that begins with a cell, at most so many
unfoldable pub run : Fields → Cell → (left : ℕ) → List Line → List ℕ
run f c zero ls = []
run f c (suc left) [] = []
run f c (suc left) (l ∷ ls) = cons_if (joins f c l) (run f c left ls)

unfoldable pub greatest : List ℕ → ℕ
greatest [] = 0
greatest (d ∷ ds) = max d (greatest ds)

-- where the greatest difference is 0, the first instruction of the run stands alone
abbrev pub kept : List ℕ → ℕ
kept ds = if greatest ds == 0 then 0 else length ds

-- a group has at most three instructions behind its first
abbrev pub later_of : Fields → Option Cell → List Line → ℕ
later_of f None ls = 0
later_of f (Some c) ls = kept (run f c 3 ls)

-- how many of the lines behind a line are of its group
unfoldable pub later : Fields → Line → List Line → ℕ
later f l ls = if nat_le 2 f.version then later_of f (cell l) ls else 0

-- ---- groups

pub record Group : Type 0 where
  pub head : Line
  pub rest : List Line

-- a line of its own
abbrev pub alone : Line → Group
alone l = record { head = l; rest = [] }

abbrev pub members : Group → List Line
members g = g.head ∷ g.rest

unfoldable pub last_of : Line → List Line → Line
last_of l [] = l
last_of l (k ∷ ks) = last_of k ks

-- the place behind a group's last line
abbrev pub behind : Group → ℕ
behind g = (last_of g.head g.rest).at + count (last_of g.head g.rest).instr

-- the groups of lines, the first `skip` of which are an earlier group's
unfoldable pub groups_from : Fields → (skip : ℕ) → List Line → List Group
groups_from f skip [] = []
groups_from f (suc skip) (l ∷ ls) = groups_from f skip ls
groups_from f zero (l ∷ ls) = record { head = l; rest = take (later f l ls) ls } ∷ groups_from f (later f l ls) ls

unfoldable pub groups : Fields → List Group
groups f = groups_from f 0 (lines f)
