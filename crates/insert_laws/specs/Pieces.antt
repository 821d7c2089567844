-- The pieces of an object with guards, as they stand in its code.
use Rattle.std.specs.Prelude.{◌≡◌, ℕ, List, ◌∷◌, ◌++◌, length, map, Option}
use Rattle.std.specs.List.{flat_map}
use Rattle.msp_encode.specs.declared.instr.Src.{Src}
use Rattle.msp_encode.specs.declared.instr.Src.TheVariants as src
use Rattle.msp_encode.specs.declared.instr.Dst.{Dst}
use Rattle.msp_encode.specs.declared.instr.Dst.TheVariants as dst
use Rattle.msp_encode.specs.declared.instr.Instr.{Instr}
use Rattle.msp_encode.specs.declared.instr.Instr.TheVariants as instr
use Rattle.code_model.specs.declared.parts.RelKind.{RelKind}
use Rattle.code_model.specs.Fields.{Fields}
use Rattle.insert_model.specs.declared.piece.Piece.{Piece}
use Rattle.msp_encode.specs.Spelled.{spelling}
use Rattle.insert_model.specs.Units.{static_bytes}
use Rattle.insert_model.specs.Groups.{Group, groups}
use Rattle.insert_model.specs.Layout.{unit_in, final, place_map}
use Rattle.insert_model.specs.Inserted.{moved_value}

-- the unit of a group in the object with guards
unfoldable pub unit_of_group : Fields → Group → List Piece
unit_of_group f g = unit_in (final f) (static_bytes f) g

-- the pieces of the units of groups
unfoldable pub pieces_of : Fields → List Group → List Piece
pieces_of f gs = flat_map (unit_of_group f) gs

-- the pieces of all units
unfoldable pub pieces : Fields → List Piece
pieces f = pieces_of f (groups f)

-- an operand whose word names the unit of what it named
abbrev pub moved_src : (ℕ → ℕ) → Option RelKind → Src → Src
moved_src go k (src.Reg n) = src.Reg n
moved_src go k (src.Indexed n x) = src.Indexed n (moved_value go x k)
moved_src go k (src.Symbolic x) = src.Symbolic (moved_value go x k)
moved_src go k (src.Absolute x) = src.Absolute (moved_value go x k)
moved_src go k (src.Indirect n) = src.Indirect n
moved_src go k (src.AutoInc n) = src.AutoInc n
moved_src go k (src.Immediate x) = src.Immediate (moved_value go x k)
moved_src go k (src.Const c) = src.Const c

abbrev pub moved_dst : (ℕ → ℕ) → Option RelKind → Dst → Dst
moved_dst go k (dst.Reg n) = dst.Reg n
moved_dst go k (dst.Indexed n x) = dst.Indexed n (moved_value go x k)
moved_dst go k (dst.Symbolic x) = dst.Symbolic (moved_value go x k)
moved_dst go k (dst.Absolute x) = dst.Absolute (moved_value go x k)

abbrev pub moved_instr : (ℕ → ℕ) → (source destination : Option RelKind) → Instr → Instr
moved_instr go j k (instr.Two op w s d) = instr.Two op w (moved_src go j s) (moved_dst go k d)
moved_instr go j k (instr.One op w s) = instr.One op w (moved_src go j s)
moved_instr go j k instr.Reti = instr.Reti
moved_instr go j k (instr.Jump c n) = instr.Jump c n

-- the instruction of a piece as it stands
unfoldable pub standing : (ℕ → ℕ) → Piece → Instr
standing go p = moved_instr go p.source p.destination p.instr

-- how many words instructions have
unfoldable pub size_of : List Instr → ℕ
size_of is = length (flat_map spelling is)

-- a piece stands at a place, behind those before it
pub record PieceAt (f : Fields) (at : ℕ) : Type 0 where
  pub before : List Piece
  pub piece : Piece
  pub after : List Piece
  pub are : pieces f ≡ before ++ piece ∷ after
  pub place : at ≡ size_of (map (standing (place_map f)) before)
