-- Laws of the groups of several stores.
use Rattle.std.specs.Prelude.{◌≡◌, ◌≢◌, ℕ, ◌<◌, ◌≤◌, true, [], ◌++◌, map, Option, None, Some}
use Rattle.std.specs.List.{All, Any, Contains}
use Rattle.msp_encode.specs.declared.instr.Op2.{Op2}
use Rattle.msp_encode.specs.declared.instr.Width.{Width}
use Rattle.msp_encode.specs.declared.instr.Src.{Src}
use Rattle.msp_encode.specs.declared.instr.Dst.TheVariants as dst
use Rattle.msp_encode.specs.declared.instr.Instr.TheVariants as instr
use Rattle.msp_encode.specs.Spelling.{DstFits}
use Rattle.msp_encode.specs.Forms.{writes}
use Rattle.code_model.specs.declared.object.Object.{Object}
use Rattle.code_model.specs.declared.parts.RelKind.{RelKind}
use Rattle.code_model.specs.declared.parts.RelKind.TheVariants.{Code, Data, Lo, Hi}
use Rattle.code_model.specs.declared.guards.Reach.{Reach}
use Rattle.code_model.specs.Guards.{reach_bytes}
use Rattle.code_model.specs.Fields.{fields}
use Rattle.insert_model.specs.declared.line.Line.{Line}
use Rattle.insert_model.specs.Source.{own}
use Rattle.insert_model.specs.Guards.{wide_guard}
use Rattle.insert_model.specs.Groups.{Cell, cell, difference, Group, members, groups}
use Rattle.insert_model.specs.Layout.{difference_of, beside}
use Rattle.insert_model.specs.Faults.{IsInserted}
use Rattle.insert_laws.specs.Pieces.{unit_of_group}
use Rattle.insert_laws.specs.Shapes.{IsCleanLine}

-- the static part's address is added to an index, or nothing
abbrev pub IsIndexKind : Option RelKind → Type 0
IsIndexKind None = Unit {0}
IsIndexKind (Some Code) = ⊥
IsIndexKind (Some Data) = Unit {0}
IsIndexKind (Some Lo) = ⊥
IsIndexKind (Some Hi) = ⊥

-- a line that stores behind a cell's base register, at most so many bytes behind the cell
pub record StoresBehind (o : Object) (from : Cell) (most : ℕ) (l : Line) : Type 0 where
  pub op : Op2
  pub width : Width
  pub source : Src
  pub index : ℕ
  pub clean : IsCleanLine o l
  pub line : l.instr ≡ instr.Two op width source (dst.Indexed from.base index)
  pub stores : writes op ≡ true
  pub kind : (own l).destination ≡ from.kind
  pub word : index < 65536
  pub ahead : difference_of from (cell l) ≡ difference from.index index
  pub near : difference from.index index ≤ most

-- The unit of a group of several lines is a guard that reaches from the cell of the first to the farthest, and then the stores
pub record StoresTogether (o : Object) (g : Group) : Type 0 where
  pub from : Cell
  pub reach : Reach
  pub fits : DstFits (dst.Indexed from.base from.index)
  pub are : unit_of_group (fields o) g ≡ wide_guard reach from.base from.index from.kind ++ map (beside from) (members g)
  pub kind : IsIndexKind from.kind
  pub word : from.index < 65536
  pub each : All (StoresBehind o from (reach_bytes reach)) (members g)
  pub first : difference_of from (cell g.head) ≡ 0
  pub reached : Any (λ (l : Line). difference_of from (cell l) ≡ reach_bytes reach) (members g)

abbrev pub GroupsStore : Type 0
GroupsStore = (o q : Object) → IsInserted o q → (g : Group) → Contains (groups (fields o)) g → g.rest ≢ [] → StoresTogether o g
