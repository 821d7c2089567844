-- The rows of a box of a memory's bytes, as the functions of `Box` are called at them. Assumes `Logic`.
use Rattle.std.proofs.Common.{[], ◌∷◌, refl}
use mir.Syntax.{Dict, impl, tcons, tnil, dnil}
use denote.RattleType.{RattleType}
use mir.Raw.{raw}
use denote.Exit.{no}
use denote.Param.{layout, arg}
use denote.Param.Laws.{Laws, array_laws, of_field, arg_laws}
use denote.Param.Shared.{copy_shared}
use denote.Struct.Field.{u8-field}
use denote.Struct.Laws.{u8-laws, u8-copy}
use Rattle.std.specs.contracts.alloc.Global as G
use Rattle.std.proofs.alloc.Global.TheLaws as G'
use Rattle.std.specs.contracts.impls.GlobalAllocator.TheImpl.{ghosts, dict}
use Rattle.std.proofs.BoxSteps.Form as box
use Rattle.flat_mem.specs.Block.{Bytes}
use Rattle.flat_mem.proofs.Destruct++none.drop.Symbol as none

pub bytes_laws : Laws Bytes
bytes_laws = array_laws u8-field.row (of_field u8-field u8-laws refl (copy_shared u8-field u8-copy)) 65536

-- the handle, as a type parameter is given it
abbrev pub Heap : RattleType
Heap = arg (raw (layout G.the_row)) no G.the_row

pub heap_laws : Laws Heap
heap_laws = arg_laws (raw (layout G.the_row)) no G.the_row G'.the_row_laws refl

-- the drops of the handle and of the bytes, which do nothing
abbrev pub handle_drop : Dict
handle_drop = impl (none.symbol ∷ []) (tcons (layout Heap) tnil) dnil

abbrev pub bytes_drop : Dict
bytes_drop = impl (none.symbol ∷ []) (tcons (layout Bytes) tnil) dnil

-- a box of the bytes
abbrev pub boxed : box.Bx
boxed = record {
  row = Bytes;
  laws = bytes_laws;
  al = record { row = Heap; laws = heap_laws; g = ghosts; d = dict; drops = handle_drop };
}
