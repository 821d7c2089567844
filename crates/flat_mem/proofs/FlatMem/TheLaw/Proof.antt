-- A reference to a memory is made where one to its block is. Assumes `Logic`.
use mathlib.Core.List.{[]}
use base.Fraction.{full_share}
use denote.RawPtr.{lies_at}
use denote.Shares.{Shares-less}
use denote.Memory.{lone}
use denote.Param.Shared.{copy_shared, array_shared}
use denote.Struct.Field.{RawPtr-field, u8-field}
use denote.Struct.Laws.{RawPtr-copy, u8-copy}
use denote.Struct.Lending.{lent_at, lent_at_shr_laws, Lends-lies, Lends-first, of_Lends}
use mir.Raw.{raw}
use Rattle.std.specs.contracts.impls.GlobalAllocator.TheImpl.{ghosts}
use Rattle.std.specs.contracts.alloc.Global as G
use Rattle.std.proofs.alloc.Global.TheLaws as G'
use Rattle.flat_mem.specs.Block.{Bytes}
use Rattle.flat_mem.specs.contracts.FlatMem.TheInside as C
use Rattle.flat_mem.proofs.FlatMem.TheLaw.Statement.{statement}

pub shares : statement
shares =
    let S = array_shared u8-field (copy_shared u8-field u8-copy) 65536 in
    of_Lends C.struct (C.the_codes (G.the_row).coded) C.the_heap C.the_lent
    (λ d p. lent_at_shr_laws Bytes S.shr_laws d.block d.bytes) (copy_shared RawPtr-field RawPtr-copy, (G'.the_field_shared, tt))
    (λ M 𝓤 𝓛 d p.
    let l = (C.the_row).lives in
    Lends-first 𝓛 (lies_at Bytes full_share d.block d.bytes) (ghosts.dealloc_token d.alloc (raw (lone Bytes.mir)) d.block)
    (lent_at Bytes d.block d.bytes) l
    (Lends-lies 𝓛 Bytes l d.block d.bytes (Shares-less 𝓛 Bytes [] l (λ a m. m) (S.shares M 𝓤 𝓛) d.bytes)))
