-- Units where an object with guards was placed, and what a source instruction does there.
use Rattle.std.specs.Prelude.{ℕ, ◌+◌, ◌*◌, ◌%◌, if◌then◌else◌, List, [], ◌∷◌, Option, None, Some}
use Rattle.msp_encode.specs.declared.registers.TheConstants.{PC, SR}
use Rattle.msp_encode.specs.declared.instr.Src.{Src}
use Rattle.msp_encode.specs.declared.instr.Src.TheVariants as src
use Rattle.msp_encode.specs.declared.instr.Dst.{Dst}
use Rattle.msp_encode.specs.declared.instr.Dst.TheVariants as dst
use Rattle.msp_encode.specs.declared.instr.Instr.{Instr}
use Rattle.msp_encode.specs.declared.instr.Instr.TheVariants as instr
use Rattle.machine_model.specs.Context.{reg, set_reg}
use Rattle.machine_model.specs.Does.{Effect, memory_after, holds, target}
use Rattle.code_model.specs.declared.object.Object.{Object}
use Rattle.code_model.specs.declared.parts.RelKind.{RelKind}
use Rattle.code_model.specs.Fields.{fields}
use Rattle.load_model.specs.Domains.{Domain, addend}
use Rattle.insert_model.specs.declared.line.Line.{Line}
use Rattle.insert_model.specs.declared.piece.Piece.{Piece}
use Rattle.insert_model.specs.declared.piece.Word.{Word}
use Rattle.msp_encode.specs.Spelled.{count}
use Rattle.insert_model.specs.Source.{own}
use Rattle.insert_model.specs.Layout.{place_map}
use Rattle.insert_model.specs.Inserted.{moved_value}
use Rattle.unit_laws.specs.Running.{silent}
use Rattle.unit_laws.specs.Rows.{ended}

-- ---- where units stand

-- the address of the unit of what stands at an offset of the source
unfoldable pub unit_address : Object → Domain → ℕ → ℕ
unit_address o d x = d.code_lo + place_map (fields o) x

-- the unit of a source instruction, and the one behind it
abbrev pub unit_at : Object → Domain → Line → ℕ
unit_at o d l = unit_address o d (2 * l.at)

abbrev pub unit_behind : Object → Domain → Line → ℕ
unit_behind o d l = unit_address o d (2 * (l.at + count l.instr))

-- ---- words as they stand in memory

-- A word with its relocation: an offset of code is first sent to where its unit is, and then the relocation's address is added
abbrev pub word_in_place : Object → Domain → ℕ → Option RelKind → ℕ
word_in_place o d x None = x
word_in_place o d x (Some k) = (moved_value (place_map (fields o)) x (Some k) + addend d k) % 65536

abbrev pub placed_word : Object → Domain → Word → ℕ
placed_word o d w = word_in_place o d w.value w.kind

abbrev pub placed_src : Object → Domain → Option RelKind → Src → Src
placed_src o d k (src.Reg n) = src.Reg n
placed_src o d k (src.Indexed n x) = src.Indexed n (word_in_place o d x k)
placed_src o d k (src.Symbolic x) = src.Symbolic (word_in_place o d x k)
placed_src o d k (src.Absolute x) = src.Absolute (word_in_place o d x k)
placed_src o d k (src.Indirect n) = src.Indirect n
placed_src o d k (src.AutoInc n) = src.AutoInc n
placed_src o d k (src.Immediate x) = src.Immediate (word_in_place o d x k)
placed_src o d k (src.Const c) = src.Const c

abbrev pub placed_dst : Object → Domain → Option RelKind → Dst → Dst
placed_dst o d k (dst.Reg n) = dst.Reg n
placed_dst o d k (dst.Indexed n x) = dst.Indexed n (word_in_place o d x k)
placed_dst o d k (dst.Symbolic x) = dst.Symbolic (word_in_place o d x k)
placed_dst o d k (dst.Absolute x) = dst.Absolute (word_in_place o d x k)

abbrev pub placed_instr : Object → Domain → (source destination : Option RelKind) → Instr → Instr
placed_instr o d j k (instr.Two op w s t) = instr.Two op w (placed_src o d j s) (placed_dst o d k t)
placed_instr o d j k (instr.One op w s) = instr.One op w (placed_src o d j s)
placed_instr o d j k instr.Reti = instr.Reti
placed_instr o d j k (instr.Jump c n) = instr.Jump c n

-- the instruction of a piece as it stands in memory
abbrev pub placed : Object → Domain → Piece → Instr
placed o d p = placed_instr o d p.source p.destination p.instr

-- ---- what a source instruction does

-- A jump leads to the unit of its target, the offset that the machine takes from the jump's own, or to the next unit. Any other
-- instruction does what it does with its words in place, where it stands just before the next unit: there it goes on, and that
-- address a call pushes.
abbrev pub instr_does : Object → Domain → (m r : List ℕ) → Line → Instr → Effect
instr_does o d m r l (instr.Two op w s t) = ended (unit_behind o d l) m r (placed o d (own l)) (count l.instr)
instr_does o d m r l (instr.One op w s) = ended (unit_behind o d l) m r (placed o d (own l)) (count l.instr)
instr_does o d m r l instr.Reti = ended (unit_behind o d l) m r (placed o d (own l)) (count l.instr)
instr_does o d m r l (instr.Jump c k) = silent (set_reg r PC (if holds c (reg r SR) then unit_address o d (target (2 * l.at) k) else unit_behind o d l))

unfoldable pub source_does : Object → Domain → (m r : List ℕ) → Line → Effect
source_does o d m r l = instr_does o d m r l l.instr

-- memory and context after source instructions, one after another
unfoldable pub source_after : Object → Domain → (m r : List ℕ) → List Line → List ℕ × List ℕ
source_after o d m r [] = (m, r)
source_after o d m r (l ∷ ls) = source_after o d (memory_after m (source_does o d m r l)) (source_does o d m r l).context ls
