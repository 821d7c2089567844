-- Legal instructions name registers, and jump by ten bits.
use Rattle.std.proofs.Common.{◌≡◌, ℕ, ◌/◌, ◌%◌, ◌<◌, List, [], ◌∷◌, ℤ, pos, negsuc, ◌≤ℤ◌, arith}
use Rattle.std.proofs.lemmas.Int.{ints}
use Rattle.msp_encode.specs.declared.instr.Src.{Src}
use Rattle.msp_encode.specs.declared.instr.Src.TheVariants as src
use Rattle.msp_encode.specs.declared.instr.Dst.{Dst}
use Rattle.msp_encode.specs.declared.instr.Dst.TheVariants as dst
use Rattle.msp_encode.specs.declared.instr.Instr.{Instr}
use Rattle.msp_encode.specs.declared.instr.Instr.TheVariants as instr
use Rattle.msp_encode.specs.Spelling.{SrcRow, DstRow, OffsetRow, Spells, Legal}
use Rattle.machine_model.specs.Operands.{NamesRegister, NamesRegisters}
use Rattle.machine_model.specs.Does.{FormOk}

source-named : (s : Src) (r m : ℕ) → r < 16 → SrcRow s r m → NamesRegisters s
source-named (src.Reg n) r m h row = let e : r ≡ n = row.0 in omega arith
source-named (src.Indexed n x) r m h row = let e : r ≡ n = row.0 in omega arith
source-named (src.Symbolic x) r m h row = tt
source-named (src.Absolute x) r m h row = tt
source-named (src.Indirect n) r m h row = let e : r ≡ n = row.0 in omega arith
source-named (src.AutoInc n) r m h row = let e : r ≡ n = row.0 in omega arith
source-named (src.Immediate x) r m h row = tt
source-named (src.Const k) r m h row = tt

destination-named : (d : Dst) (r m : ℕ) → r < 16 → DstRow d r m → NamesRegister d
destination-named (dst.Reg n) r m h row = let e : r ≡ n = row.0 in omega arith
destination-named (dst.Indexed n x) r m h row = let e : r ≡ n = row.0 in omega arith
destination-named (dst.Symbolic x) r m h row = tt
destination-named (dst.Absolute x) r m h row = tt

offset-near : (z : ℤ) (k : ℕ) → OffsetRow z k → (negsuc 511 ≤ℤ z) × (z ≤ℤ pos 511)
offset-near z k h = (omega (arith, ints), omega (arith, ints))

spelled-form : (i : Instr) (ws : List ℕ) → Spells i ws → FormOk i
spelled-form (instr.Two op w s d) [] h = absurd h
spelled-form (instr.Two op w s d) (x ∷ xs) h =
    (source-named s (x / 256 % 16) (x / 16 % 4) (omega arith) h.0.source, destination-named d (x % 16) (x / 128 % 2) (omega arith) h.0.destination)
spelled-form (instr.One op w s) [] h = absurd h
spelled-form (instr.One op w s) (x ∷ xs) h = source-named s (x % 16) (x / 16 % 4) (omega arith) h.0.source
spelled-form instr.Reti ws h = tt
spelled-form (instr.Jump c z) [] h = absurd h
spelled-form (instr.Jump c z) (x ∷ xs) h = offset-near z (x % 1024) h.0.place

pub legal_form : (i : Instr) → Legal i → FormOk i
legal_form i h = spelled-form i h.0 h.1
