-- An instruction is spelled where it meets the conditions on its parts.
use Rattle.std.proofs.Common.{ℕ, ◌/◌, ◌%◌, ◌<◌, List, [], ◌∷◌, arith, ℤ, pos, negsuc, ◌≤ℤ◌, ◌<ℤ◌}
use Rattle.std.proofs.lemmas.Int.{ints}
use Rattle.msp_encode.specs.declared.instr.Src.{Src}
use Rattle.msp_encode.specs.declared.instr.Src.TheVariants as src
use Rattle.msp_encode.specs.declared.instr.Dst.{Dst}
use Rattle.msp_encode.specs.declared.instr.Dst.TheVariants as dst
use Rattle.msp_encode.specs.declared.instr.Instr.{Instr}
use Rattle.msp_encode.specs.declared.instr.Instr.TheVariants as instr
use Rattle.msp_encode.specs.Spelling.{SrcRow, DstRow, SrcFits, DstFits, OffsetRow, First, InstrFits, Spells}
use Rattle.msp_encode.specs.Spelled.{spelling}
use Rattle.msp_encode.specs.Laws.{LegalByCases}
use Rattle.msp_encode.proofs.Spelled.{spells}

source-fits : (s : Src) (r m : ℕ) → r < 16 → SrcRow s r m → SrcFits s
source-fits (src.Reg n) r m b h = (omega (arith, h.0), h.2)
source-fits (src.Indexed n x) r m b h = (omega (arith, h.0), h.2)
source-fits (src.Symbolic x) r m b h = tt
source-fits (src.Absolute x) r m b h = tt
source-fits (src.Indirect n) r m b h = (omega (arith, h.0), h.2)
source-fits (src.AutoInc n) r m b h = (omega (arith, h.0), h.2)
source-fits (src.Immediate x) r m b h = tt
source-fits (src.Const c) r m b h = tt

destination-fits : (d : Dst) (r m : ℕ) → r < 16 → DstRow d r m → DstFits d
destination-fits (dst.Reg n) r m b h = omega (arith, h.0)
destination-fits (dst.Indexed n x) r m b h = (omega (arith, h.0), h.2)
destination-fits (dst.Symbolic x) r m b h = tt
destination-fits (dst.Absolute x) r m b h = tt

offset-fits : (z : ℤ) (k : ℕ) → OffsetRow z k → (negsuc 511 ≤ℤ z) × (z <ℤ pos 512)
offset-fits (pos n) k h = (omega (arith, ints), omega (arith, ints))
offset-fits (negsuc n) k h = (omega (arith, ints), omega (arith, ints))

first-fits : (i : Instr) (w : ℕ) → First i w → InstrFits i
first-fits (instr.Two op width s d) w f = (source-fits s (w / 256 % 16) (w / 16 % 4) (omega arith) f.source, destination-fits d (w % 16) (w / 128 % 2) (omega arith) f.destination)
first-fits (instr.One op width s) w f = (source-fits s (w % 16) (w / 16 % 4) (omega arith) f.source, f.takes_width, f.takes)
first-fits instr.Reti w f = tt
first-fits (instr.Jump cond z) w f = offset-fits z (w % 1024) f.place

legal-fits : (i : Instr) (ws : List ℕ) → Spells i ws → InstrFits i
legal-fits i [] s = absurd s
legal-fits i (w ∷ ws) s = first-fits i w s.0

pub legal-by-cases : LegalByCases
legal-by-cases i = (λ h. legal-fits i h.0 h.1, λ h. (spelling i, spells i h))
