-- The test of legal instructions.
use Rattle.std.proofs.Common.{◌≡◌, Bool, true, ◌&&◌, arith}
use Rattle.msp_encode.specs.declared.instr.Instr.{Instr}
use Rattle.msp_encode.specs.declared.instr.Instr.TheVariants as instr
use Rattle.msp_encode.specs.Spelling.{InstrFits}
use Rattle.msp_encode.specs.Legality.{src_fits, dst_fits, takes_width, takes}
use Rattle.msp_encode.specs.Laws.{TestsTell}
use Rattle.asm_model.specs.Instructions.{is_legal}

both : (a b : Bool) → (a && b) ≡ true → (a ≡ true) × (b ≡ true)
both a b h = grind arith

pub legal_fits : TestsTell → (i : Instr) → is_legal i ≡ true → InstrFits i
legal_fits t (instr.Two op width s d) h = let k = both (src_fits s) (dst_fits d) h in ((t.source s).0 k.0, (t.destination d).0 k.1)
legal_fits t (instr.One op width s) h =
    let k = both (src_fits s && takes_width op width) (takes op s) h in
    let j = both (src_fits s) (takes_width op width) k.0 in
    ((t.source s).0 j.0, (t.width op width).0 j.1, (t.mode op s).0 k.1)
legal_fits t instr.Reti h = tt
legal_fits t (instr.Jump condition offset) h = absurd cc
