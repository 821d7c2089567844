use Rattle.std.proofs.Common.{◌≡◌, rules, to_z, of_z, w16}
use Rattle.msp_encode.specs.declared.instr.Instr.TheVariants as jumps
use Rattle.msp_asm.proofs.second_pass.jump_between.Goals as goal

pub returns-clause-legal : goal.returns-clause-legal
returns-clause-legal c =
    let same : to_z w16 (of_z w16 c.offset_words.result) ≡ c.offset_words.result = search rules in
    rw same ((c.legal_by_cases.ensures (jumps.Jump c.args.cond c.offset_words.result)).1 c.offset_words.ensures.legal)
