use Rattle.std.proofs.Common.{◌≡◌, ◌+◌, ◌≤◌, arith, ap, sym, length}
use Rattle.asm_model.specs.SecondPass.{Output, second_pass, known_from}
use Rattle.asm_model.specs.Sound.{code_total, initialised_total}
use Rattle.msp_asm.proofs.Sounding.{are_legal}
use Rattle.msp_asm.proofs.assembling.second.Goals as goal
use Rattle.code_model.specs.declared.object.TheConstants.{CODE_WORDS_MAX, STATIC_BYTES_MAX}

pub loop-placed-init : goal.loop-placed-init
loop-placed-init c =
    let no_code : length c.nothing-out.result.code ≡ 0 = ap (λ (o : Output). length o.code) c.nothing-out.ensures in
    let no_data : length c.nothing-out.result.initialised ≡ 0 = ap (λ (o : Output). length o.initialised) c.nothing-out.ensures in
    let code_is : code_total c.args.pieces.now ≡ c.args.p.code = c.requires.code_is in
    let code_most : c.args.p.code ≤ CODE_WORDS_MAX = c.requires.code_most in
    let initialised_is : initialised_total c.args.pieces.now ≡ c.args.p.initialised = c.requires.initialised_is in
    let static_most : c.args.p.initialised + c.args.p.zeroed ≤ STATIC_BYTES_MAX = c.requires.static_most in (
      ap (second_pass (known_from c.args.names.now c.args.p) c.args.pieces.now) (sym c.nothing-out.ensures),
      are_legal c.args.pieces.now 0 0 c.requires.pieces,
      omega arith,
      omega arith,
    )
