use Rattle.std.proofs.Common.{◌≡◌, ℕ, ◌/◌, ◌%◌, sym, subst, ◌∙◌}
use Rattle.std.proofs.lemmas.Bool.{false≢true}
use Rattle.msp_encode.specs.Spelling.{op1_code, SrcRow, Takes}
use Rattle.msp_decode.proofs.Forms.{no_operand}
use Rattle.msp_decode.proofs.instruction.one.Goals as goal

pub returns-then-not-takes : goal.returns-then-not-takes
returns-then-not-takes c =
    let word = c.args.word in
    let s = c.in_ok-src.src in
    let code : word / 128 % 8 ≡ op1_code c.in_ok-op.op = sym c.one_code.ensures ∙ c.in_ok-op.ensures in
    let found : SrcRow s c.low_register.result c.source_mode.result = c.in_ok-src.ensures.0 in
    let row : SrcRow s (word % 16) (word / 16 % 4) = subst (λ (m : ℕ). SrcRow s (word % 16) m) c.source_mode.ensures (subst (λ (r : ℕ). SrcRow s r c.source_mode.result) c.low_register.ensures found) in
    let refused : Takes c.in_ok-op.op s → ⊥ = λ h. false≢true (c.if-not-takes.ensures.says.1 h) in
    no_operand c.in_ok-op.op s word code row refused
