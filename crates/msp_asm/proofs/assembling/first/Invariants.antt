use Rattle.std.proofs.Common.{◌≡◌, ◌+◌, ◌≤◌}
use Rattle.asm_model.specs.Lines.{lines_of}
use Rattle.asm_model.specs.Drafts.{first_progress, draft_by}
use Rattle.asm_model.specs.FirstPass.{first_pass}
use Rattle.msp_asm.proofs.Rests.{lines_left, size_left}
use Rattle.msp_asm.proofs.assembling.first.Given as goal

abbrev pub invariant-lines : goal.invariant-lines
invariant-lines l = (first_pass 1 (lines_of l.source) (draft_by first_progress l.fn.names l.fn.pieces) ≡ first_pass (l.line + 1) (lines_left l.next) (draft_by l.p l.names l.pieces)) × (l.line + size_left l.next ≤ 1048577)

abbrev pub decreases-lines : goal.decreases-lines
decreases-lines l = size_left l.next
