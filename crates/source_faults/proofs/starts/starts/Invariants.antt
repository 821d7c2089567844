use Rattle.std.proofs.Common.{◌↔◌, ℕ, take}
use Rattle.kernel_model.specs.Bitmap.{Has}
use Rattle.source_faults.specs.Read.{StartsIn}
use Rattle.source_faults.proofs.starts.starts.Given as goal

abbrev pub invariant-loop-line : goal.invariant-loop-line
invariant-loop-line l = (k : ℕ) → Has l.marks k ↔ StartsIn (take l.line-index l.lines) k
