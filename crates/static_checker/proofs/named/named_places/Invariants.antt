use Rattle.std.proofs.Common.{◌↔◌, ◌⊎◌, ℕ}
use Rattle.kernel_model.specs.Bitmap.{Has}
use Rattle.static_checker.specs.Places.{IsEntry, ExportedBelow}
use Rattle.static_checker.proofs.named.named_places.Given as goal

abbrev pub invariant-loop-index : goal.invariant-loop-index
invariant-loop-index l = (k : ℕ) → Has l.named k ↔ (IsEntry l.o k ⊎ ExportedBelow l.o.exports k l.index)
