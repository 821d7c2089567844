-- The register whose value a guard tests.
use Rattle.std.specs.Prelude.{◌≡◌, ℕ, ◌+◌, ◌*◌, slice_index}
use Rattle.code_model.specs.declared.object.Object.{Object}
use Rattle.code_model.specs.Relocs.{Unrelocated}

-- the guard that begins at `first` moves Rn into R4 and adds 0 to it, unrelocated
abbrev pub TestsRegister : Object → (first n : ℕ) → Type 0
TestsRegister o first n = (slice_index o.code (first + 1) ≡ 0x4004 + 256 * n) × (slice_index o.code (first + 3) ≡ 0) × Unrelocated o.relocs (first + 3)
