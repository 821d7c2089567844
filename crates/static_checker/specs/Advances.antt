-- How the pass goes on.
use Rattle.std.specs.Prelude.{◌≡◌, ℕ, ◌+◌, ◌≤◌, ◌<◌, Option, None, Some, length, take}
use Rattle.code_model.specs.declared.object.Object.{Object}
use Rattle.code_model.specs.Starts.{NoneStands}
use Rattle.code_model.specs.Guards.{guard_words, FitAll}
use Rattle.static_checker.specs.declared.code_units.BegunGuard.{BegunGuard}
use Rattle.static_checker.specs.declared.code_units.Advance.{Advance}
use Rattle.static_checker.specs.declared.code_units.Advance.TheVariants.{Word, Whole, Stop}
use Rattle.static_checker.specs.CodeUnits.{wording, OnlyKind, IsCodeUnit}

-- the guard's words stand there as far as it is begun, and no guard with others begins there
pub record IsBegun (o : Object) (at : ℕ) (b : BegunGuard) : Type 0 where
  pub most : b.words ≤ length (guard_words b.kind)
  pub fit : FitAll o at (take b.words (guard_words b.kind))
  pub only : OnlyKind o at b.kind
  pub wording : wording b.kind ≡ b.kind

abbrev pub BegunAt : Object → ℕ → Option BegunGuard → Type 0
BegunAt o at None = Unit {0}
BegunAt o at (Some b) = IsBegun o at b

-- how far a guard is begun
abbrev pub seen : Option BegunGuard → ℕ
seen None = 0
seen (Some b) = b.words + 1

abbrev pub IsAdvance : Object → (at : ℕ) → Option BegunGuard → Advance → Type 0
IsAdvance o at begun (Word b) = IsBegun o at b × (seen begun < b.words + 1)
IsAdvance o at begun (Whole u) = IsCodeUnit o at u
IsAdvance o at begun Stop = NoneStands o.code at
