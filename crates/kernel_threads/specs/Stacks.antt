-- Where a thread's stack lies.
use Rattle.std.specs.Prelude.{ℕ, ◌≤◌}
use Rattle.kernel_model.specs.declared.map.TheConstants.{DATA_POOL_END}
use Rattle.kernel_model.specs.Kernel.{Kernel}
use Rattle.kernel_model.specs.Words.{stack_high}

-- the stack of the thread with identity t ends by the data pool's end
abbrev pub HasStack : Kernel → (t : ℕ) → Type 0
HasStack k t = stack_high k t ≤ DATA_POOL_END
