-- What the calls on modules do to the kernel.
use Rattle.std.specs.Prelude.{ℕ, ◌<◌, ◌≤◌, ◌==◌, nat_lt, ◌||◌, List, [], ◌∷◌, slice_index, Option}
use Rattle.kernel_model.specs.declared.states.TheConstants.{ENDED}
use Rattle.kernel_model.specs.declared.map.TheConstants.{KERNEL_TOP}
use Rattle.kernel_model.specs.Kernel.{Kernel, module_at, with_module, function_at}
use Rattle.kernel_model.specs.Words.{none, calling, running_state, running, running_module, with_running_module, with_state, saved_register}
use Rattle.kernel_model.specs.Entries.{first_code}
use Rattle.kernel_model.specs.Dispatching.{saved}
use Rattle.kernel_model.specs.declared.code.Code.{Code}
use Rattle.kernel_model.specs.declared.code.Code.TheVariants.{NoFunction, ModuleEnded}

abbrev pub ended_module : ℕ
ended_module = ENDED

-- each module's row is free, live or ended
abbrev pub HasKnownModules : Kernel → Type 0
HasKnownModules k = (i : ℕ) → i < 4 → (module_at k i).state ≤ ended_module

abbrev pub enter_code : Kernel → (f : ℕ) → Option Code
enter_code k f = first_code
    ((nat_lt 63 f || ((function_at k f).module == none), NoFunction)
    ∷ ((module_at k (function_at k f).module).state == ended_module, ModuleEnded)
    ∷ [])

-- the caller's context is saved, and the function's module runs
abbrev pub entered : Kernel → List ℕ → Kernel
entered k r =
    let k1 = with_state (saved k r) (running k) calling in
    with_running_module k1 (function_at k (slice_index r 12)).module

-- all registers 0 but PC, SP, R12 and R13
abbrev pub entered_context : Kernel → List ℕ → List ℕ
entered_context k r =
    (function_at k (slice_index r 12)).address ∷ KERNEL_TOP ∷ 0 ∷ 0 ∷ 0 ∷ 0 ∷ 0 ∷ 0 ∷ 0 ∷ 0 ∷ 0 ∷ 0 ∷ slice_index r 13 ∷ slice_index r 14 ∷ 0 ∷ 0 ∷ []

-- the caller runs again
abbrev pub call_ended : Kernel → Kernel
call_ended k = with_running_module (with_state k (running k) running_state) none

-- the caller gets R12 = 0, and the module's R12 in R13
abbrev pub left : Kernel → List ℕ → Kernel
left k r = call_ended (saved_register (saved_register k (running k) 12 0) (running k) 13 (slice_index r 12))

-- the module ends, and the caller gets R12 = 6
abbrev pub module_ended : Kernel → Kernel
module_ended k =
    let i = running_module k in
    let k1 = with_module k i (record (module_at k i) { state = ended_module }) in
    call_ended (saved_register k1 (running k) 12 6)
