-- Where the kernel's words lie.
use Rattle.std.specs.Prelude.{ℕ, ◌+◌, ◌*◌}
use Rattle.kernel_model.specs.declared.map.TheConstants.{STACK_LIMIT, STACK_TOP}
use Rattle.kernel_model.specs.declared.rows.SysWord.{SysWord}
use Rattle.kernel_model.specs.declared.rows.SysWord.TheVariants.{CurLim, CurTop, Running, Module, Budget, Pending, TickLow, TickHigh}

abbrev pub place_of : SysWord → ℕ
place_of CurLim = STACK_LIMIT
place_of CurTop = STACK_TOP
place_of Running = 0x0204
place_of Module = 0x0206
place_of Budget = 0x0208
place_of Pending = 0x020A
place_of TickLow = 0x020C
place_of TickHigh = 0x020E

-- the address of register r in the row of the thread with identity t
abbrev pub register_place : (t r : ℕ) → ℕ
register_place t r = 0x0420 + 48 * t + 2 * r
