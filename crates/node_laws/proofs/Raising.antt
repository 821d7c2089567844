-- Raised lines leave a system sound.
use Rattle.std.proofs.Common.{ℕ, ◌%◌, ◌^◌, List, arith, Option}
use Rattle.std.specs.Prelude.{bit_or}
use Rattle.std.proofs.lemmas.Nat.{or_lt}
use Rattle.kernel_model.specs.Kernel.{Kernel, with_word}
use Rattle.kernel_model.specs.declared.rows.SysWord.TheVariants.{Pending}
use Rattle.load_model.specs.Domains.{Domain}
use Rattle.node_model.specs.Steps.{pending}
use Rattle.node_model.specs.Sound.{IsRunning, AThread, Nothing, Interrupted, IdleInterrupted, AModule}
use Rattle.node_model.specs.Laws.{RaisedLaw}
use Rattle.node_laws.proofs.Interrupting.{sound-pending}

running-pending : (m c : List ℕ) (k : Kernel) (ds : List (Option Domain)) (v : ℕ) → IsRunning m c k ds
    → IsRunning m c (with_word k Pending v) ds
running-pending m c k ds v (AThread r good) = AThread record { thread = r.thread; no_module = r.no_module } good
running-pending m c k ds v (Nothing r e) = Nothing record { no_thread = r.no_thread; no_module = r.no_module } e
running-pending m c k ds v (Interrupted r s i) =
    Interrupted record { thread = r.thread; no_module = r.no_module } s
    record { good = i.good; even_pc = i.even_pc; from_low = i.from_low; to_top = i.to_top }
running-pending m c k ds v (IdleInterrupted r s i) = IdleInterrupted record { no_thread = r.no_thread; no_module = r.no_module } s i
running-pending m c k ds v (AModule l good) = AModule l good

pub raised-sound : RaisedLaw
raised-sound s raised h = record {
  code = h.code;
  kernel = sound-pending s.kernel s.placed s.steps (bit_or (pending s.kernel) (raised % 2 ^ 14))
      (or_lt 14 (pending s.kernel) (raised % 2 ^ 14) h.kernel.bounded.lines (omega arith)) h.kernel;
  running = running-pending s.memory s.context s.kernel s.placed _ h.running;
}
