-- The end of an application frees its mutexes and empties their lists and its conditions', and leaves those of the others.
use Rattle.std.proofs.Common.{◌≡◌, ◌≢◌, ℕ, ◌+◌, ◌*◌, ◌<◌, Bool, true, false, cond, [], length, refl, ap, sym, subst, arith}
use Rattle.kernel_model.specs.Kernel.{Kernel, free_mutex}
use Rattle.kernel_model.specs.Words.{app_of, identity, running, none_running}
use Rattle.kernel_model.specs.Orderly.{HasShape}
use Rattle.kernel_model.specs.Locks.{EndsLocks}
use Rattle.kernel_model.specs.declared.ends.AppEnd.{AppEnd}
use Rattle.kernel_model.specs.declared.rows.MutexRow.{MutexRow}
use Rattle.kernel_model.specs.Ending.{is_of, ended}
use Rattle.thread_laws.specs.Laws.{EndedLocksLaw}
use Rattle.thread_laws.proofs.EndedKernel.{stopped, ended_is}
use Rattle.thread_laws.proofs.FourRows.{four_in, four_out}

ends_by : (k : Kernel) (a : ℕ) (how : AppEnd) (b : Bool) → HasShape k → a < 8 → EndsLocks k (cond b (none_running (stopped k a how)) (stopped k a how)) a
ends_by k a how true h la = record {
  owners = λ i l. ap (λ (r : MutexRow). r.owner) (four_in k.mutexes a (4 * a + i) free_mutex free_mutex (let size = h.mutex_rows in omega arith) (omega arith));
  waiters = λ i l. ap (λ (r : MutexRow). r.waiters.items) (four_in k.mutexes a (4 * a + i) free_mutex free_mutex (let size = h.mutex_rows in omega arith) (omega arith));
  conditions = λ c l. four_in k.conditions a (4 * a + c) [] [] (let size = h.condition_lists in omega arith) (omega arith);
  other_mutexes = λ b i ne l. four_out k.mutexes a (4 * b + i) free_mutex free_mutex (λ q. ne (omega arith));
  other_conditions = λ b c ne l. four_out k.conditions a (4 * b + c) [] [] (λ q. ne (omega arith));
}
ends_by k a how false h la = record {
  owners = λ i l. ap (λ (r : MutexRow). r.owner) (four_in k.mutexes a (4 * a + i) free_mutex free_mutex (let size = h.mutex_rows in omega arith) (omega arith));
  waiters = λ i l. ap (λ (r : MutexRow). r.waiters.items) (four_in k.mutexes a (4 * a + i) free_mutex free_mutex (let size = h.mutex_rows in omega arith) (omega arith));
  conditions = λ c l. four_in k.conditions a (4 * a + c) [] [] (let size = h.condition_lists in omega arith) (omega arith);
  other_mutexes = λ b i ne l. four_out k.mutexes a (4 * b + i) free_mutex free_mutex (λ q. ne (omega arith));
  other_conditions = λ b c ne l. four_out k.conditions a (4 * b + c) [] [] (λ q. ne (omega arith));
}

pub end_frees_locks_rule : EndedLocksLaw
end_frees_locks_rule k a how h la = subst (λ (j : Kernel). EndsLocks k j a) (sym (ended_is k a how)) (ends_by k a how (is_of a (running k)) h.orderly.shape la)
