use Rattle.std.proofs.Common.{◌≡◌, sym, ap, arith}
use Rattle.kernel_model.specs.Kernel.{Kernel, app_at}
use Rattle.kernel_model.specs.Layout.{kernel_of}
use Rattle.kernel_model.specs.Words.{identity}
use Rattle.kernel_model.specs.declared.rows.AppRow.{AppRow}
use Rattle.kernel_model.specs.Starting.{is_free_thread}
use Rattle.kernel_threads.proofs.RangeLemmas.{filter_first, filter_none}
use Rattle.kernel_threads.proofs.entries.free_thread.Goals as goal

pub returns-then-is_free-clause-first : goal.returns-then-is_free-clause-first
returns-then-is_free-clause-first c =
    let k : Kernel = kernel_of c.args.m.now in
    let threads : c.app-threads.result.threads ≡ (app_at k c.args.a).threads = ap (λ (r : AppRow). r.threads) c.app-threads.ensures in
    sym (filter_first (is_free_thread k) (identity c.args.a) (app_at k c.args.a).threads c.loop-n.n (omega arith) c.loop-n.invariant (sym c.if-is_free.ensures))

pub returns-clause-first : goal.returns-clause-first
returns-clause-first c =
    let k : Kernel = kernel_of c.args.m.now in
    let threads : c.app-threads.result.threads ≡ (app_at k c.args.a).threads = ap (λ (r : AppRow). r.threads) c.app-threads.ensures in
    sym (filter_none (is_free_thread k) (identity c.args.a) (app_at k c.args.a).threads (λ n l. c.loop-n.invariant n (omega arith)))
