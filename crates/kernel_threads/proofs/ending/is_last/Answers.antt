use Rattle.std.proofs.Common.{◌≡◌, ℕ, Bool, false, ◌||◌, eqb, sym, ap, ◌∙◌, arith}
use Rattle.std.proofs.lemmas.Bool.{ne_eqb}
use Rattle.kernel_model.specs.Kernel.{Kernel, app_at}
use Rattle.kernel_model.specs.Layout.{kernel_of}
use Rattle.kernel_model.specs.Words.{app_of, identity}
use Rattle.kernel_model.specs.declared.rows.AppRow.{AppRow}
use Rattle.kernel_model.specs.Starting.{is_free_thread}
use Rattle.kernel_threads.proofs.RangeLemmas.{all_pass, one_fails}
use Rattle.kernel_threads.proofs.ending.is_last.Goals as goal

pub returns-then-not-is_free : goal.returns-then-not-is_free
returns-then-not-is_free c =
    let k : Kernel = kernel_of c.args.m.now in
    let t : ℕ = c.args.t in
    let other : ℕ = identity (app_of t) c.loop-n.n in
    let threads : c.app-threads.result.threads ≡ (app_at k (app_of t)).threads = ap (λ (r : AppRow). r.threads) c.app-threads.ensures in
    let live' : is_free_thread k other ≡ false = sym c.if-not-is_free.ensures in
    let fails : (eqb other t || is_free_thread k other) ≡ false =
    ap (λ (b : Bool). b || is_free_thread k other) (ne_eqb other t (omega arith)) ∙ live' in
    sym (one_fails (λ x. eqb x t || is_free_thread k x) (identity (app_of t)) (app_at k (app_of t)).threads c.loop-n.n (omega arith) fails)

pub returns : goal.returns
returns c =
    let k : Kernel = kernel_of c.args.m.now in
    let t : ℕ = c.args.t in
    let threads : c.app-threads.result.threads ≡ (app_at k (app_of t)).threads = ap (λ (r : AppRow). r.threads) c.app-threads.ensures in
    sym (all_pass (λ x. eqb x t || is_free_thread k x) (identity (app_of t)) (app_at k (app_of t)).threads (λ n l. c.loop-n.invariant n (omega arith)))
