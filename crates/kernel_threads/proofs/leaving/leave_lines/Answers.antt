use Rattle.std.proofs.Common.{◌<◌, ◌≤◌, length, map, sym, ap, arith}
use Rattle.kernel_model.specs.Ending.{others}
use Rattle.kernel_model.specs.Kernel.{Kernel}
use Rattle.kernel_model.specs.Layout.{kernel_of}
use Rattle.kernel_threads.specs.Leaving.{with_lines}
use Rattle.kernel_threads.proofs.ChainLemmas.{leaves_as, leaves_same}
use Rattle.kernel_threads.proofs.LineLemmas.{lines_left, lines_left_none, lines_left_all, line_members, line_left}
use Rattle.kernel_threads.proofs.leaving.leave_lines.Goals as goal

pub loop-n-init : goal.loop-n-init
loop-n-init c =
    let k : Kernel = kernel_of c.args.m.now in
    leaves_as c.args.m.now c.args.m.now k (with_lines k (lines_left c.args.a k.lines 0)) (sym (ap (λ xs. with_lines k xs) (lines_left_none c.args.a k.lines))) (leaves_same c.args.m.now)

pub set_line-requires-clause-members : goal.set_line-requires-clause-members
set_line-requires-clause-members c =
    let within : c.loop-n.n < length (kernel_of c.args.m.now).lines = omega (arith, c.kernel_fits.ensures.line_lists) in
    line_members c.args.m.now c.loop-n.m c.args.a c.loop-n.n c.line.result.items c.others-list.result.items within (c.requires c.loop-n.n (omega arith)) c.loop-n.invariant
    c.line.ensures c.others-list.ensures

pub loop-n-preserved : goal.loop-n-preserved
loop-n-preserved c =
    let within : c.loop-n.n < length (kernel_of c.args.m.now).lines = omega (arith, c.kernel_fits.ensures.line_lists) in
    line_left c.args.m.now c.loop-n.m c.set_line.new.m c.args.a c.loop-n.n c.line.result.items c.others-list.result.items within c.loop-n.invariant
    c.line.ensures c.others-list.ensures c.set_line.ensures

pub returns : goal.returns
returns c =
    let k : Kernel = kernel_of c.args.m.now in
    let past : length k.lines ≤ c.loop-n.n = omega (arith, c.kernel_fits.ensures.line_lists) in
    leaves_as c.args.m.now c.loop-n.m (with_lines k (lines_left c.args.a k.lines c.loop-n.n)) (with_lines k (map (others c.args.a) k.lines))
    (ap (λ xs. with_lines k xs) (lines_left_all c.args.a k.lines c.loop-n.n past)) c.loop-n.invariant
