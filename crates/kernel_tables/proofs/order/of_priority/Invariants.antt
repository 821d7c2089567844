use Rattle.kernel_model.specs.Layout.{kernel_of}
use Rattle.kernel_model.specs.Words.{priority_of}
use Rattle.kernel_tables.proofs.MemberLemmas.{Gathers}
use Rattle.kernel_tables.proofs.order.of_priority.Given as goal

abbrev pub invariant-loop-i : goal.invariant-loop-i
invariant-loop-i l = Gathers (λ t. priority_of (kernel_of l.m) t) l.p l.list l.i l.own.items
