use Rattle.std.proofs.Common.{List, ℕ, get_or, refl, ap, ◌∙◌, arith}
use Rattle.kernel_threads.proofs.ContextLemmas.{take_more, take_all}
use Rattle.kernel_threads.proofs.contexts.take.Goals as goal

pub loop-n-preserved : goal.loop-n-preserved
loop-n-preserved c =
    λ k l. ap (λ (r : List ℕ). get_or r k 0) c.set.ensures
    ∙ take_more c.loop-n.r c.args.words.now c.loop-n.n _ c.is_context.ensures c.requires (omega arith) refl c.loop-n.invariant k l

pub returns : goal.returns
returns c = take_all c.loop-n.r c.args.words.now c.is_context-2.ensures c.requires (λ k l. c.loop-n.invariant k (omega arith))
