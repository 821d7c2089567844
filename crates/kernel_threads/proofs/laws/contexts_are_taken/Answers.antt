use Rattle.kernel_threads.proofs.ContextLemmas.{context_taken}
use Rattle.kernel_threads.proofs.laws.contexts_are_taken.Goals as goal

pub returns : goal.returns
returns c = context_taken
