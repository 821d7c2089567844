-- Memories with the same tables.
use Rattle.std.proofs.Common.{◌≡◌, List, ℕ, sym, ap, subst}
use Rattle.kernel_model.specs.Kernel.{Kernel}
use Rattle.kernel_model.specs.Layout.{tables, nth, written, kernel_in, kernel_of, IsLaidOut}
use Rattle.kernel_model.specs.Queues.{HasQueues, HasQueueBytes, QueuesHold}

pub kernel_same : (m n : List ℕ) → tables n ≡ tables m → kernel_of n ≡ kernel_of m
unfolding kernel_of
kernel_same m n e = ap (λ ps. kernel_in ps) e

pub laid_same : (m n : List ℕ) → tables n ≡ tables m → IsLaidOut m → IsLaidOut n
unfolding IsLaidOut kernel_of
laid_same m n e h = subst (λ (ps : List (List ℕ)). written (kernel_in ps) ≡ ps) (sym e) h

queue_bytes_same : (m n : List ℕ) → tables n ≡ tables m → HasQueueBytes m → HasQueueBytes n
unfolding HasQueueBytes kernel_of
queue_bytes_same m n e h =
    subst (λ (ps : List (List ℕ)). (nth (written (kernel_in ps)) 2 ≡ nth ps 2) × ((nth (written (kernel_in ps)) 3 ≡ nth ps 3) × (nth (written (kernel_in ps)) 7 ≡ nth ps 7))) (sym e) h

pub queues_same : (m n : List ℕ) → tables n ≡ tables m → QueuesHold m → QueuesHold n
queues_same m n e h = record {
  bytes = queue_bytes_same m n e h.bytes;
  lists = subst (λ (k : Kernel). HasQueues k) (sym (kernel_same m n e)) h.lists;
}
