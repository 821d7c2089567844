-- What keeps memory settled.
use Rattle.std.proofs.Common.{◌≡◌, ℕ, List, ap, sym, ◌∙◌, subst}
use Rattle.kernel_model.specs.Kernel.{Kernel}
use Rattle.kernel_model.specs.Layout.{tables, kernel_in, kernel_of, written, IsLaidOut}
use Rattle.kernel_model.specs.Queues.{Leaves}
use Rattle.place_model.specs.Settled.{IsSettledKernel, IsSettled}

pub same_kernel : (m n : List ℕ) → tables n ≡ tables m → kernel_of n ≡ kernel_of m
unfolding kernel_of
same_kernel m n e = ap (λ (ps : List (List ℕ)). kernel_in ps) e

same_layout : (m n : List ℕ) → tables n ≡ tables m → IsLaidOut m → IsLaidOut n
unfolding IsLaidOut
same_layout m n e h = ap (λ (k : Kernel). written k) (same_kernel m n e) ∙ h ∙ sym e

-- where the tables stay
pub tables_settled : (m n : List ℕ) → tables n ≡ tables m → IsSettled m → IsSettled n
tables_settled m n e s = record {
  laid_out = same_layout m n e s.laid_out;
  kernel = subst (λ (k : Kernel). IsSettledKernel k) (sym (same_kernel m n e)) s.kernel;
}

-- where a setter leaves a settled kernel
pub left_settled : (m n : List ℕ) (k : Kernel) → Leaves m n k → IsLaidOut m → IsSettledKernel k → IsSettled n
left_settled m n k h l s = record { laid_out = h.laid_out l; kernel = subst (λ (x : Kernel). IsSettledKernel x) (sym h.kernel) s }
