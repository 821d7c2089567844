-- What calls one after another leave.
use Rattle.std.proofs.Common.{◌≡◌, ℕ, List, refl, sym, ap, ◌∙◌, subst}
use Rattle.kernel_model.specs.Kernel.{Kernel}
use Rattle.kernel_model.specs.Layout.{kernel_of}
use Rattle.kernel_model.specs.Queues.{Leaves}
use Rattle.place_model.specs.Settled.{IsSettled, IsSettledKernel}

-- memory that is left with a settled kernel is settled
pub settled_by : (m m' : List ℕ) (k : Kernel) → IsSettled m → Leaves m m' k → IsSettledKernel k → IsSettled m'
settled_by m m' k s l h = record {
  laid_out = l.laid_out s.laid_out;
  kernel = subst (λ (j : Kernel). IsSettledKernel j) (sym l.kernel) h;
}

-- memory that stays has its kernel
pub leaves_same : (m : List ℕ) → Leaves m m (kernel_of m)
leaves_same m = record { kernel = refl; others = refl; laid_out = λ h. h; queues = λ h. h }

-- two calls, of which the second does f to the kernel
pub leaves_then : (f : Kernel → Kernel) (a b c : List ℕ) (k : Kernel) → Leaves a b k → Leaves b c (f (kernel_of b)) → Leaves a c (f k)
leaves_then f a b c k x y = record {
  kernel = y.kernel ∙ ap f x.kernel;
  others = y.others ∙ x.others;
  laid_out = λ h. y.laid_out (x.laid_out h);
  queues = λ h. y.queues (x.queues h);
}

-- the kernel that is left is another by its name
pub leaves_as : (a b : List ℕ) (j k : Kernel) → j ≡ k → Leaves a b j → Leaves a b k
leaves_as a b j k e x = subst (λ (i : Kernel). Leaves a b i) e x
