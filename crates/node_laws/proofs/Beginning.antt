-- Threads start one after another.
use Rattle.std.proofs.Common.{◌≡◌, ◌≢◌, ℕ, ◌<◌, List, refl, ap, ◌∙◌, Option, None, Some}
use Rattle.kernel_model.specs.Kernel.{Kernel, app_at}
use Rattle.kernel_model.specs.Words.{free}
use Rattle.kernel_model.specs.Starting.{started}
use Rattle.load_model.specs.Domains.{Domain}
use Rattle.node_model.specs.Systems.{domain_in}
use Rattle.node_model.specs.Booting.{started_if, started_below}
use Rattle.node_model.specs.Sound.{HasDomain}
use Rattle.node_model.specs.BootCode.{BeginningLaw}
use Rattle.node_laws.proofs.Domains.{of-app}
use Rattle.node_laws.proofs.Starting.{IsStarting, first-is, started-next, starting-below}

-- a row is used where there is a domain
row-used : (ds : List (Option Domain)) (k : Kernel) (m a : ℕ) → IsStarting ds k m → a < 8 → HasDomain ds a → (app_at k a).state ≢ free
row-used ds k m a h l has = (of-app k.apps k.modules a has.0 l (h.domains.placed a has.0 has.1)).1.used

starts-where : (ds : List (Option Domain)) (k : Kernel) (n : ℕ) → HasDomain ds n → started_if (domain_in ds n) k n ≡ started k n
starts-where ds k n has = ap (λ (o : Option Domain). started_if o k n) has.1

passes-by : (ds : List (Option Domain)) (k : Kernel) (n : ℕ) (o : Option Domain) → domain_in ds n ≡ o → (HasDomain ds n → ⊥)
    → started_if o k n ≡ k
passes-by ds k n None e without = refl
passes-by ds k n (Some d) e without = absurd (without (d, e))

pub beginning : BeginningLaw
beginning s n h few =
    let k : Kernel = started_below s.placed s.kernel n in
    let b : IsStarting s.placed k n = starting-below s n h few in
    record {
      settled = b.settled;
      none_runs = b.none_runs;
      used = λ a l. (λ u. b.domains.apps_used a l u, λ has. row-used s.placed k n a b l has);
      may = λ l u. (let has : HasDomain s.placed n = b.domains.apps_used n l u in (first-is s.placed k n has.0 l b has.1).may);
      starts = λ l u. started-next s.placed s.kernel n ∙ starts-where s.placed k n (b.domains.apps_used n l u);
      passes = λ l f. started-next s.placed s.kernel n
          ∙ passes-by s.placed k n (domain_in s.placed n) refl (λ has. row-used s.placed k n n b l has f);
    }
