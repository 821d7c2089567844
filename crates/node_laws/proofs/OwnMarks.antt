-- The marks of the domain that runs are those of the bitmap.
use Rattle.std.proofs.Common.{◌≡◌, ℕ, ◌+◌, true, cond, eqb, List, sym, ap, ◌∙◌, subst, arith, Option}
use Rattle.std.specs.Prelude.{◌↔◌}
use Rattle.kernel_model.specs.Kernel.{Kernel}
use Rattle.kernel_model.specs.Words.{none, running, app_of}
use Rattle.kernel_model.specs.Running.{NoneRuns, DomainRuns, running_domain}
use Rattle.place_model.specs.declared.places.DomainRow.{DomainRow}
use Rattle.place_model.specs.Marking.{IsMarkOf}
use Rattle.place_model.specs.Placing.{domain_at}
use Rattle.load_model.specs.Domains.{Domain, code_length}
use Rattle.node_model.specs.Systems.{System, seen, domain_in, is_mark}
use Rattle.node_model.specs.Sound.{IsRunning, AThread, Nothing, Interrupted, IdleInterrupted, AModule, HasDomain}
use Rattle.node_model.specs.Code.{OwnMarkLaw}
use Rattle.node_laws.proofs.Marking.{mark-seen}
use Rattle.node_laws.proofs.Stepping.{HasPlaces, places-of, domain-runs}
use Rattle.node_laws.proofs.Within.{domain-module}

-- ---- the domain that runs is placed

none-placed : (k : Kernel) (ds : List (Option Domain)) → NoneRuns k → DomainRuns k → HasDomain ds (running_domain k)
none-placed k ds r l =
    let same : running_domain k ≡ app_of (running k) =
    ap (λ (i : ℕ). cond (eqb i none) (app_of (running k)) (8 + i)) r.no_module in
    absurd (omega (arith, l, same, r.no_thread))

placed-by : (s : System) → IsRunning s.memory s.context s.kernel s.placed → DomainRuns s.kernel
    → HasDomain s.placed (running_domain s.kernel)
placed-by s (AThread r good) l = (good.domain, ap (domain_in s.placed) (domain-runs s.kernel r) ∙ good.placed)
placed-by s (Interrupted r serving i) l = (i.good.domain, ap (domain_in s.placed) (domain-runs s.kernel r) ∙ i.good.placed)
placed-by s (AModule m good) l = (good.domain, ap (domain_in s.placed) (domain-module s.kernel m) ∙ good.placed)
placed-by s (Nothing r e) l = none-placed s.kernel s.placed r l
placed-by s (IdleInterrupted r serving i) l = none-placed s.kernel s.placed r l

-- ---- its marks

abbrev IsMarkAt : List ℕ → DomainRow → (at : ℕ) → Type 0
IsMarkAt m r at = IsMarkOf m r.code.from r.code.to at

pub own-mark : OwnMarkLaw
own-mark m s at w h l =
    let n : ℕ = running_domain s.kernel in
    let has : HasDomain s.placed n = placed-by s h.running l in
    let p : HasPlaces (domain_at s.kernel n) has.0 = places-of s.kernel n has.0 (h.kernel.domains.placed n has.0 has.1) in
    let Q : Type 0 = is_mark s.placed n at ≡ true in
    let domain : IsMarkOf (seen s) has.0.code_lo (has.0.code_lo + code_length has.0.object) at ↔ Q = mark-seen s n has.0 at h has.1 in
    let row : IsMarkAt (seen s) (domain_at s.kernel n) at ↔ Q =
    subst (λ (x : ℕ). IsMarkOf (seen s) x (domain_at s.kernel n).code.to at ↔ Q) (sym p.code_from)
    (subst (λ (x : ℕ). IsMarkOf (seen s) has.0.code_lo x at ↔ Q) (sym p.code_to) domain) in
    subst (λ (k : Kernel). IsMarkAt m (domain_at k (running_domain k)) at ↔ Q) (sym w.kernel)
    (subst (λ (x : List ℕ). IsMarkAt x (domain_at s.kernel n) at ↔ Q) (sym w.bytes) row)
