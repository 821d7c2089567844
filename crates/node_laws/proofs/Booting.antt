-- Boot, from the laws of its parts.
use Rattle.std.proofs.Common.{◌≡◌, ℕ, suc, ◌+◌, List, [], ◌∷◌, refl, sym, subst, None, Result, Ok, Err}
use Rattle.code_model.specs.Verdicts.{IsAccepted}
use Rattle.place_model.specs.declared.places.Regions.{Regions}
use Rattle.place_model.specs.declared.places.NoRoom.{NoRoom}
use Rattle.kernel_model.specs.Running.{NoneRuns}
use Rattle.kernel_model.specs.Dispatching.{dispatched, dispatched_context}
use Rattle.node_model.specs.Systems.{System}
use Rattle.node_model.specs.Sound.{IsSound, IsSoundKernel, IsRunning}
use Rattle.load_model.specs.Loading.{Loadable, places_of}
use Rattle.node_model.specs.Booting.{Refusal, empty_system, by_places, loaded, loaded_all, all_started, begun_system, begun_if, booted}
use Rattle.node_model.specs.Laws.{IsLoading, EmptyLaw, LoadedLaw, StartedLaw, DispatchLaw}
use Rattle.node_model.specs.Nodes.{BootLaw, IsFitting}

-- what a result says where it is a system
abbrev IfLoading : Result System Refusal → Type 0
IfLoading (Ok s) = IsLoading s
IfLoading (Err e) = Unit {0}

by-places : LoadedLaw → (s : System) (n : ℕ) (o : Loadable) → IsLoading s → IsAccepted o.object o.units
    → (p : Result Regions NoRoom) → places_of s.kernel o.object ≡ p → IfLoading (by_places s n o p)
by-places law s n o h a (Ok r) e = law s n o r h a e
by-places law s n o h a (Err why) e = tt

one-loaded : LoadedLaw → (s : System) (n : ℕ) (o : Loadable) → IsLoading s → IsAccepted o.object o.units → IfLoading (loaded s n o)
unfolding loaded
one-loaded law s n o h a = by-places law s n o h a (places_of s.kernel o.object) refl

all-loaded : LoadedLaw → (os : List Loadable) (n : ℕ) (r : Result System Refusal) → IsFitting os → IfLoading r
    → IfLoading (loaded_all r n os)
all-loaded law [] n r fit h = h
all-loaded law (o ∷ os) n (Err e) fit h = tt
all-loaded law (o ∷ os) n (Ok s) fit h =
    all-loaded law os (n + 1) (loaded s n o) (λ i x e. fit (suc i) x e) (one-loaded law s n o h (fit 0 o refl))

pub begun-sound : StartedLaw → DispatchLaw → (s : System) → IsLoading s → IsSound (begun_system s) × (s.steps ≡ 0)
begun-sound started dispatch s h =
    let k : IsSoundKernel (all_started s.placed s.kernel) s.placed 0 × NoneRuns (all_started s.placed s.kernel) = started s h in
    let d : IsSoundKernel (dispatched (all_started s.placed s.kernel) None) s.placed 0
    × IsRunning s.memory (dispatched_context (all_started s.placed s.kernel) None)
    (dispatched (all_started s.placed s.kernel) None) s.placed =
    dispatch s.memory (all_started s.placed s.kernel) s.placed 0 None k.0 k.1 in (
      record {
        code = h.code;
        kernel =
            subst (λ (n : ℕ). IsSoundKernel (dispatched (all_started s.placed s.kernel) None) s.placed n) (sym h.made) d.0;
        running =
            d.1;
      },
      h.made,
    )

by-result : StartedLaw → DispatchLaw → (r : Result System Refusal) (s : System) → IfLoading r → begun_if r ≡ Ok s → IsSound s
    × (s.steps ≡ 0)
by-result started dispatch (Ok x) s h e =
    let same : begun_system x ≡ s = cc in
    subst (λ (y : System). IsSound y × (y.steps ≡ 0)) same (begun-sound started dispatch x h)
by-result started dispatch (Err x) s h e = absurd (cc)

pub boot : EmptyLaw → LoadedLaw → StartedLaw → DispatchLaw → BootLaw
unfolding booted
boot empty law started dispatch os s fit e =
    by-result started dispatch (loaded_all (Ok empty_system) 0 os) s (all-loaded law os 0 (Ok empty_system) fit empty) e
