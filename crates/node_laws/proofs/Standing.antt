-- A node stands for the system behind its step.
use Rattle.std.proofs.Common.{◌≡◌, ℕ, ◌+◌, List, refl, sym, ap, ◌∙◌, subst, Option, None, Some}
use Rattle.msp_encode.specs.declared.instr.Instr.{Instr}
use Rattle.machine_model.specs.Context.{reg}
use Rattle.load_model.specs.Domains.{Domain}
use Rattle.trace_model.specs.declared.records.Record.{Record}
use Rattle.node_model.specs.Systems.{System, seen}
use Rattle.node_model.specs.Steps.{Next, Case, Accepts, IsIdle, Enters, Serves, OverBudget, Runs, by_case, case_of, fetched, instruction, step, step_of, with_raised}
use Rattle.node_model.specs.Sound.{AreDomains}
use Rattle.node_model.specs.Confined.{IsConfined}
use Rattle.node_model.specs.Kept.{Keeps}
use Rattle.node_model.specs.Spelled.{IsSpelled}
use Rattle.node_model.specs.Laws.{IsSafe}
use Rattle.node_model.specs.Nodes.{all_owned}
use Rattle.node_model.specs.Code.{StandsLaw}
use Rattle.node_laws.specs.Facts.{Given}
use Rattle.node_laws.proofs.Composing.{made}
use Rattle.node_laws.proofs.Joining.{each-step}
use Rattle.node_laws.proofs.Owning.{owned-stays}
use Rattle.node_laws.proofs.Raising.{raised-sound}

-- ---- a step leaves the domains and their owners

record KeepsDomains (s : System) (x : Next) : Type 0 where
  owner : x.system.owner ≡ s.owner
  placed : x.system.placed ≡ s.placed

keeps-instruction : (s : System) (o : Option (Instr × ℕ)) → KeepsDomains s (instruction s o)
keeps-instruction s None = record { owner = refl; placed = refl }
keeps-instruction s (Some x) = record { owner = refl; placed = refl }

keeps-domains : (s : System) (pick : Option ℕ) (c : Case) → KeepsDomains s (by_case s pick c)
keeps-domains s pick (Accepts n) = record { owner = refl; placed = refl }
keeps-domains s pick IsIdle = record { owner = refl; placed = refl }
keeps-domains s pick (Enters c) = record { owner = refl; placed = refl }
keeps-domains s pick (Serves n) = record { owner = refl; placed = refl }
keeps-domains s pick OverBudget = record { owner = refl; placed = refl }
keeps-domains s pick Runs = keeps-instruction s (fetched (seen s) (reg s.context 0))

-- ---- the whole step

pub stands : Given → StandsLaw
unfolding step
stands laws old new os s raised pick told h =
    let s1 : System = with_raised s raised in
    let x : Next = step_of s1 pick in
    let safe : IsSafe s1 x = each-step laws s1 pick (raised-sound s raised h.sound) h.made in
    let same : KeepsDomains s1 x = keeps-domains s1 pick (case_of s1.kernel s1.context) in
    let domains : AreDomains x.system.kernel.apps x.system.kernel.modules s.placed =
    subst (λ (ds : List (Option Domain)). AreDomains x.system.kernel.apps x.system.kernel.modules ds) same.placed
    safe.sound.kernel.domains in
    let owned : all_owned x.system.kernel os s.owner ≡ s.placed =
    owned-stays s.kernel x.system.kernel os s.owner s.placed h.sound.kernel.domains domains h.represents.placed in
    record {
      represents = record {
        memory = h.gives.shows.bytes;
        kernel = h.gives.shows.kernel;
        context = h.gives.regs;
        steps = h.steps ∙ ap (λ (n : ℕ). n + 1) h.represents.steps ∙ sym (made s1 pick (case_of s1.kernel s1.context));
        owner = h.owner ∙ h.represents.owner ∙ sym same.owner;
        placed = ap (λ (o : List ℕ). all_owned x.system.kernel os o) same.owner ∙ owned ∙ sym same.placed;
      };
      shown = h.gives.shown;
      sound = safe.sound;
      confined = subst (λ (r : Record). IsConfined s1 r) (sym h.gives.shown) safe.confined;
      keeps = subst (λ (r : Record). Keeps r s1 x.system) (sym h.gives.shown) safe.keeps;
      spelled = subst (λ (r : Record). IsSpelled r s1 x.system) (sym h.gives.shown) safe.spelled;
    }
