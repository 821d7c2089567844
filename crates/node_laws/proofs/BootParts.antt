-- The parts of boot: what holds while objects are placed, and at the end.
use Rattle.std.proofs.Common.{◌≡◌, ℕ, zero, suc, ◌+◌, List, [], ◌∷◌, length, drop, set, replicate, refl, sym, ap, ◌∙◌, subst, arith, length-set, Some, Result, Ok, Err}
use Rattle.std.specs.Prelude.{slice_get}
use Rattle.std.proofs.lemmas.List.{drop_all}
use Rattle.kernel_model.specs.Kernel.{Kernel}
use Rattle.place_model.specs.declared.places.Regions.{Regions}
use Rattle.place_model.specs.declared.places.NoRoom.{NoRoom}
use Rattle.load_model.specs.Loading.{Loadable, Loaded, loaded_kernel, places_of}
use Rattle.node_model.specs.Systems.{System}
use Rattle.node_model.specs.Booting.{Refusal, empty_system, by_places, loaded, loaded_all, booted, begun_if, begun_system}
use Rattle.node_model.specs.Sound.{IsSound}
use Rattle.node_model.specs.Nodes.{Parts, Boots, IsBootRefusal, Represents, all_owned, nobody}
use Rattle.node_model.specs.Code.{Shows}
use Rattle.node_model.specs.BootCode.{IsBooting, BootBeginsLaw, BootGoesOnLaw, BootRefusesLaw, BootStandsLaw}
use Rattle.node_laws.proofs.Booting.{begun-sound}
use Rattle.node_laws.proofs.FirstSystem.{first-loading}
use Rattle.node_laws.proofs.Loading.{ImageLaws, loaded-loading}
use Rattle.node_laws.proofs.LoadedOwning.{loaded-owned}
use Rattle.node_laws.proofs.Owning.{owned-stays}
use Rattle.node_laws.proofs.Resting.{dispatch}
use Rattle.node_laws.proofs.Showing.{leaves-bytes}
use Rattle.node_laws.proofs.ShowingFirst.{first-seen}
use Rattle.node_laws.proofs.ShowingLoaded.{seen-loaded}
use Rattle.node_laws.proofs.Starting.{started-sound}

-- ---- at first

none-owned : (os : List Loadable) → all_owned empty_system.kernel os empty_system.owner ≡ empty_system.placed
unfolding all_owned empty_system
none-owned os = refl

first-owners : replicate 12 nobody ≡ empty_system.owner
unfolding empty_system
first-owners = refl

pub boot-begins : BootBeginsLaw
boot-begins before after os h = record {
  loading = first-loading;
  shows = first-seen before after h;
  owners = first-owners;
  twelve = refl;
  owned = none-owned os;
  rest = refl;
}

-- ---- an object

-- the rest of a list begins with its object
rest-is : (os : List Loadable) (n : ℕ) (o : Loadable) → slice_get os n ≡ Some o → drop n os ≡ o ∷ drop (n + 1) os
rest-is [] n o e = absurd (cc)
rest-is (x ∷ os) zero o e = (let same : x ≡ o = cc in ap (λ (y : Loadable). y ∷ os) same)
rest-is (x ∷ os) (suc n) o e = (let more : n + 1 ≡ suc n = omega arith in let next : suc n + 1 ≡ suc (n + 1) = omega arith in
    rest-is os n o e ∙ ap (λ (i : ℕ). o ∷ drop i (x ∷ os)) (sym next))

placed-next : (s : System) (n : ℕ) (o : Loadable) (p : Result Regions NoRoom) → places_of s.kernel o.object ≡ p
    → loaded s n o ≡ by_places s n o p
unfolding loaded
placed-next s n o p e = ap (by_places s n o) e

rest-next : (os : List Loadable) (s : System) (n : ℕ) (o : Loadable) (p : Result Regions NoRoom) → slice_get os n ≡ Some o
    → places_of s.kernel o.object ≡ p → loaded_all (Ok s) n (drop n os) ≡ loaded_all (by_places s n o p) (n + 1) (drop (n + 1) os)
rest-next os s n o p found e =
    ap (λ (xs : List Loadable). loaded_all (Ok s) n xs) (rest-is os n o found)
    ∙ ap (λ (x : Result System Refusal). loaded_all x (n + 1) (drop (n + 1) os)) (placed-next s n o p e)

pub boot-goes-on : ImageLaws → BootGoesOnLaw
boot-goes-on laws before after owner os n s r h =
    let b : IsBooting before owner os n s = h.booting in
    let o : Loadable = h.object in
    let places : places_of s.kernel o.object ≡ Ok r = ap (λ (k : Kernel). places_of k o.object) (sym b.shows.kernel) ∙ h.places in
    let l : Loaded before after (loaded_kernel o.object.kind s.kernel o.object r) o r =
    subst (λ (k : Kernel). Loaded before after (loaded_kernel o.object.kind k o.object r) o r) b.shows.kernel h.loaded in
    let a = h.fitting n o h.found in
    record {
      loading = loaded-loading laws s n o r b.loading a places;
      shows = seen-loaded laws before after s n o r b.loading a places b.shows h.memory l;
      owners = ap (λ (xs : List ℕ). set xs r.dom n) b.owners;
      twelve = length-set owner r.dom n ∙ b.twelve;
      owned = loaded-owned laws os s n o r b.loading a (ap (λ (xs : List ℕ). length xs) (sym b.owners) ∙ b.twelve) b.owned h.found
          h.numbered places;
      rest = b.rest ∙ rest-next os s n o (Ok r) h.found places;
    }

-- ---- no room

refused-all : (e : Refusal) (n : ℕ) (os : List Loadable) → loaded_all (Err e) n os ≡ Err e
refused-all e n [] = refl
refused-all e n (o ∷ os) = refl

pub boot-refuses : BootRefusesLaw
unfolding booted
boot-refuses m owner os n s o why b found e =
    let places : places_of s.kernel o.object ≡ Err why = ap (λ (k : Kernel). places_of k o.object) (sym b.shows.kernel) ∙ e in
    let refusal : Refusal = record { object = n; cause = why } in
    let all : loaded_all (Ok empty_system) 0 os ≡ Err refusal =
    b.rest ∙ rest-next os s n o (Err why) found places ∙ refused-all refusal (n + 1) (drop (n + 1) os) in
    let is : IsBootRefusal (Err refusal) n why = (refl, refl) in
    subst (λ (x : Result System Refusal). IsBootRefusal (begun_if x) n why) (sym all) is

-- ---- the end

begun-represents : (before : List ℕ) (new : Parts) (os : List Loadable) (s : System) → IsBooting before new.owner os (length os) s
    → IsSound (begun_system s) → Shows new.mem (begun_system s) → new.regs ≡ (begun_system s).context → new.steps ≡ 0
    → Represents new os (begun_system s)
begun-represents before new os s b sound shows regs steps = record {
  memory = shows.bytes;
  kernel = shows.kernel;
  context = regs;
  steps = steps ∙ sym b.loading.made;
  owner = b.owners;
  placed = owned-stays s.kernel (begun_system s).kernel os s.owner s.placed b.loading.domains sound.kernel.domains b.owned;
}

pub boot-stands : BootStandsLaw
unfolding booted
boot-stands before new os s h =
    let b : IsBooting before new.owner os (length os) s = h.booting in
    let sound : IsSound (begun_system s) = (begun-sound started-sound dispatch s b.loading).0 in
    let shows : Shows new.mem (begun_system s) = record {
      memory = h.memory;
      bytes = leaves-bytes before new.mem s (begun_system s).kernel b.shows b.loading.code.memory h.memory h.left;
      kernel = h.left.kernel;
    } in
    let all : loaded_all (Ok empty_system) 0 os ≡ Ok s =
    b.rest ∙ ap (λ (xs : List Loadable). loaded_all (Ok s) (length os) xs) (drop_all (length os) os (omega arith)) in
    let ends : Boots new os (Ok (begun_system s)) = (begun-represents before new os s b sound shows h.regs h.steps, sound) in
    subst (λ (x : Result System Refusal). Boots new os (begun_if x)) (sym all) ends
