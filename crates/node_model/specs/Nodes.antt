-- Which systems a node stands for, and what its calls promise.
use Rattle.std.specs.Prelude.{◌≡◌, ℕ, ◌+◌, ◌-◌, ◌<◌, ◌≤◌, Bool, ◌==◌, nat_lt, if◌then◌else◌, List, [], ◌++◌, ◌∷◌, length, map, slice_index_or, slice_get, codes, decimal, Option, None, Some, Result, Ok, Err}
use Rattle.std.specs.List.{flat_map, filter, range_with_len}
use Rattle.std.specs.Option.{option_map}
use Rattle.line_text.specs.Hexadecimal.{hex_word}
use Rattle.kernel_model.specs.Kernel.{Kernel}
use Rattle.kernel_model.specs.Layout.{kernel_of}
use Rattle.place_model.specs.declared.places.NoRoom.{NoRoom}
use Rattle.place_model.specs.Placing.{domain_at}
use Rattle.load_model.specs.Domains.{Domain}
use Rattle.code_model.specs.Verdicts.{IsAccepted}
use Rattle.trace_model.specs.declared.records.Record.{Record}
use Rattle.trace_model.specs.declared.scripts.Script.{Script}
use Rattle.trace_model.specs.Texts.{shown_texts, end_of_line, space}
use Rattle.node_model.specs.Systems.{System, seen}
use Rattle.node_model.specs.Steps.{step, with_raised}
use Rattle.trace_model.specs.Draws.{raised_at}
use Rattle.node_model.specs.Runs.{Run, run, is_quiet, emits, faults, next}
use Rattle.node_model.specs.Sound.{IsSound}
use Rattle.node_model.specs.Confined.{IsConfined}
use Rattle.node_model.specs.Kept.{Keeps}
use Rattle.node_model.specs.Spelled.{IsSpelled}
use Rattle.load_model.specs.Loading.{Loadable}
use Rattle.node_model.specs.Booting.{booted, Refusal}

abbrev pub most_steps : ℕ
most_steps = 10000000

-- ---- the system of a node

-- what a node holds, as contracts see it
pub record Parts : Type 0 where
  pub mem : List ℕ
  pub regs : List ℕ
  pub steps : ℕ
  pub owner : List ℕ

abbrev pub nobody : ℕ
nobody = 255

-- the object at the places of the row of its number
abbrev pub at_row : Kernel → (number : ℕ) → Loadable → Domain
at_row k n o =
    let r = domain_at k n in record { object = o.object; units = o.units; code_lo = r.code.from; lo = r.region.from; hi = r.region.to }

abbrev pub owned : Kernel → List Loadable → (owner : List ℕ) → (number : ℕ) → Option Domain
owned k os owner n =
    if slice_index_or owner n nobody == nobody then None else option_map (at_row k n) (slice_get os (slice_index_or owner n nobody))

unfoldable pub all_owned : Kernel → List Loadable → (owner : List ℕ) → List (Option Domain)
all_owned k os owner = map (owned k os owner) (range_with_len 0 12)

-- the system that a node's parts and the objects make
unfoldable pub system_of : Parts → List Loadable → System
system_of n os = record {
  memory = n.mem;
  context = n.regs;
  kernel = kernel_of n.mem;
  placed = all_owned (kernel_of n.mem) os n.owner;
  owner = n.owner;
  steps = n.steps;
}

-- the node's memory is what is seen of the system, and its other parts are the system's
pub record Represents (n : Parts) (os : List Loadable) (s : System) : Type 0 where
  pub memory : n.mem ≡ seen s
  pub kernel : kernel_of n.mem ≡ s.kernel
  pub context : n.regs ≡ s.context
  pub steps : n.steps ≡ s.steps
  pub owner : n.owner ≡ s.owner
  pub placed : all_owned s.kernel os s.owner ≡ s.placed

-- the condition of `step` and `run`: the list is the one that was given to `boot`
pub record IsSoundNode (n : Parts) (os : List Loadable) : Type 0 where
  pub represents : Represents n os (system_of n os)
  pub sound : IsSound (system_of n os)

-- ---- boot

abbrev pub IsFitting : List Loadable → Type 0
IsFitting os = (i : ℕ) (o : Loadable) → slice_get os i ≡ Some o → IsAccepted o.object o.units

abbrev pub Boots : Parts → List Loadable → Result System Refusal → Type 0
Boots n os (Ok s) = Represents n os s × IsSound s
Boots n os (Err e) = ⊥

abbrev pub IsBootRefusal : Result System Refusal → (object : ℕ) → NoRoom → Type 0
IsBootRefusal (Ok s) i why = ⊥
IsBootRefusal (Err e) i why = (e.object ≡ i) × (e.cause ≡ why)

-- ---- step

-- the node stands for the system behind the step, whose record is told. It is confined by the system whose lines were raised, since
-- an instruction may read the mask of pending lines
pub record Stepped (new : Parts) (os : List Loadable) (s : System) (raised : ℕ) (pick : Option ℕ) (told : Record) : Type 0 where
  pub represents : Represents new os (step s raised pick).system
  pub shown : told ≡ (step s raised pick).shown
  pub sound : IsSound (step s raised pick).system
  pub confined : IsConfined (with_raised s raised) told
  pub keeps : Keeps told (with_raised s raised) (step s raised pick).system
  pub spelled : IsSpelled told (with_raised s raised) (step s raised pick).system

abbrev pub Steps : (old new : Parts) → List Loadable → (raised : ℕ) → (pick : Option ℕ) → (told : Record) → Type 0
Steps old new os raised pick told = (s : System) → Represents old os s → IsSound s → Stepped new os s raised pick told

-- ---- run

-- the numbers of the domains, in the order of their objects
abbrev pub in_order : (owner : List ℕ) → (count : ℕ) → List ℕ
in_order owner count =
    flat_map (λ i. filter (λ n. slice_index_or owner n nobody == i) (range_with_len 0 12)) (range_with_len 0 count)

abbrev pub name_text : (number : ℕ) → List ℕ
name_text n = if nat_lt n 8 then codes "a" ++ decimal n else codes "m" ++ decimal (n - 8)

abbrev pub placement_line : Kernel → (number : ℕ) → List ℕ
placement_line k n =
    let r = domain_at k n in
    name_text n ++ space ++ hex_word r.code.from ++ space ++ hex_word r.code.to ++ space ++ hex_word r.region.from ++ space
    ++ hex_word r.region.to ++ end_of_line

abbrev pub placement_text : System → (count : ℕ) → List ℕ
placement_text s count = flat_map (placement_line s.kernel) (in_order s.owner count)

abbrev pub reason_text : (quiet : Bool) → List ℕ
reason_text q = if q then codes "end quiet " else codes "end limit "

abbrev pub end_line : Script → Run → List ℕ
end_line t r =
    reason_text (is_quiet t r.last) ++ decimal (length r.records) ++ codes " emits " ++ decimal (emits r) ++ codes " faults "
    ++ decimal (faults r) ++ end_of_line

-- all that a run prints
unfoldable pub trace_text : (all tail : Bool) → (count : ℕ) → Script → System → Run → List ℕ
trace_text all tail count t s r = placement_text s count ++ (shown_texts all tail r.records ++ end_line t r)

-- a step of a run
pub record IsSoundStep (t : Script) (s : System) (r : Record) : Type 0 where
  pub sound : IsSound s
  pub shown : r ≡ (next t s).shown
  pub confined : IsConfined (with_raised s (raised_at t (s.steps + 1))) r
  pub keeps : Keeps r (with_raised s (raised_at t (s.steps + 1))) (next t s).system
  pub spelled : IsSpelled r (with_raised s (raised_at t (s.steps + 1))) (next t s).system

-- from a system on these are the records up to the last system. Each system is sound, and each record is confined by the system
-- before it, with its lines raised, and keeps the others
abbrev pub AreSound : Script → System → List Record → (last : System) → Type 0
AreSound t s [] last = IsSound s × (last ≡ s)
AreSound t s (r ∷ rs) last = IsSoundStep t s r × AreSound t (next t s).system rs last

-- all of a run of at most so many steps
abbrev pub IsSoundRun : (limit : ℕ) → Script → System → Type 0
IsSoundRun limit t s = AreSound t s (run limit t s).records (run limit t s).last

-- how a run ended, as it is answered
pub record IsEnd (t : Script) (r : Run) (is_so : Bool) (made emitted faulted : ℕ) : Type 0 where
  pub reason : is_so ≡ is_quiet t r.last
  pub steps : made ≡ length r.records
  pub emit_count : emitted ≡ emits r
  pub fault_count : faulted ≡ faults r

-- after a whole run the node stands for its last system
pub record Ran (new : Parts) (os : List Loadable) (limit : ℕ) (t : Script) (s : System) : Type 0 where
  pub last : Represents new os (run limit t s).last
  pub sound : IsSoundRun limit t s

-- after a fault of the sink it stands for the system of the run with as many steps
pub record RanUpTo (new : Parts) (os : List Loadable) (limit : ℕ) (t : Script) (s : System) : Type 0 where
  pub within : new.steps ≤ length (run limit t s).records
  pub reached : Represents new os (run new.steps t s).last
  pub sound : IsSoundRun limit t s

-- ---- the laws of a run

-- the next step under a script
pub record IsSoundNext (t : Script) (s : System) : Type 0 where
  pub sound : IsSound (next t s).system
  pub confined : IsConfined (with_raised s (raised_at t (s.steps + 1))) (next t s).shown
  pub keeps : Keeps (next t s).shown (with_raised s (raised_at t (s.steps + 1))) (next t s).system
  pub spelled : IsSpelled (next t s).shown (with_raised s (raised_at t (s.steps + 1))) (next t s).system
  pub made : (next t s).system.steps ≡ s.steps + 1

abbrev pub NextLaw : Script → Type 0
NextLaw t = (s : System) → IsSound s → s.steps < most_steps → IsSoundNext t s

abbrev pub RunLaw : Script → Type 0
RunLaw t = (limit : ℕ) (s : System) → IsSound s → s.steps + limit ≤ most_steps → IsSoundRun limit t s

-- accepted objects that have room are sound at boot
abbrev pub BootLaw : Type 0
BootLaw = (os : List Loadable) (s : System) → IsFitting os → booted os ≡ Ok s → IsSound s × (s.steps ≡ 0)

-- so each run of them is: what the top call says of a run that nothing refuses, whatever its status
abbrev pub BootedRunLaw : Script → Type 0
BootedRunLaw t =
    (os : List Loadable) (limit : ℕ) (s : System) → IsFitting os → limit ≤ most_steps → booted os ≡ Ok s → IsSoundRun limit t s
