-- What a schedule has ready after so many steps, so that the next step costs a compare.
use Rattle.std.specs.Prelude.{◌≡◌, ◌≢◌, ℕ, ◌%◌, ◌<◌, ◌≤◌, All, List, [], ◌∷◌, ◌++◌, length, drop, map, slice_index_or, Option, Some, None, bit_or}
use Rattle.std.specs.List.{fold, filter_map}
use Rattle.trace_model.specs.declared.scripts.AtKind.{AtKind}
use Rattle.trace_model.specs.declared.scripts.At.{At}
use Rattle.trace_model.specs.declared.scripts.Every.{Every}
use Rattle.trace_model.specs.declared.scripts.Script.{Script}
use Rattle.trace_model.specs.Draws.{at_mask, at_pick, kind_pick, all_masks, every_mask, first_or, mixed}
use Rattle.script_schedule.specs.declared.schedule.Schedule.{Schedule}
use Rattle.script_schedule.specs.declared.schedule.AtLines.{AtLines}
use Rattle.script_schedule.specs.declared.schedule.EveryLines.{EveryLines}

-- the `at` lines before this place are of this step or earlier
abbrev pub ArePassed : List At → (place step : ℕ) → Type 0
ArePassed ats place s = (i : ℕ) (d : At) → i < place → (slice_index_or ats i d).step ≤ s

-- those from this place on are of this step or later
abbrev pub AreAhead : List At → (place step : ℕ) → Type 0
AreAhead ats place s = (i : ℕ) (d : At) → place ≤ i → i < length ats → s ≤ (slice_index_or ats i d).step

-- no `every` line is for a step between these two
abbrev pub NoneBetween : List Every → (step due : ℕ) → Type 0
NoneBetween everys s due = (k : ℕ) → s < k → k < due → All (λ e. k % e.period ≢ 0) everys

abbrev pub IsDrawn : Option ℕ → (step draw : ℕ) → Type 0
IsDrawn None s draw = Unit {0}
IsDrawn (Some number) s draw = draw ≡ mixed number s

-- after this step no line of the script is for a step below the due one; the place parts the `at` lines
pub record IsReady (t : Script) (s : ℕ) (c : Schedule) : Type 0 where
  pub within : c.place ≤ length t.ats
  pub passed : ArePassed t.ats c.place s
  pub ahead : AreAhead t.ats c.place c.due
  pub between : NoneBetween t.everys.items s c.due
  pub later : s < c.due
  pub drawn : IsDrawn t.mix s c.draw

-- ---- the lines of one step

abbrev pub listed : Option ℕ → List ℕ
listed None = []
listed (Some x) = x ∷ []

-- the first pick stays
abbrev pub or_kind_pick : Option ℕ → AtKind → Option ℕ
or_kind_pick None kind = kind_pick kind
or_kind_pick (Some x) kind = Some x

-- masks and picks of the `at` lines up to a place were taken: with the rest they are those of all
pub record AreTaken (ats : List At) (step : ℕ) (a : AtLines) : Type 0 where
  pub within : a.place ≤ length ats
  pub passed : ArePassed ats a.place step
  pub masks : fold bit_or a.raised (map (at_mask step) (drop a.place ats)) ≡ all_masks (map (at_mask step) ats)
  pub picks : (other : Option ℕ)
      → first_or (listed a.pick ++ filter_map (at_pick step) (drop a.place ats)) other ≡ first_or (filter_map (at_pick step) ats) other

-- what the `at` lines give for a step
pub record AreAtLines (ats : List At) (step : ℕ) (a : AtLines) : Type 0 where
  pub within : a.place ≤ length ats
  pub passed : ArePassed ats a.place step
  pub ahead : AreAhead ats a.place a.due
  pub later : step < a.due
  pub raised : a.raised ≡ all_masks (map (at_mask step) ats)
  pub pick : (other : Option ℕ) → first_or (listed a.pick) other ≡ first_or (filter_map (at_pick step) ats) other

-- what the `every` lines give for a step
pub record AreEveryLines (everys : List Every) (step : ℕ) (e : EveryLines) : Type 0 where
  pub raised : e.raised ≡ all_masks (map (every_mask step) everys)
  pub later : step < e.due
  pub between : NoneBetween everys step e.due
