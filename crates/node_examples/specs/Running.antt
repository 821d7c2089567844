-- Runs of programs from boot, and what they print.
use Rattle.std.specs.Prelude.{ℕ, ◌-◌, ◌+◌, Bool, true, false, List, [], ◌∷◌, ◌++◌, drop, length, Option, Result, Ok, Err, None, Some}
use Rattle.kernel_model.specs.Kernel.{with_word}
use Rattle.kernel_model.specs.declared.rows.SysWord.TheVariants.{Budget}
use Rattle.trace_model.specs.declared.scripts.AtKind.TheVariants.{Raise, Pick}
use Rattle.trace_model.specs.declared.scripts.Script.{Script}
use Rattle.trace_model.specs.Texts.{shown_texts}
use Rattle.node_model.specs.Systems.{System}
use Rattle.load_model.specs.Loading.{Loadable}
use Rattle.node_model.specs.Booting.{booted, Refusal}
use Rattle.node_model.specs.Runs.{run}
use Rattle.node_model.specs.Nodes.{trace_text}

-- ---- scripts

-- the script that says nothing
abbrev pub no_script : Script
no_script = record { ats = []; everys = record { items = [] }; mix = None }

-- a line is raised at a step
abbrev pub raises : (line step : ℕ) → Script
raises l n = record { ats = record { step = n; what = Raise l } ∷ []; everys = record { items = [] }; mix = None }

-- a step has a pick
abbrev pub picks : (number step : ℕ) → Script
picks k n = record { ats = record { step = n; what = Pick k } ∷ []; everys = record { items = [] }; mix = None }

-- ---- what is printed

abbrev pub line : List ℕ → List ℕ
line bytes = bytes ++ 10 ∷ []

abbrev pub text_of : (all tail : Bool) → (limit count : ℕ) → Script → Result System Refusal → List ℕ
text_of all tail limit count t (Ok s) = trace_text all tail count t s (run limit t s)
text_of all tail limit count t (Err e) = []

-- what a run of these objects prints, of at most so many steps
unfoldable pub printed : (all tail : Bool) → (limit : ℕ) → Script → List Loadable → List ℕ
printed all tail limit t os = text_of all tail limit (length os) t (booted os)

abbrev pub steps_of : (first last : ℕ) → Script → Result System Refusal → List ℕ
steps_of first last t (Ok s) = shown_texts true false (drop (first - 1) (run last t s).records)
steps_of first last t (Err e) = []

-- the lines of these steps, with each step shown
unfoldable pub steps_printed : (first last : ℕ) → Script → List Loadable → List ℕ
steps_printed first last t os = steps_of first last t (booted os)

-- ---- a module that has almost spent its budget

-- after so many steps the running module has run so many instructions in this call. Its context is the same at each turn of its
-- loop
abbrev pub spent : (steps count : ℕ) → System → System
spent n count s = record s { kernel = with_word s.kernel Budget count; steps = n }

abbrev pub later_text : (limit steps count : ℕ) → Result System Refusal → List ℕ
later_text limit n count (Ok s) = shown_texts false false (run limit no_script (spent n count (run 9 no_script s).last)).records
later_text limit n count (Err e) = []

unfoldable pub printed_later : (limit steps count : ℕ) → List Loadable → List ℕ
printed_later limit n count os = later_text limit n count (booted os)

-- ---- refusals

abbrev pub refusal_of : Result System Refusal → Option Refusal
refusal_of (Ok s) = None
refusal_of (Err e) = Some e

unfoldable pub refused : List Loadable → Option Refusal
refused os = refusal_of (booted os)
