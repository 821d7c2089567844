-- What a script gives for a step.
use Rattle.std.specs.Prelude.{ℕ, zero, suc, ◌+◌, ◌*◌, ◌/◌, ◌%◌, ◌^◌, ◌==◌, List, [], ◌∷◌, map, fold, bit_or, Option, None, Some, if◌then◌else◌}
use Rattle.std.specs.List.{filter_map}
use Rattle.trace_model.specs.declared.scripts.AtKind.{AtKind}
use Rattle.trace_model.specs.declared.scripts.AtKind.TheVariants.{Raise, Pick}
use Rattle.trace_model.specs.declared.scripts.At.{At}
use Rattle.trace_model.specs.declared.scripts.Every.{Every}
use Rattle.trace_model.specs.declared.scripts.Script.{Script}

-- ---- lines, as masks: line L is bit L

abbrev pub kind_mask : AtKind → ℕ
kind_mask (Raise line) = 2 ^ line
kind_mask (Pick number) = 0

abbrev pub at_mask : ℕ → At → ℕ
at_mask step a = if a.step == step then kind_mask a.what else 0

-- at each multiple of the period
abbrev pub every_mask : ℕ → Every → ℕ
every_mask step e = if step % e.period == 0 then 2 ^ e.line else 0

abbrev pub all_masks : List ℕ → ℕ
all_masks masks = fold bit_or 0 masks

-- the lines that a script raises at a step, as a mask
unfoldable pub raised_at : Script → ℕ → ℕ
raised_at t step = bit_or (all_masks (map (at_mask step) t.ats)) (all_masks (map (every_mask step) t.everys.items))

-- ---- picks

abbrev pub kind_pick : AtKind → Option ℕ
kind_pick (Raise line) = None
kind_pick (Pick number) = Some number

abbrev pub at_pick : ℕ → At → Option ℕ
at_pick step a = if a.step == step then kind_pick a.what else None

-- the numbers that a `mix` line draws from, one a step: 32 bits
abbrev pub mixed : ℕ → ℕ → ℕ
mixed number zero = number
mixed number (suc step) = (1664525 * mixed number step + 1013904223) % 2 ^ 32

-- the upper 16 bits of the step's number
abbrev pub mix_pick : Option ℕ → ℕ → Option ℕ
mix_pick None step = None
mix_pick (Some number) step = Some (mixed number step / 65536)

abbrev pub first_or : List ℕ → Option ℕ → Option ℕ
first_or [] other = other
first_or (x ∷ xs) other = Some x

-- the pick that a script gives a step: that of its own line, else one drawn by `mix`, if there is one
unfoldable pub pick_at : Script → ℕ → Option ℕ
pick_at t step = first_or (filter_map (at_pick step) t.ats) (mix_pick t.mix step)
