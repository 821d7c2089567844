-- The units one after another.
use Rattle.std.specs.Prelude.{◌≡◌, ℕ, ◌+◌, ◌≤◌, List, length, slice_index}
use Rattle.code_model.specs.declared.object.Object.{Object}
use Rattle.code_model.specs.Fields.{Fields, fields}
use Rattle.insert_model.specs.declared.fault.InsertFault.{InsertFault}
use Rattle.insert_model.specs.declared.fault.InsertFault.TheVariants.{At, Memory}
use Rattle.insert_model.specs.declared.fault.InsertKind.TheVariants.{TooLarge}
use Rattle.insert_model.specs.Units.{static_bytes}
use Rattle.insert_model.specs.Groups.{groups}
use Rattle.insert_model.specs.Layout.{Jumps, units, before, sized, final_units}
use Rattle.insert_model.specs.Faults.{most_words, Passes}
use Rattle.check_inserter.specs.declared.laying.Laid.{Laid}

-- For each place below an end, how many words of a layout the groups before it have. Behind the last no group starts
pub record ArePlaces (js : Jumps) (f : Fields) (places : List ℕ) : Type 0 where
  pub count : length places ≡ length f.code + 1
  pub each : (k : ℕ) → k ≤ length f.code → slice_index places k ≡ length (units js (static_bytes f) (before k (groups f)))
  pub past : (k : ℕ) → length f.code ≤ k → before k (groups f) ≡ groups f

-- a layout
pub record IsLaidIn (js : Jumps) (o : Object) (laid : Laid) : Type 0 where
  pub words : laid.words.items ≡ units js (static_bytes (fields o)) (groups (fields o))
  pub places : ArePlaces js (fields o) laid.places.items

-- the final one
pub record IsFinal (o : Object) (laid : Laid) : Type 0 where
  pub words : laid.words.items ≡ final_units (fields o)
  pub size : length laid.words.items ≡ length (units (sized (fields o)) (static_bytes (fields o)) (groups (fields o)))
  pub places : ArePlaces (sized (fields o)) (fields o) laid.places.items

-- it isn't too large
pub record IsLaid (o : Object) (laid : Laid) : Type 0 where
  pub final : IsFinal o laid
  pub fits : length laid.words.items ≤ most_words

-- the units are too large, or memory ran out
abbrev pub IsUnlaid : Object → InsertFault → Type 0
IsUnlaid o (At k x) = (k ≡ TooLarge) × Passes o x
IsUnlaid o Memory = Unit {0}
