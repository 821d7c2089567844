-- Why a module isn't loaded.
use Rattle.std.specs.Prelude.{◌≡◌, ◌≢◌, ℕ, ◌≤◌}
use Rattle.std.specs.List.{Contains}
use Rattle.code_model.specs.declared.object.Object.{Object}
use Rattle.code_model.specs.declared.parts.Export.{Export}
use Rattle.kernel_model.specs.declared.kinds.Kind.TheVariants.{Module}
use Rattle.kernel_model.specs.Kernel.{Kernel, function_at}
use Rattle.kernel_model.specs.Words.{none}
use Rattle.load_model.specs.Domains.{code_length, region_length}
use Rattle.place_model.specs.declared.places.NoRoom.{NoRoom}
use Rattle.place_model.specs.declared.places.NoRoom.TheVariants.{Slots, Code as NoCode, Region as NoRegion, Taken}
use Rattle.place_model.specs.Placing.{HasNumber, IsRefusal}

-- a module has exported the function
abbrev pub IsTaken : Kernel → (f : ℕ) → Type 0
IsTaken k f = (function_at k f).module ≢ none

-- no module has exported one of the object's functions
abbrev pub NoneTaken : Kernel → Object → Type 0
NoneTaken k o = (e : Export) → Contains o.exports e → (function_at k e.number).module ≡ none

-- the least of the object's functions that a module has exported
pub record IsLeastTaken (k : Kernel) (o : Object) (f : ℕ) : Type 0 where
  pub export : Export
  pub own : Contains o.exports export
  pub number : export.number ≡ f
  pub taken : IsTaken k f
  pub least : (e : Export) → Contains o.exports e → IsTaken k e.number → f ≤ e.number

-- the first of the causes that stands: no module's row is free, a function is taken, no gap is as long as the code, or none is as
-- long as the region
abbrev pub IsModuleRefusal : Kernel → Object → NoRoom → Type 0
IsModuleRefusal k o Slots = IsRefusal k Module (code_length o) (region_length o) Slots
IsModuleRefusal k o (Taken f) = HasNumber k Module × IsLeastTaken k o f
IsModuleRefusal k o (NoCode need gap) = NoneTaken k o × IsRefusal k Module (code_length o) (region_length o) (NoCode need gap)
IsModuleRefusal k o (NoRegion need gap) = NoneTaken k o × IsRefusal k Module (code_length o) (region_length o) (NoRegion need gap)
