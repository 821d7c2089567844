-- The rows that loading leaves, and the two images alone.
use Rattle.std.specs.Prelude.{◌≡◌, ℕ, List, [], slice_index}
use Rattle.code_model.specs.declared.object.Object.{Object}
use Rattle.kernel_model.specs.declared.kinds.Kind.{Kind}
use Rattle.kernel_model.specs.declared.kinds.Kind.TheVariants.{App, Module}
use Rattle.kernel_model.specs.Kernel.{Kernel}
use Rattle.kernel_model.specs.Layout.{tables}
use Rattle.place_model.specs.declared.places.Regions.{Regions}
use Rattle.load_model.specs.Domains.{Domain}
use Rattle.load_model.specs.Images.{code_image, region_image}
use Rattle.load_model.specs.Loading.{domain_of, loaded_app, placed_row, IsBeside}
use Rattle.load_model.specs.Standing.{HasBytes}

-- the object at its places, without marks
abbrev pub unmarked : Object → Regions → Domain
unmarked o r = domain_of (record { object = o; units = [] }) r

-- the object's row: an application's with its entry, and a module's without its functions
abbrev pub with_row : Kind → Kernel → Object → Regions → Kernel
with_row App k o r = loaded_app k o r
with_row Module k o r = placed_row k r

-- the images stand at the places, and other bytes are as before
pub record HasImages (before after : List ℕ) (o : Object) (r : Regions) : Type 0 where
  pub code : HasBytes after r.code_lo (code_image (unmarked o r))
  pub region : HasBytes after r.lo (region_image (unmarked o r))
  pub tables : tables after ≡ tables before
  pub others : (a : ℕ) → IsBeside r a → slice_index after a ≡ slice_index before a
