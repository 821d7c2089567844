-- The places of an object as marks.
use Rattle.std.specs.Prelude.{◌≡◌, ℕ, ◌*◌, ◌<◌, ◌↔◌, List, length, slice_index_or}
use Rattle.code_model.specs.declared.object.Object.{Object}
use Rattle.code_model.specs.declared.parts.Export.{Export}
use Rattle.kernel_model.specs.declared.kinds.Kind.TheVariants.{App}
use Rattle.kernel_model.specs.Bitmap.{Has}
use Rattle.code_model.specs.Rules.{IsNamed}

abbrev pub IsEntry : Object → ℕ → Type 0
IsEntry o at = (o.kind ≡ App) × (o.entry ≡ 2 * at)

-- the export at an index has this place
unfoldable pub ExportsAt : List Export → (index at : ℕ) → Type 0
ExportsAt exports index at = (e : Export) × (index < length exports) × (slice_index_or exports index e ≡ e) × (e.offset ≡ 2 * at)

-- the marks are the entry and the exports
abbrev pub AreNamed : Object → List ℕ → Type 0
AreNamed o marks = (at : ℕ) → Has marks at ↔ IsNamed o at

-- an export below the index has this place
unfoldable pub ExportedBelow : List Export → (at end : ℕ) → Type 0
ExportedBelow exports at end = (index : ℕ) × (index < end) × ExportsAt exports index at
