-- The object with its guards.
use Rattle.std.specs.Prelude.{ℕ, ◌+◌, ◌*◌, ◌/◌, ◌%◌, true, not, if◌then◌else◌, List, [], ◌∷◌, ◌++◌, map, slice_set, Option, None, Some}
use Rattle.std.specs.List.{filter, fold}
use Rattle.code_model.specs.declared.object.Object.{Object}
use Rattle.code_model.specs.declared.parts.Reloc.{Reloc}
use Rattle.code_model.specs.declared.parts.Export.{Export}
use Rattle.code_model.specs.declared.parts.RelKind.{RelKind}
use Rattle.code_model.specs.declared.parts.RelKind.TheVariants.{Code, Data, Lo, Hi}
use Rattle.code_model.specs.Fields.{Fields, fields, fields_by}
use Rattle.insert_model.specs.declared.piece.Word.{Word}
use Rattle.insert_model.specs.Source.{word_in}
use Rattle.insert_model.specs.Layout.{final_units, place_map}

-- ---- code

-- a word to which the code's address is added names what it named
abbrev pub moved_value : (ℕ → ℕ) → ℕ → Option RelKind → ℕ
moved_value map x None = x
moved_value map x (Some Code) = map x
moved_value map x (Some Data) = x
moved_value map x (Some Lo) = x
moved_value map x (Some Hi) = x

abbrev pub moved : (ℕ → ℕ) → Word → ℕ
moved map w = moved_value map w.value w.kind

-- the relocation of a word at a place, before those behind it
abbrev pub with_reloc : ℕ → Option RelKind → List Reloc → List Reloc
with_reloc at None rs = rs
with_reloc at (Some k) rs = record { in_code = true; kind = k; offset = 2 * at } ∷ rs

-- the relocations of words, the first of which is at a place
abbrev pub relocs_from : ℕ → List Word → List Reloc
relocs_from at [] = []
relocs_from at (w ∷ ws) = with_reloc at w.kind (relocs_from (at + 1) ws)

-- ---- static data

abbrev pub with_word : List ℕ → ℕ → ℕ → List ℕ
with_word bs d v = slice_set (slice_set bs d (v % 256)) (d + 1) (v / 256)

abbrev pub moved_at : (ℕ → ℕ) → List ℕ → ℕ → RelKind → List ℕ
moved_at map bs d Code = with_word bs d (map (word_in bs d))
moved_at map bs d Data = bs
moved_at map bs d Lo = bs
moved_at map bs d Hi = bs

-- the initialised bytes, where this relocation's word names what it named
abbrev pub moved_data : (ℕ → ℕ) → List ℕ → Reloc → List ℕ
moved_data map bs r = if r.in_code then bs else moved_at map bs r.offset r.kind

abbrev pub of_data : List Reloc → List Reloc
of_data rs = filter (λ (r : Reloc). not r.in_code) rs

abbrev pub moved_export : (ℕ → ℕ) → Export → Export
moved_export map e = record { number = e.number; offset = map e.offset }

-- ---- the object

-- The fields with guards: each group of instructions has its unit, and each jump target, each word to which the code's address is
-- added, the entry and the exports name the units of what they named
unfoldable pub with_guards : Fields → Fields
with_guards f =
    let ws = final_units f in
    let go = place_map f in
    fields_by f.kind f.version (map (moved go) ws) (fold (moved_data go) f.init f.relocs) f.zeroed f.stack f.threads (go f.entry)
    (relocs_from 0 ws ++ of_data f.relocs) (map (moved_export go) f.exports)

unfoldable pub inserted : Object → Fields
inserted o = with_guards (fields o)
