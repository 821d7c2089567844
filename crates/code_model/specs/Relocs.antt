-- The relocations of code words.
use Rattle.std.specs.Prelude.{ℕ, ◌*◌, List, true}
use Rattle.std.specs.List.{Contains}
use Rattle.code_model.specs.declared.parts.Reloc.{Reloc}
use Rattle.code_model.specs.declared.parts.RelKind.{RelKind}

-- the code word at a place has a relocation of this kind
unfoldable pub HasReloc : List Reloc → ℕ → RelKind → Type 0
HasReloc relocs at k = Contains relocs (record { in_code = true; kind = k; offset = 2 * at })

unfoldable pub Unrelocated : List Reloc → ℕ → Type 0
Unrelocated relocs at = (k : RelKind) → HasReloc relocs at k → ⊥
