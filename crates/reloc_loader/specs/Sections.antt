-- The relocations in their order, while the words of a section are written.
use Rattle.std.specs.Prelude.{◌≡◌, ℕ, ◌+◌, ◌<◌, ◌≤◌, Bool, true, false, List, length, slice_index_or, Option, None, Some}
use Rattle.std.specs.List.{find}
use Rattle.code_model.specs.declared.parts.Reloc.{Reloc}
use Rattle.code_model.specs.declared.parts.RelKind.{RelKind}
use Rattle.code_model.specs.Form.{key}
use Rattle.load_model.specs.Domains.{Domain, addend}
use Rattle.load_model.specs.Images.{is_on}

-- the key of a relocation at this offset of the code, or of the initialised bytes
abbrev pub key_at : (in_code : Bool) → (offset : ℕ) → ℕ
key_at true at = at
key_at false at = at + 65536

-- the first n relocations have lesser keys, and the others don't
pub record IsNext (relocs : List Reloc) (n target : ℕ) : Type 0 where
  pub within : n ≤ length relocs
  pub before : (k : ℕ) (d : Reloc) → k < n → key (slice_index_or relocs k d) < target
  pub from : (k : ℕ) (d : Reloc) → n ≤ k → k < length relocs → target ≤ key (slice_index_or relocs k d)

-- the relocation of the word at this offset has the kind, or the word has none
abbrev pub FindsOn : List Reloc → (in_code : Bool) → (offset : ℕ) → Option RelKind → Type 0
FindsOn relocs c at None = find (is_on c at) relocs ≡ None
FindsOn relocs c at (Some kind) = find (is_on c at) relocs ≡ Some (record { in_code = c; kind = kind; offset = at })

-- how many relocations a word has
abbrev pub count_on : Option RelKind → ℕ
count_on None = 0
count_on (Some kind) = 1

-- what a relocation of this kind adds, 0 where there is none
abbrev pub added_of : Domain → Option RelKind → ℕ
added_of d None = 0
added_of d (Some kind) = addend d kind
