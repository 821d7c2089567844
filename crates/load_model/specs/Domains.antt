-- A placed object.
use Rattle.std.specs.Prelude.{ℕ, ◌+◌, ◌*◌, List, length}
use Rattle.code_model.specs.declared.object.Object.{Object}
use Rattle.code_model.specs.declared.parts.RelKind.{RelKind}
use Rattle.code_model.specs.declared.parts.RelKind.TheVariants.{Code, Data, Lo, Hi}
use Rattle.code_model.specs.Statics.{static_size}

-- an object, the marks of its unit starts, the address of its code, and its region [lo, hi)
pub record Domain : Type 0 where
  pub object : Object
  pub units : List ℕ
  pub code_lo : ℕ
  pub lo : ℕ
  pub hi : ℕ

-- what a relocation adds to its word
abbrev pub addend : Domain → RelKind → ℕ
addend d Code = d.code_lo
addend d Data = d.lo
addend d Lo = d.lo
addend d Hi = d.hi

-- the bytes of the code
abbrev pub code_length : Object → ℕ
code_length o = 2 * length o.code

-- the bytes of the region: the static part, and behind it a stack for each thread
abbrev pub region_length : Object → ℕ
region_length o = static_size o + o.threads * o.stack
