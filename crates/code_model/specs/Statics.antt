-- The static part of an object's data.
use Rattle.std.specs.Prelude.{ℕ, ◌+◌, ◌*◌, ◌/◌, ◌<◌, length}
use Rattle.code_model.specs.declared.object.Object.{Object}
use Rattle.code_model.specs.declared.parts.RelKind.TheVariants.{Data}
use Rattle.code_model.specs.Relocs.{HasReloc}

-- the bytes of the static part, initialised and zeroed, rounded up to even
abbrev pub static_size : Object → ℕ
static_size o = (length o.init + o.zeroed + 1) / 2 * 2

-- the word x at a place is an address in the static part
abbrev pub InStatic : Object → ℕ → ℕ → Type 0
InStatic o at x = HasReloc o.relocs at Data × (x < static_size o)
