-- The words that tell guards apart: the second, and for those that keep an address in the region the one that HI is added to.
use Rattle.std.specs.Prelude.{◌≡◌, ℕ, ◌/◌}
use Rattle.code_model.specs.declared.guards.GuardKind.{GuardKind}
use Rattle.code_model.specs.declared.guards.GuardKind.TheVariants as guard
use Rattle.code_model.specs.Guards.{high_word}

-- a guard of this kind has such a second word
abbrev pub SecondIs : GuardKind → ℕ → Type 0
SecondIs guard.Store w = w / 4096 ≡ 4
SecondIs (guard.Wide r) w = w / 4096 ≡ 4
SecondIs guard.Load w = w / 4096 ≡ 4
SecondIs guard.Growth w = w ≡ 0x9211
SecondIs guard.Pop w = w ≡ 0x9182
SecondIs guard.Sp w = w ≡ 0x9214

-- a guard of this kind has such a word behind its second comparison, if it has one
abbrev pub HighIs : GuardKind → ℕ → Type 0
HighIs guard.Store w = w ≡ 0
HighIs (guard.Wide r) w = w ≡ high_word r
HighIs guard.Load w = w ≡ 0
HighIs _ w = Unit {0}
