-- What a block is given.
use Rattle.std.specs.Prelude.{◌<◌}
use Rattle.gen_model.specs.declared.block.Block.{Block}
use Rattle.gen_model.specs.declared.block.Block.TheVariants.{Set, Add, Xor, Keep, Store, Pass, Halve, Skip, Emit, Restart}

-- its registers are registers
abbrev pub Fits : Block → Type 0
Fits (Set to value) = to < 16
Fits (Add from to) = (from < 16) × (to < 16)
Fits (Xor from to) = (from < 16) × (to < 16)
Fits (Keep from place) = from < 16
Fits (Store from place) = from < 16
Fits (Pass from to) = (from < 16) × (to < 16)
Fits (Halve to) = to < 16
Fits (Skip from to) = (from < 16) × (to < 16)
Fits (Emit from) = from < 16
Fits Restart = Unit {0}
