-- What is fetched at an address.
use Rattle.std.specs.Prelude.{ℕ, List, Result, Ok, Err}
use Rattle.msp_encode.specs.declared.instr.Instr.{Instr}
use Rattle.msp_decode.specs.declared.reading.NoInstr.{NoInstr}
use Rattle.msp_decode.specs.declared.reading.NoInstr.TheVariants.{Unknown, Short}
use Rattle.msp_decode.specs.Reading.{NoneBegins}
use Rattle.machine_model.specs.Memory.{word_at}
use Rattle.machine_model.specs.Fetching.{IsFetched}

-- where each answer comes
abbrev pub Fetches : List ℕ → ℕ → Result (Instr × ℕ) NoInstr → Type 0
Fetches m pc (Ok x) = IsFetched m pc x.0 x.1
Fetches m pc (Err Unknown) = NoneBegins (word_at m pc)
Fetches m pc (Err Short) = ⊥
