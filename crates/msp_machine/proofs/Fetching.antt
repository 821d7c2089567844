-- The decoder's answers on three words, as answers of a fetch.
use Rattle.std.proofs.Common.{◌≡◌, ℕ, ◌≤◌, List, [], ◌∷◌, length, length-append, ⊎_elim, Result, Ok, Err, ap, arith}
use Rattle.msp_encode.specs.declared.instr.Src.{Src}
use Rattle.msp_encode.specs.declared.instr.Src.TheVariants as src
use Rattle.msp_encode.specs.declared.instr.Dst.{Dst}
use Rattle.msp_encode.specs.declared.instr.Dst.TheVariants as dst
use Rattle.msp_encode.specs.declared.instr.Instr.{Instr}
use Rattle.msp_encode.specs.declared.instr.Instr.TheVariants as instr
use Rattle.msp_encode.specs.Spelling.{src_words, dst_words, words_after}
use Rattle.msp_decode.specs.declared.reading.NoInstr.{NoInstr}
use Rattle.msp_decode.specs.declared.reading.NoInstr.TheVariants.{Unknown, Short}
use Rattle.msp_decode.specs.Reading.{Reads, NeedsMore}
use Rattle.machine_model.specs.Memory.{word_at}
use Rattle.machine_model.specs.Operands.{sum_of}
use Rattle.msp_machine.specs.Fetch.{Fetches}

source-few : (s : Src) → length (src_words s) ≤ 1
source-few (src.Reg n) = omega arith
source-few (src.Indexed n x) = omega arith
source-few (src.Symbolic x) = omega arith
source-few (src.Absolute x) = omega arith
source-few (src.Indirect n) = omega arith
source-few (src.AutoInc n) = omega arith
source-few (src.Immediate x) = omega arith
source-few (src.Const k) = omega arith

destination-few : (d : Dst) → length (dst_words d) ≤ 1
destination-few (dst.Reg n) = omega arith
destination-few (dst.Indexed n x) = omega arith
destination-few (dst.Symbolic x) = omega arith
destination-few (dst.Absolute x) = omega arith

after-few : (i : Instr) → length (words_after i) ≤ 2
after-few (instr.Two op w s d) = omega (arith, length-append (src_words s) (dst_words d), source-few s, destination-few d)
after-few (instr.One op w s) = omega (arith, source-few s)
after-few instr.Reti = omega arith
after-few (instr.Jump c k) = omega arith

never-short : (w : ℕ) → NeedsMore w 3 → ⊥
never-short w more =
    let words : more.1.0 ≡ words_after more.0 = more.1.1.0.1 in
    omega (arith, after-few more.0, ap length words, more.1.1.1)

-- what is read of the words in memory
pub fetched : (m : List ℕ) (pc : ℕ) (answer : Result (Instr × ℕ) NoInstr) → Reads (word_at m pc) (word_at m (sum_of pc 2) ∷ word_at m (sum_of pc 4) ∷ []) 3 answer → Fetches m pc answer
fetched m pc (Ok x) h = (h.0, h.2)
fetched m pc (Err Unknown) h = h.1
fetched m pc (Err Short) h = ⊎_elim (λ e. cc) (never-short (word_at m pc)) h
