-- An instruction that begins with a word has the form that the word's high bits say.
use Rattle.std.proofs.Common.{◌≡◌, ℕ, ◌/◌, ◌%◌, ◌≤◌, List, [], ◌∷◌, Option, None, Some, MatchOption, subst, arith}
use Rattle.msp_encode.specs.declared.instr.Op1.{Op1}
use Rattle.msp_encode.specs.declared.instr.Op2.{Op2}
use Rattle.msp_encode.specs.declared.instr.Width.{Width}
use Rattle.msp_encode.specs.declared.instr.Src.{Src}
use Rattle.msp_encode.specs.declared.instr.Dst.{Dst}
use Rattle.msp_encode.specs.declared.instr.Instr.{Instr}
use Rattle.msp_encode.specs.declared.instr.Instr.TheVariants.{Two, One, Reti, Jump}
use Rattle.msp_encode.specs.Spelling.{op1_code, SrcRow, Takes, First, TwoFields, OneFields, words_after}
use Rattle.msp_encode.proofs.Codes.{op2_code-range}
use Rattle.msp_decode.specs.Reading.{Leads}
use Rattle.msp_decode.specs.Function.{chosen, op1s, source_rows}
use Rattle.msp_decode.proofs.Complete.{chosen-op1, source_rows-complete}
use Rattle.msp_decode.proofs.Lists.{longer}
use Rattle.msp_decode.proofs.Retold.{source_with, source-row, source-leads, source-takes, source-takes-back}

no_two : (w : ℕ) → 16384 ≤ w → ((op : Op2) (width : Width) (src : Src) (dst : Dst) → TwoFields op width src dst w → ⊥) → (i : Instr) → First i w → ⊥
no_two w big none (Two op width src dst) f = none op width src dst f
no_two w big none (One op width src) f = omega (arith, f.form)
no_two w big none Reti f = omega (arith, f)
no_two w big none (Jump cond offset) f = omega (arith, f.form)

no_one : (w : ℕ) → w / 1024 ≡ 4 → (w ≡ 4864 → ⊥) → ((op : Op1) (width : Width) (src : Src) → OneFields op width src w → ⊥) → (i : Instr) → First i w → ⊥
no_one w form other none (Two op width src dst) f = omega (arith, f.op_code, op2_code-range op)
no_one w form other none (One op width src) f = none op width src f
no_one w form other none Reti f = other f
no_one w form other none (Jump cond offset) f = omega (arith, f.form)

-- what `two` says is what `instruction` says of a word that isn't below 4000 (hexadecimal)
pub option_of_two : (r : Option Instr) (w : ℕ) (after : List ℕ) → 16384 ≤ w → MatchOption r ((op : Op2) (width : Width) (src : Src) (dst : Dst) → TwoFields op width src dst w → ⊥) (λ i. First i w × Leads (words_after i) after) → MatchOption r ((i : Instr) → First i w → ⊥) (λ i. First i w × Leads (words_after i) after)
option_of_two None w after big none = no_two w big none
option_of_two (Some i) w after big found = found

-- and what `one` says, of a word that begins with 000100 in bits
pub option_of_one : (r : Option Instr) (w first second : ℕ) → w / 1024 ≡ 4 → (w ≡ 4864 → ⊥) → MatchOption r ((op : Op1) (width : Width) (src : Src) → OneFields op width src w → ⊥) (λ i. First i w × Leads (words_after i) (first ∷ [])) → MatchOption r ((i : Instr) → First i w → ⊥) (λ i. First i w × Leads (words_after i) (first ∷ second ∷ []))
option_of_one None w first second form other none = no_one w form other none
option_of_one (Some i) w first second form other found = (found.0, longer (words_after i) first second found.1)

same-op1 : (a b : Op1) (code : ℕ) → code ≡ op1_code a → code ≡ op1_code b → a ≡ b
same-op1 a b code e f =
    let by_a : chosen op1s code ≡ Some a = chosen-op1 a code e in
    let by_b : chosen op1s code ≡ Some b = chosen-op1 b code f in
    cc

-- the fields tell the operation, and its operand but for its word: so none begins with a word whose operation doesn't take its
-- operand
pub no_operand : (a : Op1) (s : Src) (w : ℕ) → w / 128 % 8 ≡ op1_code a → SrcRow s (w % 16) (w / 16 % 4) → (Takes a s → ⊥) → (op : Op1) (width : Width) (src : Src) → OneFields op width src w → ⊥
no_operand a s w code row none op width src f =
    let same_op = same-op1 op a (w / 128 % 8) f.op_code code in
    let by_s : source_rows (w % 16) 0 (w / 16 % 4) ≡ Some (source_with s 0) = source_rows-complete (source_with s 0) (w % 16) (w / 16 % 4) 0 (source-row s (w % 16) (w / 16 % 4) 0 row) (source-leads s 0) in
    let by_src : source_rows (w % 16) 0 (w / 16 % 4) ≡ Some (source_with src 0) = source_rows-complete (source_with src 0) (w % 16) (w / 16 % 4) 0 (source-row src (w % 16) (w / 16 % 4) 0 f.source) (source-leads src 0) in
    let same_source : source_with src 0 ≡ source_with s 0 = cc in
    let taken : Takes op (source_with s 0) = subst (λ (x : Src). Takes op x) same_source (source-takes op src 0 f.takes) in
    none (source-takes-back a s 0 (subst (λ (o : Op1). Takes o (source_with s 0)) same_op taken))
