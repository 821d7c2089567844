-- The words of blocks are those of their instructions, which are legal.
use Rattle.std.proofs.Common.{◌≡◌, ℕ, ◌+◌, ◌*◌, List, [], ◌∷◌, ◌++◌, length, refl, sym, ap, ◌∙◌, arith}
use Rattle.std.proofs.lemmas.Int.{ints}
use Rattle.std.proofs.lemmas.List.Concat.{flat_map-append}
use Rattle.msp_encode.specs.declared.instr.Instr.{Instr}
use Rattle.msp_encode.specs.Spelled.{two_word, one_word, jump_word, spelling}
use Rattle.insert_laws.specs.Pieces.{size_of}
use Rattle.insert_laws.proofs.Streams.{FitEach, words_of, size_is}
use Rattle.gen_model.specs.declared.block.Block.{Block}
use Rattle.gen_model.specs.declared.block.Block.TheVariants.{Set, Add, Xor, Keep, Store, Pass, Halve, Skip, Emit, Restart}
use Rattle.gen_model.specs.Blocks.{words}
use Rattle.gen_model.specs.Generated.{code_of}
use Rattle.gen_laws.specs.Instructions.{instrs, all_instrs, Suits, AllSuit}
use Rattle.kernel_model.specs.declared.entries.TheConstants.{EMITS}

-- ---- words

one : (v w : ℕ) (ws : List ℕ) → v ≡ w → v ∷ ws ≡ w ∷ ws
one v w ws e = ap (λ (x : ℕ). x ∷ ws) e

block_words : (b : Block) → words b ≡ words_of (instrs b)
unfolding spelling two_word one_word jump_word
block_words (Set to value) = one _ _ (value ∷ []) (omega arith)
block_words (Add from to) = one _ _ [] (omega arith)
block_words (Xor from to) = one _ _ [] (omega arith)
block_words (Keep from place) = one _ _ (place ∷ []) (omega arith)
block_words (Store from place) = ap (λ (x : ℕ). 0x403C ∷ place ∷ x ∷ 0x0000 ∷ []) (omega arith)
block_words (Pass from to) = λ i. left i ∷ right i ∷ []
  where
    left : 0x1200 + from ≡ 4096 + 4 * 128 + 0 * 64 + 0 * 16 + from
    left = omega arith

    right : 0x4130 + to ≡ 4 * 4096 + 1 * 256 + 0 * 128 + 0 * 64 + 3 * 16 + to
    right = omega arith
block_words (Halve to) = one _ _ [] (omega arith)
block_words (Skip from to) = ap (λ (x : ℕ). 0x2001 ∷ x ∷ []) (omega arith)
block_words (Emit from) = one _ _ (0x12B0 ∷ EMITS ∷ []) (omega arith)
block_words Restart = refl

pub all_words : (bs : List Block) → code_of bs ≡ words_of (all_instrs bs)
unfolding code_of all_instrs
all_words [] = refl
all_words (b ∷ bs) = (λ i. block_words b i ++ all_words bs i) ∙ sym (flat_map-append spelling (instrs b) (all_instrs bs))

pub all_size : (bs : List Block) → length (code_of bs) ≡ size_of (all_instrs bs)
all_size bs = ap length (all_words bs) ∙ size_is (all_instrs bs)

pub block_size : (b : Block) → length (words b) ≡ size_of (instrs b)
block_size b = ap length (block_words b) ∙ size_is (instrs b)

pub instrs_append : (xs ys : List Block) → all_instrs (xs ++ ys) ≡ all_instrs xs ++ all_instrs ys
unfolding all_instrs
instrs_append xs ys = flat_map-append instrs xs ys

-- ---- they are legal

pub fit_append : (xs ys : List Instr) → FitEach xs → FitEach ys → FitEach (xs ++ ys)
fit_append [] ys h k = k
fit_append (x ∷ xs) ys h k = (h.0, fit_append xs ys h.1 k)

pub block_fits : (b : Block) → Suits b → FitEach (instrs b)
block_fits (Set to value) h = ((tt, omega (arith, h.most)), tt)
block_fits (Add from to) h = (((omega (arith, h.0.most), λ e. omega (arith, h.0.least)), omega (arith, h.1.most)), tt)
block_fits (Xor from to) h = (((omega (arith, h.0.most), λ e. omega (arith, h.0.least)), omega (arith, h.1.most)), tt)
block_fits (Keep from place) h = (((omega (arith, h.0.most), λ e. omega (arith, h.0.least)), tt), tt)
block_fits (Store from place) h =
    ((tt, omega arith), (((omega (arith, h.most), λ e. omega (arith, h.least)), (omega arith, ((λ e. omega arith), (λ e. omega arith), (λ e. omega arith)))), tt))
block_fits (Pass from to) h =
    (((omega (arith, h.0.most), λ e. omega (arith, h.0.least)), tt, tt), (((omega arith, ((λ e. omega arith), (λ e. omega arith), (λ e. omega arith))), omega (arith, h.1.most)), tt))
block_fits (Halve to) h = (((omega (arith, h.most), λ e. omega (arith, h.least)), tt, tt), tt)
block_fits (Skip from to) h = ((omega (arith, ints), omega (arith, ints)), (((omega (arith, h.0.most), λ e. omega (arith, h.0.least)), omega (arith, h.1.most)), tt))
block_fits (Emit from) h = (((omega (arith, h.most), λ e. omega (arith, h.least)), omega arith), ((tt, tt, tt), tt))
block_fits Restart h = ((tt, omega arith), tt)

pub all_fit : (bs : List Block) → AllSuit bs → FitEach (all_instrs bs)
unfolding all_instrs
all_fit [] h = tt
all_fit (b ∷ bs) h = fit_append (instrs b) (all_instrs bs) (block_fits b h.0) (all_fit bs h.1)
