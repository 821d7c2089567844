-- The words of a legal instruction spell it.
use Rattle.std.proofs.Common.{◌≡◌, ℕ, ◌/◌, ◌%◌, ◌<◌, ℤ, pos, negsuc, ◌≤ℤ◌, ◌<ℤ◌, refl, sym, subst, arith}
use Rattle.std.proofs.lemmas.Int.{ints}
use Rattle.msp_encode.specs.declared.instr.Cg.{Cg}
use Rattle.msp_encode.specs.declared.instr.Cg.TheVariants.{Zero, One, Two, Four, Eight, AllOnes}
use Rattle.msp_encode.specs.declared.instr.Src.{Src}
use Rattle.msp_encode.specs.declared.instr.Src.TheVariants as src
use Rattle.msp_encode.specs.declared.instr.Dst.{Dst}
use Rattle.msp_encode.specs.declared.instr.Dst.TheVariants as dst
use Rattle.msp_encode.specs.declared.instr.Instr.{Instr}
use Rattle.msp_encode.specs.declared.instr.Instr.TheVariants as instr
use Rattle.msp_encode.specs.Spelling.{op2_code, op1_code, cond_code, width_code, SrcRow, DstRow, OffsetRow, First, SrcFits, DstFits, InstrFits}
use Rattle.msp_encode.specs.Spelled.{src_register, src_mode, dst_register, dst_mode, ten_bits, two_word, one_word, jump_word, first_word, spelling}
use Rattle.msp_encode.specs.Laws.{SpellingLaw}
use Rattle.msp_encode.proofs.Codes.{op1_code-range, op2_code-range, cond_code-range, width_code-range}

const_row : (c : Cg) → SrcRow (src.Const c) (src_register (src.Const c)) (src_mode (src.Const c))
const_row Zero = (refl, refl)
const_row One = (refl, refl)
const_row Two = (refl, refl)
const_row Four = (refl, refl)
const_row Eight = (refl, refl)
const_row AllOnes = (refl, refl)

src_row : (s : Src) → SrcFits s → SrcRow s (src_register s) (src_mode s)
src_row (src.Reg n) f = (refl, refl, f.1)
src_row (src.Indexed n x) f = (refl, refl, f.1)
src_row (src.Symbolic x) f = (refl, refl)
src_row (src.Absolute x) f = (refl, refl)
src_row (src.Indirect n) f = (refl, refl, f.1)
src_row (src.AutoInc n) f = (refl, refl, f.1)
src_row (src.Immediate x) f = (refl, refl)
src_row (src.Const c) f = const_row c

dst_row : (d : Dst) → DstFits d → DstRow d (dst_register d) (dst_mode d)
dst_row (dst.Reg n) f = (refl, refl)
dst_row (dst.Indexed n x) f = (refl, refl, f.1)
dst_row (dst.Symbolic x) f = (refl, refl)
dst_row (dst.Absolute x) f = (refl, refl)

record Small (r m : ℕ) : Type 0 where
  register : r < 16
  mode : m < 4

const_small : (c : Cg) → Small (src_register (src.Const c)) (src_mode (src.Const c))
const_small Zero = record { register = omega arith; mode = omega arith }
const_small One = record { register = omega arith; mode = omega arith }
const_small Two = record { register = omega arith; mode = omega arith }
const_small Four = record { register = omega arith; mode = omega arith }
const_small Eight = record { register = omega arith; mode = omega arith }
const_small AllOnes = record { register = omega arith; mode = omega arith }

src_small : (s : Src) → SrcFits s → Small (src_register s) (src_mode s)
src_small (src.Reg n) f = record { register = f.0; mode = omega arith }
src_small (src.Indexed n x) f = record { register = f.0; mode = omega arith }
src_small (src.Symbolic x) f = record { register = omega arith; mode = omega arith }
src_small (src.Absolute x) f = record { register = omega arith; mode = omega arith }
src_small (src.Indirect n) f = record { register = f.0; mode = omega arith }
src_small (src.AutoInc n) f = record { register = f.0; mode = omega arith }
src_small (src.Immediate x) f = record { register = omega arith; mode = omega arith }
src_small (src.Const c) f = const_small c

record SmallDst (r m : ℕ) : Type 0 where
  register : r < 16
  mode : m < 2

dst_small : (d : Dst) → DstFits d → SmallDst (dst_register d) (dst_mode d)
dst_small (dst.Reg n) f = record { register = f; mode = omega arith }
dst_small (dst.Indexed n x) f = record { register = f.0; mode = omega arith }
dst_small (dst.Symbolic x) f = record { register = omega arith; mode = omega arith }
dst_small (dst.Absolute x) f = record { register = omega arith; mode = omega arith }

record TwoParts (w op b r m t u : ℕ) : Type 0 where
  code : w / 4096 ≡ op
  width : w / 64 % 2 ≡ b
  register : w / 256 % 16 ≡ r
  mode : w / 16 % 4 ≡ m
  to : w % 16 ≡ t
  to_mode : w / 128 % 2 ≡ u

two_parts : (op b r m t u : ℕ) → op < 16 → b < 2 → r < 16 → m < 4 → t < 16 → u < 2 → TwoParts (two_word op b r m t u) op b r m t u
unfolding two_word
two_parts op b r m t u ho hb hr hm ht hu =
    record { code = omega arith; width = omega arith; register = omega arith; mode = omega arith; to = omega arith; to_mode = omega arith }

record OneParts (w op b r m : ℕ) : Type 0 where
  form : w / 1024 ≡ 4
  code : w / 128 % 8 ≡ op
  width : w / 64 % 2 ≡ b
  register : w % 16 ≡ r
  mode : w / 16 % 4 ≡ m

one_parts : (op b r m : ℕ) → op < 6 → b < 2 → r < 16 → m < 4 → OneParts (one_word op b r m) op b r m
unfolding one_word
one_parts op b r m ho hb hr hm = record { form = omega arith; code = omega arith; width = omega arith; register = omega arith; mode = omega arith }

record JumpParts (w c k : ℕ) : Type 0 where
  form : w / 8192 ≡ 1
  code : w / 1024 % 8 ≡ c
  place : w % 1024 ≡ k

jump_parts : (c k : ℕ) → c < 8 → k < 1024 → JumpParts (jump_word c k) c k
unfolding jump_word
jump_parts c k hc hk = record { form = omega arith; code = omega arith; place = omega arith }

bits_small : (z : ℤ) → negsuc 511 ≤ℤ z → z <ℤ pos 512 → ten_bits z < 1024
bits_small (pos n) low high = omega (arith, ints)
bits_small (negsuc n) low high = omega arith

bits_row : (z : ℤ) → negsuc 511 ≤ℤ z → z <ℤ pos 512 → OffsetRow z (ten_bits z)
bits_row (pos n) low high = omega (arith, ints)
bits_row (negsuc n) low high = omega (arith, ints)

pair_row : (P : ℕ → ℕ → Type 0) (a b x y : ℕ) → x ≡ a → y ≡ b → P a b → P x y
pair_row P a b x y ex ey h = subst (λ (n : ℕ). P n y) (sym ex) (subst (λ (n : ℕ). P a n) (sym ey) h)

first : (i : Instr) → InstrFits i → First i (first_word i)
first (instr.Two op w s d) f =
    let x = src_small s f.0 in
    let y = dst_small d f.1 in
    let p = two_parts (op2_code op) (width_code w) (src_register s) (src_mode s) (dst_register d) (dst_mode d) (op2_code-range op).1 (width_code-range w) x.register x.mode y.register y.mode in
    record {
      op_code = p.code;
      width_bit = p.width;
      source = pair_row (SrcRow s) (src_register s) (src_mode s) _ _ p.register p.mode (src_row s f.0);
      destination = pair_row (DstRow d) (dst_register d) (dst_mode d) _ _ p.to p.to_mode (dst_row d f.1);
    }
first (instr.One op w s) f =
    let x = src_small s f.0 in
    let p = one_parts (op1_code op) (width_code w) (src_register s) (src_mode s) (op1_code-range op) (width_code-range w) x.register x.mode in
    record {
      form = p.form;
      op_code = p.code;
      width_bit = p.width;
      source = pair_row (SrcRow s) (src_register s) (src_mode s) _ _ p.register p.mode (src_row s f.0);
      takes_width = f.1;
      takes = f.2;
    }
first instr.Reti f = refl
first (instr.Jump c k) f =
    let p = jump_parts (cond_code c) (ten_bits k) (cond_code-range c) (bits_small k f.0 f.1) in
    record { form = p.form; code = p.code; place = subst (OffsetRow k) (sym p.place) (bits_row k f.0 f.1) }

pub spells : SpellingLaw
unfolding spelling
spells i f = (first i f, refl)
