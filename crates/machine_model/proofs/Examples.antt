-- Acceptances computed, of which the values are known by hand.
use Rattle.std.proofs.Common.{◌≡◌, ℕ, List, [], ◌∷◌, ap}
use Rattle.machine_model.specs.Memory.{word_at, even}
use Rattle.machine_model.specs.Context.{set_reg}
use Rattle.machine_model.specs.Accepting.{accepted, vector_address}

-- PC, SP and SR, and R4 to R15 as 4 to 15
with_three : (pc sp sr : ℕ) → List ℕ
with_three pc sp sr = pc ∷ sp ∷ sr ∷ 0 ∷ 4 ∷ 5 ∷ 6 ∷ 7 ∷ 8 ∷ 9 ∷ 10 ∷ 11 ∷ 12 ∷ 13 ∷ 14 ∷ 15 ∷ []

-- four bytes at these addresses
pairs : (at value : ℕ) → (at value : ℕ) → (at value : ℕ) → (at value : ℕ) → List (ℕ × ℕ)
pairs a x b y c z d w = (a, x) ∷ (b, y) ∷ (c, z) ∷ (d, w) ∷ []

-- a line is accepted with the first context, and this word at its vector, and leaves the second context and these pairs; all else
-- of memory is free
Leaves : (line vector : ℕ) (before after : List ℕ) → List (ℕ × ℕ) → Type 0
Leaves n v before after written = (m : List ℕ) → word_at m (vector_address n) ≡ v → accepted n m before ≡ record { context = after; written = written }

stack_at_2010 : Leaves 1 0xF082 (with_three 0x6010 0x2010 0x0008) (with_three 0xF082 0x200C 0) (pairs 0x200C 0x08 0x200D 0x00 0x200E 0x10 0x200F 0x60)
unfolding Leaves with_three pairs accepted set_reg
stack_at_2010 m e = ap (λ (v : ℕ). record { context = with_three (even v) 0x200C 0; written = pairs 0x200C 0x08 0x200D 0x00 0x200E 0x10 0x200F 0x60 }) e

lowest_four_bytes_of_a_stack : Leaves 1 0xF082 (with_three 0x6010 0x2004 0x0008) (with_three 0xF082 0x2000 0) (pairs 0x2000 0x08 0x2001 0x00 0x2002 0x10 0x2003 0x60)
unfolding Leaves with_three pairs accepted set_reg
lowest_four_bytes_of_a_stack m e = ap (λ (v : ℕ). record { context = with_three (even v) 0x2000 0; written = pairs 0x2000 0x08 0x2001 0x00 0x2002 0x10 0x2003 0x60 }) e

both_words_wrap : Leaves 0 0xF080 (with_three 0x6010 0x0000 0x0108) (with_three 0xF080 0xFFFC 0) (pairs 0xFFFC 0x08 0xFFFD 0x01 0xFFFE 0x10 0xFFFF 0x60)
unfolding Leaves with_three pairs accepted set_reg
both_words_wrap m e = ap (λ (v : ℕ). record { context = with_three (even v) 0xFFFC 0; written = pairs 0xFFFC 0x08 0xFFFD 0x01 0xFFFE 0x10 0xFFFF 0x60 }) e

second_word_wraps : Leaves 0 0xF080 (with_three 0x6010 0x0002 0x0108) (with_three 0xF080 0xFFFE 0) (pairs 0x0000 0x10 0x0001 0x60 0xFFFE 0x08 0xFFFF 0x01)
unfolding Leaves with_three pairs accepted set_reg
second_word_wraps m e = ap (λ (v : ℕ). record { context = with_three (even v) 0xFFFE 0; written = pairs 0x0000 0x10 0x0001 0x60 0xFFFE 0x08 0xFFFF 0x01 }) e

-- all bits of SR are 1, and SCG0 stays
scg0_stays : Leaves 13 0xF09A (with_three 0x6010 0x2010 0xFFFF) (with_three 0xF09A 0x200C 0x0040) (pairs 0x200C 0xFF 0x200D 0xFF 0x200E 0x10 0x200F 0x60)
unfolding Leaves with_three pairs accepted set_reg
scg0_stays m e = ap (λ (v : ℕ). record { context = with_three (even v) 0x200C 0x0040; written = pairs 0x200C 0xFF 0x200D 0xFF 0x200E 0x10 0x200F 0x60 }) e

-- all bits of SR but SCG0 are 1
scg0_stays_clear : Leaves 13 0xF09A (with_three 0x6010 0x2010 0xFFBF) (with_three 0xF09A 0x200C 0) (pairs 0x200C 0xBF 0x200D 0xFF 0x200E 0x10 0x200F 0x60)
unfolding Leaves with_three pairs accepted set_reg
scg0_stays_clear m e = ap (λ (v : ℕ). record { context = with_three (even v) 0x200C 0; written = pairs 0x200C 0xBF 0x200D 0xFF 0x200E 0x10 0x200F 0x60 }) e

-- SR is pushed over the vector of line 0, whose word was read before
over_the_vector : Leaves 0 0xF081 (with_three 0x6010 0xFFE4 0x0008) (with_three 0xF080 0xFFE0 0) (pairs 0xFFE0 0x08 0xFFE1 0x00 0xFFE2 0x10 0xFFE3 0x60)
unfolding Leaves with_three pairs accepted set_reg
over_the_vector m e = ap (λ (v : ℕ). record { context = with_three (even v) 0xFFE0 0; written = pairs 0xFFE0 0x08 0xFFE1 0x00 0xFFE2 0x10 0xFFE3 0x60 }) e
