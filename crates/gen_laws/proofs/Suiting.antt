-- The blocks of a generated object suit, and the last of them restarts.
use Rattle.std.proofs.Common.{◌≡◌, ℕ, ◌+◌, ◌*◌, ◌%◌, ◌==◌, if◌then◌else◌, Bool, true, false, List, [], ◌∷◌, ◌++◌, map, refl, subst, append_assoc, arith}
use Rattle.std.specs.List.{range_with_len}
use Rattle.gen_model.specs.declared.block.Block.{Block}
use Rattle.gen_model.specs.declared.block.Block.TheVariants.{Add, Xor, Keep, Store, Pass, Halve, Skip, Emit, Restart}
use Rattle.gen_model.specs.Draws.{draw}
use Rattle.gen_model.specs.Blocks.{register, place, chosen_by, chosen}
use Rattle.gen_model.specs.Generated.{drawn, settings, drawn_blocks, blocks}
use Rattle.gen_laws.specs.Instructions.{IsFree, Suits, AllSuit}

free_register : (x : ℕ) → IsFree (register x)
free_register x = record { least = omega arith; most = omega arith }

suits_if : (t : Bool) (x y : Block) → Suits x → Suits y → Suits (if t then x else y)
suits_if true x y h k = h
suits_if false x y h k = k

chosen_suits_by : (kind b c : ℕ) → Suits (chosen_by kind b c)
chosen_suits_by kind b c =
    let s = free_register c in
    let d = free_register b in
    let p5 : Block = if kind == 6 then Skip (register c) (register b) else Emit (register c) in
    let p4 : Block = if kind == 5 then Halve (register b) else p5 in
    let p3 : Block = if kind == 4 then Pass (register c) (register b) else p4 in
    let p2 : Block = if kind == 3 then Store (register b) (place c) else p3 in
    let p1 : Block = if kind == 2 then Keep (register c) (place b) else p2 in
    let p0 : Block = if kind == 1 then Xor (register c) (register b) else p1 in
    suits_if (kind == 0) (Add (register c) (register b)) p0 (s, d)
    (suits_if (kind == 1) (Xor (register c) (register b)) p1 (s, d)
    (suits_if (kind == 2) (Keep (register c) (place b)) p2 (s, omega arith)
    (suits_if (kind == 3) (Store (register b) (place c)) p3 d
    (suits_if (kind == 4) (Pass (register c) (register b)) p4 (s, d)
    (suits_if (kind == 5) (Halve (register b)) p5 d
    (suits_if (kind == 6) (Skip (register c) (register b)) (Emit (register c)) (s, d) s))))))

chosen_suits : (a b c : ℕ) → Suits (chosen a b c)
unfolding chosen
chosen_suits a b c = chosen_suits_by (a % 8) b c

drawn_suit : (n : ℕ) (js : List ℕ) → AllSuit (map (drawn n) js)
drawn_suit n [] = tt
drawn_suit n (j ∷ js) = (chosen_suits (draw n (6 + 3 * j)) (draw n (7 + 3 * j)) (draw n (8 + 3 * j)), drawn_suit n js)

suit_append : (xs ys : List Block) → AllSuit xs → AllSuit ys → AllSuit (xs ++ ys)
suit_append [] ys h k = k
suit_append (x ∷ xs) ys h k = (h.0, suit_append xs ys h.1 k)

settings_suit : (n : ℕ) → AllSuit (settings n 0 6)
unfolding settings
settings_suit n = (record { least = omega arith; most = omega arith }, (record { least = omega arith; most = omega arith }, (record { least = omega arith; most = omega arith }, (record { least = omega arith; most = omega arith }, (record { least = omega arith; most = omega arith }, (record { least = omega arith; most = omega arith }, tt))))))

pub all_suit : (n : ℕ) → AllSuit (blocks n)
unfolding blocks drawn_blocks
all_suit n = suit_append (settings n 0 6) (drawn_blocks n 0 450 ++ Restart ∷ []) (settings_suit n) (suit_append (drawn_blocks n 0 450) (Restart ∷ []) (drawn_suit n (range_with_len 0 450)) (tt, tt))

-- ---- the last block

abbrev pub Closed : List Block → Type 0
Closed [] = ⊥
Closed (b ∷ []) = b ≡ Restart
Closed (b ∷ c ∷ bs) = Closed (c ∷ bs)

closed_behind : (xs : List Block) (y : Block) (ys : List Block) → Closed (y ∷ ys) → Closed (xs ++ y ∷ ys)
closed_behind [] y ys h = h
closed_behind (x ∷ []) y ys h = h
closed_behind (x ∷ z ∷ xs) y ys h = closed_behind (z ∷ xs) y ys h

closed_last : (xs : List Block) → Closed (xs ++ Restart ∷ [])
closed_last xs = closed_behind xs Restart [] refl

pub all_closed : (n : ℕ) → Closed (blocks n)
unfolding blocks
all_closed n = subst Closed (append_assoc (settings n 0 6) (drawn_blocks n 0 450) (Restart ∷ [])) (closed_last (settings n 0 6 ++ drawn_blocks n 0 450))
