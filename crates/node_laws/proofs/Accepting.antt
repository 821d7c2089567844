-- What an acceptance pushed is read back.
use Rattle.std.proofs.Common.{◌≡◌, ℕ, ◌+◌, ◌-◌, ◌*◌, ◌/◌, ◌%◌, ◌<◌, ◌≤◌, List, [], ◌∷◌, length, get_or, sym, ◌∙◌, subst, refl, arith}
use Rattle.std.specs.Prelude.{slice_set}
use Rattle.std.proofs.lemmas.Bool.{lt-ltb}
use Rattle.std.proofs.lemmas.List.{length-set, get_or-set_same, get_or-set_other}
use Rattle.machine_model.specs.Memory.{even, word_at, put_all}
use Rattle.machine_model.specs.Context.{reg, set_reg, IsContext}
use Rattle.machine_model.specs.Pairs.{put_pair}
use Rattle.machine_model.specs.Accepting.{accepted, by_address}
use Rattle.node_model.specs.Entries.{interrupted}
use Rattle.machine_model.proofs.Contexts.{as_words}

pub put_pair-first : (p q : ℕ × ℕ) (qs : List (ℕ × ℕ)) → p.0 < q.0 → put_pair p (q ∷ qs) ≡ p ∷ q ∷ qs
put_pair-first p q qs h = rw (lt-ltb p.0 q.0 h) refl

pub put_pair-none : (p : ℕ × ℕ) → put_pair p [] ≡ p ∷ []
put_pair-none p = refl

abbrev pub four : (b x y a z w : ℕ) → List (ℕ × ℕ)
four b x y a z w = (b, x) ∷ (b + 1, y) ∷ (a, z) ∷ (a + 1, w) ∷ []

pub in_order : (b x y a z w : ℕ) → b + 1 < a → by_address (four b x y a z w) ≡ four b x y a z w
in_order b x y a z w h =
    rw (
      put_pair-none (a + 1, w),
      put_pair-first (a, z) (a + 1, w) [] (omega arith),
      put_pair-first (b + 1, y) (a, z) ((a + 1, w) ∷ []) h,
    )
    (put_pair-first (b, x) (b + 1, y) ((a, z) ∷ (a + 1, w) ∷ []) (omega arith))

module _ (m : List ℕ) (b x y a z w : ℕ) (e : b % 2 ≡ 0) (f : a ≡ b + 2) (l : a + 1 < length m) where
  abbrev m1 : List ℕ
  m1 = slice_set m b x

  abbrev m2 : List ℕ
  m2 = slice_set m1 (b + 1) y

  abbrev m3 : List ℕ
  m3 = slice_set m2 a z

  abbrev m4 : List ℕ
  m4 = slice_set m3 (a + 1) w

  n1 : length m1 ≡ length m
  n1 = length-set m b x

  n2 : length m2 ≡ length m
  n2 = length-set m1 (b + 1) y ∙ n1

  n3 : length m3 ≡ length m
  n3 = length-set m2 a z ∙ n2

  at_b : get_or m4 b 0 ≡ x
  at_b = get_or-set_other m3 (a + 1) b w 0 (λ q. omega arith)
      ∙ (get_or-set_other m2 a b z 0 (λ q. omega arith)
      ∙ (get_or-set_other m1 (b + 1) b y 0 (λ q. omega arith) ∙ get_or-set_same m b x 0 (omega arith)))

  at_b1 : get_or m4 (b + 1) 0 ≡ y
  at_b1 = get_or-set_other m3 (a + 1) (b + 1) w 0 (λ q. omega arith)
      ∙ (get_or-set_other m2 a (b + 1) z 0 (λ q. omega arith) ∙ get_or-set_same m1 (b + 1) y 0 (omega (arith, n1)))

  at_a : get_or m4 a 0 ≡ z
  at_a = get_or-set_other m3 (a + 1) a w 0 (λ q. omega arith) ∙ get_or-set_same m2 a z 0 (omega (arith, n2))

  at_a1 : get_or m4 (a + 1) 0 ≡ w
  at_a1 = get_or-set_same m3 (a + 1) w 0 (omega (arith, n3))

  pub low_word : word_at (put_all m (four b x y a z w)) b ≡ x + 256 * y
  unfolding word_at
  low_word = let h : even b ≡ b = omega arith in rw (h, at_b, at_b1) refl

  pub high_word : word_at (put_all m (four b x y a z w)) (b + 2) ≡ z + 256 * w
  unfolding word_at
  high_word = let h : even (b + 2) ≡ a = omega arith in rw (h, at_a, at_a1) refl

-- the context that was interrupted is read back
abbrev pub PushedIs : (n : ℕ) → List ℕ → List ℕ → Type 0
PushedIs n m c = interrupted (put_all m (accepted n m c).written) (accepted n m c).context ≡ c

of_words : (n : ℕ) (m : List ℕ) → length m ≡ 65536 → (a0 a1 a2 a3 a4 a5 a6 a7 a8 a9 a10 a11 a12 a13 a14 a15 : ℕ)
    → IsContext (a0 ∷ a1 ∷ a2 ∷ a3 ∷ a4 ∷ a5 ∷ a6 ∷ a7 ∷ a8 ∷ a9 ∷ a10 ∷ a11 ∷ a12 ∷ a13 ∷ a14 ∷ a15 ∷ []) → 4 ≤ a1
    → PushedIs n m (a0 ∷ a1 ∷ a2 ∷ a3 ∷ a4 ∷ a5 ∷ a6 ∷ a7 ∷ a8 ∷ a9 ∷ a10 ∷ a11 ∷ a12 ∷ a13 ∷ a14 ∷ a15 ∷ [])
unfolding accepted set_reg
of_words n m lm a0 a1 a2 a3 a4 a5 a6 a7 a8 a9 a10 a11 a12 a13 a14 a15 h s =
    let small : a1 < 65536 = h.small 1 in
    let sp_even : a1 % 2 ≡ 0 = h.sp_even in
    let b : ℕ = a1 - 4 in
    let a : ℕ = a1 - 2 in
    let ea : even ((a1 + 65534) % 65536) ≡ a = omega arith in
    let eb : even ((a + 65534) % 65536) ≡ b = omega arith in
    let va : even a ≡ a = omega arith in
    let vb : even b ≡ b = omega arith in
    let up : even ((b + 2) % 65536) ≡ b + 2 = omega arith in
    let o = in_order b (a2 % 256) (a2 / 256) a (a0 % 256) (a0 / 256) (omega arith) in
    let low = low_word m b (a2 % 256) (a2 / 256) a (a0 % 256) (a0 / 256) (omega arith) (omega arith) (omega arith) in
    let high = high_word m b (a2 % 256) (a2 / 256) a (a0 % 256) (a0 / 256) (omega arith) (omega arith) (omega arith) in
    let pc : even (a0 % 256 + 256 * (a0 / 256)) ≡ a0 = omega (arith, h.pc_even) in
    let sr : a2 % 256 + 256 * (a2 / 256) ≡ a2 = omega arith in
    let sp : even ((b + 2 + 2) % 65536) ≡ a1 = omega arith in
    rw (ea, eb, va, vb, o, up, low, high)
    (λ i. pc i ∷ sp i ∷ sr i ∷ a3 ∷ a4 ∷ a5 ∷ a6 ∷ a7 ∷ a8 ∷ a9 ∷ a10 ∷ a11 ∷ a12 ∷ a13 ∷ a14 ∷ a15 ∷ [])

pub pushed-accepted : (n : ℕ) (m c : List ℕ) → length m ≡ 65536 → IsContext c → 4 ≤ reg c 1 → PushedIs n m c
pushed-accepted n m c lm h s =
    subst (λ (r : List ℕ). PushedIs n m r) (as_words c h.words)
    (of_words n m lm (reg c 0) (reg c 1) (reg c 2) (reg c 3) (reg c 4) (reg c 5) (reg c 6) (reg c 7) (reg c 8) (reg c 9)
    (reg c 10) (reg c 11) (reg c 12) (reg c 13) (reg c 14) (reg c 15) (subst IsContext (sym (as_words c h.words)) h) s)
