-- A thread linked into one queue, or out of it, leaves the other queues.
use Rattle.std.proofs.Common.{◌≡◌, ℕ, ◌+◌, ◌<◌, List, length, get_or, set, sym, ◌∙◌, arith, length-set}
use Rattle.std.proofs.lemmas.List.{get_or-set_other}
use Rattle.kernel_model.specs.Members.{In}
use Rattle.kernel_model.specs.Standing.{HasQueue, next_place, prev_place, next_in, prev_in}
use Rattle.kernel_tables.specs.Linking.{linked, unlinked}

-- the second memory has the first one's bytes but at t's links, at b's next link, and at h's previous link
abbrev pub Stays : (m m' : List ℕ) (q t b h : ℕ) → Type 0
Stays m m' q t b h = (a : ℕ) → (a ≡ next_place q (t + 1) → ⊥) → (a ≡ prev_place q (t + 1) → ⊥) → (a ≡ next_place q b → ⊥) → (a ≡ prev_place q h → ⊥) → get_or m' a 0 ≡ get_or m a 0

pub linked_stays : (m : List ℕ) (q t b h : ℕ) → Stays m (linked m q t b h) q t b h
unfolding linked
linked_stays m q t b h a n1 n2 n3 n4 =
    let m1 : List ℕ = set m (next_place q (t + 1)) h in let m2 : List ℕ = set m1 (prev_place q (t + 1)) b in let m3 : List ℕ = set m2 (next_place q b) (t + 1) in
    get_or-set_other m3 (prev_place q h) a (t + 1) 0 n4 ∙ get_or-set_other m2 (next_place q b) a (t + 1) 0 n3
    ∙ get_or-set_other m1 (prev_place q (t + 1)) a b 0 n2 ∙ get_or-set_other m (next_place q (t + 1)) a h 0 n1

pub unlinked_stays : (m : List ℕ) (q t b h : ℕ) → Stays m (unlinked m q t b h) q t b h
unfolding unlinked
unlinked_stays m q t b h a n1 n2 n3 n4 =
    let m1 : List ℕ = set m (next_place q b) h in let m2 : List ℕ = set m1 (prev_place q h) b in let m3 : List ℕ = set m2 (next_place q (t + 1)) 0 in
    get_or-set_other m3 (prev_place q (t + 1)) a 0 0 n2 ∙ get_or-set_other m2 (next_place q (t + 1)) a 0 0 n1
    ∙ get_or-set_other m1 (prev_place q h) a b 0 n4 ∙ get_or-set_other m (next_place q b) a h 0 n3

pub length-linked : (m : List ℕ) (q t b h : ℕ) → length (linked m q t b h) ≡ length m
unfolding linked
length-linked m q t b h =
    let m1 : List ℕ = set m (next_place q (t + 1)) h in let m2 : List ℕ = set m1 (prev_place q (t + 1)) b in let m3 : List ℕ = set m2 (next_place q b) (t + 1) in
    length-set m3 (prev_place q h) (t + 1) ∙ length-set m2 (next_place q b) (t + 1) ∙ length-set m1 (prev_place q (t + 1)) b ∙ length-set m (next_place q (t + 1)) h

pub length-unlinked : (m : List ℕ) (q t b h : ℕ) → length (unlinked m q t b h) ≡ length m
unfolding unlinked
length-unlinked m q t b h =
    let m1 : List ℕ = set m (next_place q b) h in let m2 : List ℕ = set m1 (prev_place q h) b in let m3 : List ℕ = set m2 (next_place q (t + 1)) 0 in
    length-set m3 (prev_place q (t + 1)) 0 ∙ length-set m2 (next_place q (t + 1)) 0 ∙ length-set m1 (prev_place q h) b ∙ length-set m (next_place q b) h

next_prev : (p q c d : ℕ) → next_place p c ≡ prev_place q d → ⊥
next_prev p q c d e = grind arith

end_next : (p q c : ℕ) → p < 9 → q < 9 → (p ≡ q → ⊥) → next_place p 0 ≡ next_place q c → ⊥
end_next p q c lp lq n e = grind arith

end_prev : (p q c : ℕ) → p < 9 → q < 9 → (p ≡ q → ⊥) → prev_place p 0 ≡ prev_place q c → ⊥
end_prev p q c lp lq n e = grind arith

link_next : (p q x c : ℕ) → q < 9 → (x + 1 ≡ c → ⊥) → next_place p (x + 1) ≡ next_place q c → ⊥
link_next p q x c l n e = grind arith

link_prev : (p q x c : ℕ) → q < 9 → (x + 1 ≡ c → ⊥) → prev_place p (x + 1) ≡ prev_place q c → ⊥
link_prev p q x c l n e = grind arith

-- x is neither the thread nor one of its neighbours
pub record Apart (x t b h : ℕ) : Type 0 where
  pub thread : x + 1 ≡ t + 1 → ⊥
  pub before : x + 1 ≡ b → ⊥
  pub behind : x + 1 ≡ h → ⊥

-- the links of x stay
pub next_stays : (m m' : List ℕ) (p q t b h x : ℕ) → q < 9 → Stays m m' q t b h → Apart x t b h → next_in m' p (x + 1) ≡ next_in m p (x + 1)
next_stays m m' p q t b h x lq s o = s (next_place p (x + 1)) (link_next p q x (t + 1) lq o.thread) (next_prev p q (x + 1) (t + 1)) (link_next p q x b lq o.before) (next_prev p q (x + 1) h)

pub prev_stays : (m m' : List ℕ) (p q t b h x : ℕ) → q < 9 → Stays m m' q t b h → Apart x t b h → prev_in m' p (x + 1) ≡ prev_in m p (x + 1)
prev_stays m m' p q t b h x lq s o =
    s (prev_place p (x + 1)) (λ e. next_prev q p (t + 1) (x + 1) (sym e)) (link_prev p q x (t + 1) lq o.thread) (λ e. next_prev q p b (x + 1) (sym e)) (link_prev p q x h lq o.behind)

pub queue_stays : (m m' : List ℕ) (p q t b h : ℕ) (xs : List ℕ) → p < 9 → q < 9 → (p ≡ q → ⊥) → Stays m m' q t b h → HasQueue m p xs → ((x : ℕ) → In x xs → Apart x t b h) → HasQueue m' p xs
queue_stays m m' p q t b h xs lp lq n s k o = record {
  starts = s (next_place p 0) (end_next p q (t + 1) lp lq n) (next_prev p q 0 (t + 1)) (end_next p q b lp lq n) (next_prev p q 0 h) ∙ k.starts;
  ends = s (prev_place p 0) (λ e. next_prev q p (t + 1) 0 (sym e)) (end_prev p q (t + 1) lp lq n) (λ e. next_prev q p b 0 (sym e)) (end_prev p q h lp lq n) ∙ k.ends;
  nexts = λ x i. next_stays m m' p q t b h x lq s (o x i) ∙ k.nexts x i;
  prevs = λ x i. prev_stays m m' p q t b h x lq s (o x i) ∙ k.prevs x i;
}
