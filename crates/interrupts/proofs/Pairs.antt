-- Pairs put in rising address.
use Rattle.std.proofs.Common.{◌≡◌, ◌≢◌, ℕ, ◌+◌, ◌/◌, ◌%◌, true, false, cond, nat_lt, List, [], ◌∷◌, length, refl, sym, ap, ◌∙◌, arith}
use Rattle.std.specs.Prelude.{slice_set}
use Rattle.std.proofs.lemmas.List.{set_comm}
use Rattle.flat_mem.specs.Bytes.{with_word}
use Rattle.machine_model.specs.Memory.{even, put_all}
use Rattle.machine_model.specs.Pairs.{put_pair}
use Rattle.machine_model.specs.Rising.{Lacks}
use Rattle.interrupts.specs.Pushed.{pushed_bytes}

pub length-put_pair : (p : ℕ × ℕ) (ps : List (ℕ × ℕ)) → length (put_pair p ps) ≡ length ps + 1
length-put_pair p [] = refl
length-put_pair p (q ∷ qs) =
    elim (nat_lt p.0 q.0) as (λ b. length (cond b (p ∷ q ∷ qs) (q ∷ put_pair p qs)) ≡ length (q ∷ qs) + 1) [ true ↦ omega arith | false ↦ omega (arith, length-put_pair p qs) ]

pub lacks_after : (a : ℕ) (p : ℕ × ℕ) (ps : List (ℕ × ℕ)) → p.0 ≢ a → Lacks a ps → Lacks a (put_pair p ps)
lacks_after a p [] ne l = (ne, tt)
lacks_after a p (q ∷ qs) ne l =
    elim (nat_lt p.0 q.0) as (λ b. Lacks a (cond b (p ∷ q ∷ qs) (q ∷ put_pair p qs))) [ true ↦ (ne, l) | false ↦ (l.0, lacks_after a p qs ne l.1) ]

-- a pair put in its place is written as if it came last
put_all-set : (m : List ℕ) (a v : ℕ) (ps : List (ℕ × ℕ)) → Lacks a ps → put_all (slice_set m a v) ps ≡ slice_set (put_all m ps) a v
put_all-set m a v [] l = refl
put_all-set m a v (q ∷ qs) l = ap (λ n. put_all n qs) (set_comm m a q.0 v q.1 (λ e. l.0 (sym e))) ∙ put_all-set (slice_set m q.0 q.1) a v qs l.1

put_all-put_pair : (m : List ℕ) (p : ℕ × ℕ) (ps : List (ℕ × ℕ)) → Lacks p.0 ps → put_all m (put_pair p ps) ≡ slice_set (put_all m ps) p.0 p.1
put_all-put_pair m p [] l = refl
put_all-put_pair m p (q ∷ qs) l =
    elim (nat_lt p.0 q.0) as (λ b. put_all m (cond b (p ∷ q ∷ qs) (q ∷ put_pair p qs)) ≡ slice_set (put_all (slice_set m q.0 q.1) qs) p.0 p.1)
    [ true ↦ put_all-set m p.0 p.1 (q ∷ qs) l | false ↦ put_all-put_pair (slice_set m q.0 q.1) p qs l.1 ]

-- a word's two bytes put in their places are the word written
word_put : (m : List ℕ) (a v : ℕ) (ps : List (ℕ × ℕ)) → Lacks (even a) ps → Lacks (even a + 1) ps → put_all m (put_pair (even a, v % 256) (put_pair (even a + 1, v / 256) ps)) ≡ with_word (put_all m ps) a v
word_put m a v ps low high =
    put_all-put_pair m (even a, v % 256) (put_pair (even a + 1, v / 256) ps) (lacks_after (even a) (even a + 1, v / 256) ps (λ e. omega arith) low)
    ∙ (ap (λ n. slice_set n (even a) (v % 256)) (put_all-put_pair m (even a + 1, v / 256) ps high)
    ∙ set_comm (put_all m ps) (even a + 1) (even a) (v / 256) (v % 256) (λ e. omega arith))

apart_lacks : (k a v : ℕ) → even a ≢ k → even a + 1 ≢ k → Lacks k (put_pair (even a, v % 256) (put_pair (even a + 1, v / 256) []))
apart_lacks k a v low high = lacks_after k (even a, v % 256) (put_pair (even a + 1, v / 256) []) low (high, tt)

-- the two words, in the order in which they are pushed
pub pushed_memory : (m : List ℕ) (b s a p : ℕ) → even b ≢ even a → put_all m (pushed_bytes b s a p) ≡ with_word (with_word m a p) b s
pushed_memory m b s a p ne =
    word_put m b s (put_pair (even a, p % 256) (put_pair (even a + 1, p / 256) []))
    (apart_lacks (even b) a p (λ e. ne (sym e)) (λ e. omega arith))
    (apart_lacks (even b + 1) a p (λ e. omega arith) (λ e. omega arith))
    ∙ ap (λ n. with_word n b s) (word_put m a p [] tt tt)

pub ruleset pairs = (length-put_pair, lacks_after)
