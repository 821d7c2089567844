-- Contexts as sixteen words, and runs line by line.
use Rattle.std.proofs.Common.{◌≡◌, ℕ, zero, suc, ◌+◌, ◌*◌, ◌%◌, ◌<◌, ◌≤◌, Bool, true, false, List, refl, sym, ap, ◌∙◌, subst, arith}
use Rattle.std.specs.Prelude.{if◌then◌else◌}
use Rattle.machine_model.specs.Context.{reg, IsContext}
use Rattle.machine_model.specs.Alu.{alu, added}
use Rattle.machine_model.specs.Does.{does, holds}
use Rattle.machine_model.specs.Fetching.{IsFetched}
use Rattle.msp_encode.specs.declared.instr.Cond.{Cond}
use Rattle.msp_encode.specs.declared.instr.Width.TheVariants.{Wide}
use Rattle.msp_encode.specs.declared.instr.Op2.TheVariants.{Add}
use Rattle.unit_laws.specs.Running.{held, silent, Runs, Goes, RunsUnit}
use Rattle.unit_laws.specs.Lines.{Line, Jumps, Branches, instr_of, words_of, IsLine, compared, pc_after, sr_after, r4_after, r5_after}
use Rattle.machine_model.proofs.Flags.{with_flags-small}
use Rattle.machine_model.proofs.Contexts.{as_words}
use Rattle.unit_laws.proofs.Lines.{line-does}

-- a context is its sixteen words
pub as_held : (r : List ℕ) (at : ℕ) → IsContext r → reg r 0 ≡ at → held r at (reg r 2) (reg r 4) (reg r 5) ≡ r
as_held r at h e = ap (λ (p : ℕ). held r p (reg r 2) (reg r 4) (reg r 5)) (sym e) ∙ as_words r h.words

pub held-context : (r : List ℕ) (pc sr x y : ℕ) → IsContext r → pc % 2 ≡ 0 → pc < 65536 → sr < 65536 → x < 65536 → y < 65536 → IsContext (held r pc sr x y)
held-context r pc sr x y h e b s u w = record { words = refl; pc_even = e; sp_even = h.sp_even; zero = h.zero; small = small-on }
  where
    small-on : (k : ℕ) → reg (held r pc sr x y) k < 65536
    small-on zero = b
    small-on (suc zero) = h.small 1
    small-on (suc (suc zero)) = s
    small-on (suc (suc (suc zero))) = h.small 3
    small-on (suc (suc (suc (suc zero)))) = u
    small-on (suc (suc (suc (suc (suc zero))))) = w
    small-on (suc (suc (suc (suc (suc (suc zero)))))) = h.small 6
    small-on (suc (suc (suc (suc (suc (suc (suc zero))))))) = h.small 7
    small-on (suc (suc (suc (suc (suc (suc (suc (suc zero)))))))) = h.small 8
    small-on (suc (suc (suc (suc (suc (suc (suc (suc (suc zero))))))))) = h.small 9
    small-on (suc (suc (suc (suc (suc (suc (suc (suc (suc (suc zero)))))))))) = h.small 10
    small-on (suc (suc (suc (suc (suc (suc (suc (suc (suc (suc (suc zero))))))))))) = h.small 11
    small-on (suc (suc (suc (suc (suc (suc (suc (suc (suc (suc (suc (suc zero)))))))))))) = h.small 12
    small-on (suc (suc (suc (suc (suc (suc (suc (suc (suc (suc (suc (suc (suc zero))))))))))))) = h.small 13
    small-on (suc (suc (suc (suc (suc (suc (suc (suc (suc (suc (suc (suc (suc (suc zero)))))))))))))) = h.small 14
    small-on (suc (suc (suc (suc (suc (suc (suc (suc (suc (suc (suc (suc (suc (suc (suc zero))))))))))))))) = h.small 15
    small-on (suc (suc (suc (suc (suc (suc (suc (suc (suc (suc (suc (suc (suc (suc (suc (suc k)))))))))))))))) = omega arith

pub compared-small : (s d sr : ℕ) → sr < 65536 → compared s d sr < 65536
unfolding alu added
compared-small s d sr h = with_flags-small sr _ _ _ _ h

pub added-small : (s d sr : ℕ) → sr < 65536 → (alu Add Wide s d sr).status < 65536
unfolding alu added
added-small s d sr h = with_flags-small sr _ _ _ _ h

-- ---- one line of a run

pub line-runs : (l : Line) (m r : List ℕ) (first past k pc p sr x y : ℕ) (d : List ℕ) → IsContext r → IsLine l → pc % 2 ≡ 0 → sr < 65536 → x < 65536 → y < 65536
    → IsFetched m pc (instr_of l) (words_of l) → pc_after l pc sr ≡ p → first < p → p < past → pc < past → past < 65536
    → Runs m first past k (held r p (sr_after l m r sr x y) (r4_after l r x) (r5_after l sr y)) d → Runs m first past (suc k) (held r pc sr x y) d
line-runs l m r first past k pc p sr x y d h t e s u w f q a b c z rest =
    let after = subst (λ (n : ℕ). does m (held r pc sr x y) (instr_of l) (words_of l) ≡ silent (held r n (sr_after l m r sr x y) (r4_after l r x) (r5_after l sr y))) q
    (line-does l m r pc sr x y h (held-context r pc sr x y h e (omega (arith, c, z)) s u w) t (omega (arith, q, b, z))) in
    Goes k (held r pc sr x y) (held r p (sr_after l m r sr x y) (r4_after l r x) (r5_after l sr y)) d (instr_of l) (words_of l) f after (a, b) rest

-- a branch out of the unit ends it
pub branch-ends : (v : ℕ) (m r : List ℕ) (first past k pc sr x y : ℕ) (c : List ℕ) → IsContext r → v % 2 ≡ 0 → v < 65536 → past ≤ v → pc % 2 ≡ 0 → pc < past → sr < 65536 → x < 65536 → y < 65536
    → IsFetched m pc (instr_of (Branches v)) 2 → Runs m first past k c (held r pc sr x y) → RunsUnit m first past c (silent (held r v sr x y))
branch-ends v m r first past k pc sr x y c h t b z e l s u w f rest = record {
  steps = k;
  before = held r pc sr x y;
  runs = rest;
  instr = instr_of (Branches v);
  words = 2;
  fetched = f;
  last = line-does (Branches v) m r pc sr x y h (held-context r pc sr x y h e (omega (arith, l, z, b)) s u w) t b;
  leaves = λ i. omega (arith, i.1, z);
}

pub jump-taken : (c : Cond) (k pc sr : ℕ) → holds c sr ≡ true → pc_after (Jumps c k) pc sr ≡ pc + (2 + 2 * k)
jump-taken c k pc sr h = ap (λ (b : Bool). if b then pc + (2 + 2 * k) else pc + 2) h

pub jump-passed : (c : Cond) (k pc sr : ℕ) → holds c sr ≡ false → pc_after (Jumps c k) pc sr ≡ pc + 2
jump-passed c k pc sr h = ap (λ (b : Bool). if b then pc + (2 + 2 * k) else pc + 2) h
