-- The instructions that a guard serves, one behind another.
use Rattle.std.proofs.Common.{◌≡◌, ℕ, zero, suc, ◌+◌, ◌≤◌, ◌<◌, inl, inr, length, refl, sym, subst, arith}
use Rattle.std.proofs.Math.Nat.{eq-or-lt_of_le}
use Rattle.std.proofs.lemmas.Bool.{cases_lt}
use Rattle.code_model.specs.declared.object.Object.{Object}
use Rattle.code_model.specs.declared.guards.GuardKind.{GuardKind}
use Rattle.code_model.specs.declared.guards.GuardKind.TheVariants as guard
use Rattle.code_model.specs.Starts.{Start}
use Rattle.code_model.specs.Guards.{Guarded, guard_words, ServesAt, Run, most_served}
use Rattle.code_laws.proofs.Starting.{starts_apart, next_start}
use Rattle.code_laws.proofs.Lines.{guard_reaches}

pub run_rises : (g : GuardKind) (o : Object) (first base count at : ℕ) → Run g o first base count at → base ≤ at
run_rises g o first base zero at r = omega (arith, r)
run_rises g o first base (suc k) at (from, r, (s, e)) = omega (arith, run_rises g o first base k from r, e)

-- a guarded instruction stands behind the guard's words
pub base_before : (o : Object) (at : ℕ) (g : GuardKind) (h : Guarded o at g) → h.base ≤ at
base_before o at g h = run_rises g o h.first h.base h.before at h.run

pub some_words : (g : GuardKind) → 1 ≤ length (guard_words g)
some_words guard.Store = omega arith
some_words (guard.Wide r) = omega arith
some_words guard.Load = omega arith
some_words guard.Growth = omega arith
some_words guard.Pop = omega arith
some_words guard.Sp = omega arith

-- the guard begins before it
pub first_before : (o : Object) (at : ℕ) (g : GuardKind) (h : Guarded o at g) → h.first < at
first_before o at g h = omega (arith, h.ends, some_words g, base_before o at g h)

-- directly behind them, where the guard serves one alone
run_alone : (g : GuardKind) (o : Object) (first base count at : ℕ) → Run g o first base count at → count < 1 → at ≡ base
run_alone g o first base zero at r few = r
run_alone g o first base (suc k) at r few = absurd (omega arith)

pub served_alone : (o : Object) (at : ℕ) (g : GuardKind) (h : Guarded o at g) → most_served g ≡ 1 → at ≡ h.base
served_alone o at g h one = run_alone g o h.first h.base h.before at h.run (subst (λ (n : ℕ). h.before < n) one h.few)

-- a start in a run, with how many instructions stand before it
pub record OnRun (g : GuardKind) (o : Object) (first base count x : ℕ) : Type 0 where
  pub before : ℕ
  pub fewer : before < count
  pub run : Run g o first base before x
  pub serves : ServesAt g o first x

-- where the guard's words end at a start, so does each instruction that the guard serves
run_start : (g : GuardKind) (o : Object) (first base count at : ℕ) → Run g o first base count at → Start o.code base → at < length o.code → Start o.code at
run_start g o first base zero at r s inside = subst (λ (y : ℕ). Start o.code y) (sym r) s
run_start g o first base (suc k) at (from, r, (s, e)) t inside =
    let there : Start o.code from = run_start g o first base k from r t (omega (arith, e)) in
    subst (λ (y : ℕ). Start o.code y) (sym e) (next_start o.code from s.instr s.words there s.stands (omega (arith, e)))

on_run : (g : GuardKind) (o : Object) (first base count at : ℕ) → Run g o first base count at → Start o.code base → at < length o.code
    → (x : ℕ) → Start o.code x → base ≤ x → x < at → OnRun g o first base count x
on_run g o first base zero at r s inside x t low high = absurd (omega (arith, r))
on_run g o first base (suc k) at (from, r, (s, e)) b inside x t low high =
    let within : from < length o.code = omega (arith, e) in
    let there : Start o.code from = run_start g o first base k from r b within in
    elim (cases_lt x from) [
      | inl less ↦
          let on = on_run g o first base k from r b within x t low less in
          record { before = on.before; fewer = omega (arith, on.fewer); run = on.run; serves = on.serves }
      | inr more ↦ elim (eq-or-lt_of_le more) [
        | inl same ↦
            record {
              before = k;
              fewer = omega arith;
              run = subst (λ (y : ℕ). Run g o first base k y) same r;
              serves = subst (λ (y : ℕ). ServesAt g o first y) same s;
            }
        | inr less ↦ absurd (omega (arith, starts_apart o.code from x s.instr s.words there s.stands t less, e))
      ]
    ]

-- the guard's words end where an instruction starts
pub base_start : (o : Object) (at : ℕ) (g : GuardKind) (h : Guarded o at g) → Start o.code h.base
base_start o at g h =
    let inside : h.first + length (guard_words g) < length o.code = omega (arith, h.ends, base_before o at g h, h.start.below) in
    subst (λ (y : ℕ). Start o.code y) h.ends (guard_reaches o h.first g h.fit h.begins inside)

-- a start between a guard's words and an instruction that it serves is one that it serves too
pub record AlsoGuarded (o : Object) (at x : ℕ) (g : GuardKind) (h : Guarded o at g) : Type 0 where
  pub guarded : Guarded o x g
  pub first : guarded.first ≡ h.first

pub also_guarded : (o : Object) (at x : ℕ) (g : GuardKind) (h : Guarded o at g) → Start o.code x → h.base ≤ x → x ≤ at → AlsoGuarded o at x g h
also_guarded o at x g h t low high =
    elim (eq-or-lt_of_le high) [
      | inl same ↦ here at h same
      | inr less ↦
          let on = on_run g o h.first h.base h.before at h.run (base_start o at g h) h.start.below x t low less in
          record {
            guarded = record {
              start = t;
              first = h.first;
              base = h.base;
              ends = h.ends;
              begins = h.begins;
              fit = h.fit;
              known = h.known;
              before = on.before;
              few = omega (arith, on.fewer, h.few);
              run = on.run;
              instr = on.serves.instr;
              words = on.serves.words;
              stands = on.serves.stands;
              serves = on.serves.serves;
            };
            first = refl;
          }
    ]
  where
    here : (y : ℕ) (j : Guarded o y g) → x ≡ y → AlsoGuarded o y x g j
    here y j e = subst (λ (z : ℕ). (k : Guarded o z g) → AlsoGuarded o z x g k) e (λ k. record { guarded = k; first = refl }) j
