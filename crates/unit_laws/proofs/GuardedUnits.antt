-- Units with a growth guard, a pop guard or a store guard.
use Rattle.std.proofs.Common.{◌≡◌, ◌≢◌, ℕ, zero, suc, ◌+◌, ◌-◌, ◌*◌, ◌%◌, ◌<◌, ◌≤◌, true, List, length, sym, ◌∙◌, subst, inl, inr, arith}
use Rattle.std.proofs.lemmas.Bool.{false≢true}
use Rattle.machine_model.specs.Context.{reg, set_reg, IsContext}
use Rattle.machine_model.specs.Operands.{sum_of}
use Rattle.machine_model.specs.Does.{does}
use Rattle.machine_model.specs.Fetching.{IsFetched}
use Rattle.msp_encode.specs.declared.instr.Width.{Width}
use Rattle.msp_encode.specs.declared.instr.Op1.{Op1}
use Rattle.msp_encode.specs.declared.instr.Op1.TheVariants.{Rrc, Swpb, Rra, Sxt, Push, Call}
use Rattle.msp_encode.specs.declared.instr.Src.{Src}
use Rattle.msp_encode.specs.declared.instr.Src.TheVariants as src
use Rattle.msp_encode.specs.declared.instr.Dst.{Dst}
use Rattle.msp_encode.specs.declared.instr.Dst.TheVariants as dst
use Rattle.msp_encode.specs.declared.instr.Instr.{Instr}
use Rattle.msp_encode.specs.declared.instr.Instr.TheVariants as instr
use Rattle.msp_encode.specs.Forms.{changes}
use Rattle.unit_laws.specs.Running.{IsInside, Runs, RunsUnit}
use Rattle.unit_laws.specs.Lines.{IsIndexed}
use Rattle.unit_laws.specs.Guards.{WordsAt, store_words, IsAtGuard, Passes, Stops}
use Rattle.unit_laws.specs.Frame.{SrcAvoids, InstrAvoids, spread, spread_effect}
use Rattle.unit_laws.specs.Guarded.{IsCell, IsCellOperand}
use Rattle.unit_laws.specs.Rows.{IsFree, SrcFree, DstFree, GoesOn, ended, Follows, Halts, IsAtFirst, GrowthUnitLaw, PopUnitLaw, StoreUnitLaw, ChangeUnitLaw}
use Rattle.unit_laws.proofs.Frame.{spread-reg, none}
use Rattle.unit_laws.proofs.Guards.{store-ends, growth-ends, pop-ends}
use Rattle.unit_laws.proofs.Guarded.{set-length, reg-other, held-spread, guarded, through}
use Rattle.unit_laws.proofs.AtR4.{at-r4}
use Rattle.unit_laws.proofs.GoingOn.{pc-set, goes-on}
use Rattle.kernel_model.specs.declared.entries.TheConstants.{STACK_FAULT, STORE_FAULT}

-- a guard that stops ends the unit at its entry
pub stopped : (m r : List ℕ) (first past entry x : ℕ) → Stops m r first past entry x → Halts m r first past entry r
stopped m r first past entry x s = record { x = x; y = reg r 2; flags = s.flags; runs = s.ends }

-- the guard at a unit's first word
pub at-guard : (m r : List ℕ) (first past : ℕ) (ws : List ℕ) → IsAtFirst m r first past → WordsAt m first 0 ws → first + 2 * length ws < past → IsAtGuard m r first past first ws
at-guard m r first past ws g w b = record { memory = g.memory; context = g.context; pc = g.pc; words = w; begins = omega arith; within = b; below = g.below }

-- ---- a growth guard and a pop guard

-- the instruction behind a guard that passes
followed : (m r : List ℕ) (first past steps next x : ℕ) (i : Instr) (n : ℕ) → IsContext r → next % 2 ≡ 0 → past ≡ next + 2 * n → Passes m r first past steps next x → InstrAvoids i → IsFetched m next i n
    → (IsInside first past (reg (ended past m r i n).context 0) → ⊥) → Follows m r first past (ended past m r i n)
followed m r first past steps next x i n h e p run a f out =
    let there : past - 2 * n ≡ next = omega (arith, p) in
    let gone = subst (λ (z : ℕ). IsInside first past (reg (does m (set_reg r 0 z) i n).context 0) → ⊥) there out in
    record {
      x = x;
      y = reg r 2;
      runs = subst (λ (z : ℕ). RunsUnit m first past r (spread_effect (does m (set_reg r 0 z) i n) x (reg r 2))) (sym there) (guarded m r first past steps next x i n h e run a f gone);
    }

pub growth-unit : GrowthUnitLaw
growth-unit m r first past i n g w f e b a out =
    let ends = growth-ends m r first past first (at-guard m r first past _ g w (omega (arith, e, b))) in
    record {
      goes = λ p. followed m r first past 4 (first + 14) (reg r 4) i n g.context (omega (arith, g.pc, g.context.pc_even)) (omega (arith, e)) (ends.passes p) a f out;
      halts = λ p. stopped m r first past STACK_FAULT (reg r 4) (ends.stops p);
    }

pub pop-unit : PopUnitLaw
pop-unit m r first past i n g w f e b a out =
    let ends = pop-ends m r first past first (at-guard m r first past _ g w (omega (arith, e, b))) in
    record {
      goes = λ p. followed m r first past 4 (first + 14) (reg r 4) i n g.context (omega (arith, g.pc, g.context.pc_even)) (omega (arith, e)) (ends.passes p) a f out;
      halts = λ p. stopped m r first past STACK_FAULT (reg r 4) (ends.stops p);
    }

-- ---- a store guard

pub indexed-free : (n : ℕ) → IsIndexed n → IsFree n
indexed-free n (inl e) = (omega (arith, e), (omega (arith, e), omega (arith, e)))
indexed-free n (inr (inl e)) = (omega (arith, e), (omega (arith, e), omega (arith, e)))
indexed-free n (inr (inr e)) = (omega (arith, e.0), (omega (arith, e.0), omega (arith, e.0)))

pub source-avoids : (s : Src) → SrcFree s → SrcAvoids s
source-avoids (src.Reg n) f = f.1
source-avoids (src.Indexed n x) f = f.1
source-avoids (src.Symbolic x) f = tt
source-avoids (src.Absolute x) f = tt
source-avoids (src.Indirect n) f = f.1
source-avoids (src.AutoInc n) f = f.1
source-avoids (src.Immediate x) f = tt
source-avoids (src.Const k) f = tt

cell-free : (d : Dst) (n x : ℕ) → IsIndexed n → IsCell d n x → DstFree d
cell-free (dst.Indexed j z) n x h c = subst IsFree c.0 (indexed-free n h)
cell-free (dst.Absolute z) n x h c = tt
cell-free (dst.Reg j) n x h c = absurd c
cell-free (dst.Symbolic z) n x h c = absurd c

operand-free : (s : Src) (n x : ℕ) → IsIndexed n → IsCellOperand s n x → SrcFree s
operand-free (src.Indexed j z) n x h c = subst IsFree c.0 (indexed-free n h)
operand-free (src.Absolute z) n x h c = tt
operand-free (src.Indirect j) n x h c = subst IsFree c.0 (indexed-free n h)
operand-free (src.Reg j) n x h c = absurd c
operand-free (src.Symbolic z) n x h c = absurd c
operand-free (src.AutoInc j) n x h c = absurd c
operand-free (src.Immediate z) n x h c = absurd c
operand-free (src.Const z) n x h c = absurd c

change-goes-on : (op : Op1) (w : Width) (s : Src) → changes op ≡ true → SrcFree s → GoesOn (instr.One op w s)
change-goes-on Rrc w s c f = f
change-goes-on Swpb w s c f = f
change-goes-on Rra w s c f = f
change-goes-on Sxt w s c f = f
change-goes-on Push w s c f = absurd (false≢true c)
change-goes-on Call w s c f = absurd (false≢true c)

pub fetched-some : (m : List ℕ) (pc : ℕ) (i : Instr) (n : ℕ) → IsFetched m pc i n → 1 ≤ n
fetched-some m pc i zero f = absurd f.1
fetched-some m pc i (suc n) f = omega arith

-- a context with PC elsewhere is a context
pub context-at : (r : List ℕ) (pc : ℕ) → IsContext r → pc < 65536 → IsContext (set_reg r 0 pc)
context-at r pc h b = record {
  words = set-length r 0 pc ∙ h.words;
  pc_even = omega (arith, pc-set r pc h.words);
  sp_even = omega (arith, reg-other r 0 pc 1 (omega arith), h.sp_even);
  zero = reg-other r 0 pc 3 (omega arith) ∙ h.zero;
  small = small-on;
}
  where
    small-on : (k : ℕ) → reg (set_reg r 0 pc) k < 65536
    small-on zero = omega (arith, pc-set r pc h.words, b)
    small-on (suc k) = omega (arith, reg-other r 0 pc (suc k) (omega arith), h.small (suc k))

-- an instruction that ends at the unit's end, and goes on, leads there
pub ended-past : (m r : List ℕ) (past : ℕ) (i : Instr) (n : ℕ) → IsContext r → GoesOn i → past % 2 ≡ 0 → past < 65536 → 2 * n ≤ past → reg (ended past m r i n).context 0 ≡ past
ended-past m r past i n h g e b l =
    goes-on m (set_reg r 0 (past - 2 * n)) i n (context-at r (past - 2 * n) h (omega (arith, b))) g ∙ omega (arith, pc-set r (past - 2 * n) h.words, e, b, l)

-- the instruction i behind a guard that passes does what j does, but for R4 and R5
replaced : (m r : List ℕ) (first past steps next x : ℕ) (i j : Instr) (n k : ℕ) → IsContext r → next % 2 ≡ 0 → past % 2 ≡ 0 → past < 65536 → 2 * k ≤ past → Passes m r first past steps next x → IsFetched m next i n
    → does m (spread (set_reg r 0 next) x (reg r 2)) i n ≡ spread_effect (ended past m r j k) x (reg r 2) → GoesOn j → Follows m r first past (ended past m r j k)
replaced m r first past steps next x i j n k h e t b l run f last g =
    let eq = held-spread r next x (reg r 2) h e in
    let o = ended past m r j k in
    let ends : reg (spread o.context x (reg r 2)) 0 ≡ past = spread-reg o.context x (reg r 2) 0 none ∙ ended-past m r past j k h g t b l in
    record {
      x = x;
      y = reg r 2;
      runs = record {
        steps = steps;
        before = spread (set_reg r 0 next) x (reg r 2);
        runs = subst (λ (q : List ℕ). Runs m first past steps r q) eq run;
        instr = i;
        words = n;
        fetched = subst (λ (q : List ℕ). IsFetched m (reg q 0) i n) eq f;
        last = last;
        leaves = λ q. omega (arith, q.1, ends);
      };
    }

pub store-unit : StoreUnitLaw
store-unit m r first past n x lo hi op w s d k g f e free cell steps =
    let h = g.at.context in
    let a = sum_of x (reg r n) in
    let even_first : first % 2 ≡ 0 = omega (arith, g.at.pc, h.pc_even) in
    let some : 1 ≤ k = fetched-some m (first + 26) (instr.Two op w s (dst.Indexed 4 0)) k f in
    let apart : n ≢ 0 = (indexed-free n g.register).0 in
    let q = set_reg r 0 (first + 26) in
    let same : sum_of 0 a ≡ sum_of x (reg q n) = omega (arith, reg-other r 0 (first + 26) n apart) in
    let kept = through m q op w s d k n x 0 a (reg r 2) (context-at r (first + 26) h (omega (arith, g.at.below, e))) (source-avoids s free) cell apart g.index steps same in
    let there : first + 26 ≡ past - 2 * k = omega (arith, e) in
    let last = subst (λ (z : ℕ). does m (spread q a (reg r 2)) (instr.Two op w s (dst.Indexed 4 0)) k ≡ spread_effect (does m (set_reg r 0 z) (instr.Two op w s d) k) a (reg r 2)) there kept in
    let ends = store-ends m r first past first n x lo hi (at-guard m r first past (store_words n x lo hi) g.at g.words (omega (arith, e, some))) g.register g.index g.lo_word g.hi_word in
    record {
      goes = λ p. replaced m r first past 8 (first + 26) a (instr.Two op w s (dst.Indexed 4 0)) (instr.Two op w s d) k k h (omega (arith, even_first)) (omega (arith, e, even_first)) (omega (arith, g.at.below)) (omega (arith, e))
          (ends.passes p.0 p.1) f last (free, cell-free d n x g.register cell);
      halts = λ p. stopped m r first past STORE_FAULT a (ends.stops p);
    }

pub change-unit : ChangeUnitLaw
change-unit m r first past n x lo hi op w s k g f e c cell b t =
    let h = g.at.context in
    let a = sum_of x (reg r n) in
    let even_first : first % 2 ≡ 0 = omega (arith, g.at.pc, h.pc_even) in
    let same = at-r4 m r op w s (past - 2 * k) k n x (reg r 2) h c cell (indexed-free n g.register).0 g.index (omega (arith, e, even_first, t)) b (omega (arith, g.at.below, e, t)) in
    let there : (past - 2 * k) + (2 * k - 2) ≡ first + 26 = omega (arith, e, b, t) in
    let last = subst (λ (z : ℕ). does m (spread (set_reg r 0 z) a (reg r 2)) (instr.One op w (src.Indirect 4)) 1 ≡ spread_effect (ended past m r (instr.One op w s) k) a (reg r 2)) there same in
    let ends = store-ends m r first past first n x lo hi (at-guard m r first past (store_words n x lo hi) g.at g.words (omega (arith, e))) g.register g.index g.lo_word g.hi_word in
    record {
      goes = λ p. replaced m r first past 8 (first + 26) a (instr.One op w (src.Indirect 4)) (instr.One op w s) 1 k h (omega (arith, even_first)) (omega (arith, e, even_first)) (omega (arith, g.at.below)) (omega (arith, e, t))
          (ends.passes p.0 p.1) f last (change-goes-on op w s c (operand-free s n x g.register cell));
      halts = λ p. stopped m r first past STORE_FAULT a (ends.stops p);
    }
