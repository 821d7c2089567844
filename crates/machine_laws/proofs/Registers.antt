-- Single registers after a write, and the context behind a source.
use Rattle.std.proofs.Common.{◌≡◌, ◌≢◌, ℕ, zero, suc, ◌+◌, ◌*◌, ◌<◌, ◌≤◌, List, refl, ap, ◌∙◌, arith}
use Rattle.std.proofs.lemmas.List.{get_or-set_same, get_or-set_other}
use Rattle.machine_model.specs.Memory.{even}
use Rattle.machine_model.specs.Context.{reg, set_reg, IsContext}
use Rattle.machine_model.specs.Operands.{sum_of, after_source}
use Rattle.machine_model.specs.Does.{passed}
use Rattle.msp_encode.specs.declared.instr.Width.{Width}
use Rattle.msp_encode.specs.declared.instr.Src.{Src}
use Rattle.msp_encode.specs.declared.instr.Src.TheVariants as src
use Rattle.machine_laws.specs.Steady.{IsStatus, IsSteady}
use Rattle.machine_laws.specs.Guarded.{StepsHigh}
use Rattle.machine_laws.specs.Plain.{IsCalm}
use Rattle.machine_model.proofs.Contexts.{set-context, set_reg-high}

pub reg_other : (r : List ℕ) (n v k : ℕ) → k ≢ n → reg (set_reg r n v) k ≡ reg r k
unfolding set_reg
reg_other r zero v k d = get_or-set_other r 0 k (even v) 0 d
reg_other r (suc zero) v k d = get_or-set_other r 1 k (even v) 0 d
reg_other r (suc (suc zero)) v k d = get_or-set_other r 2 k v 0 d
reg_other r (suc (suc (suc zero))) v k d = refl
reg_other r (suc (suc (suc (suc n)))) v k d = ap (λ (q : List ℕ). reg q k) (set_reg-high r (suc (suc (suc (suc n)))) v (omega arith)) ∙ get_or-set_other r (suc (suc (suc (suc n)))) k v 0 d

pub pc_same : (r : List ℕ) (v : ℕ) → IsContext r → reg (set_reg r 0 v) 0 ≡ even v
unfolding set_reg
pc_same r v h = get_or-set_same r 0 (even v) 0 (omega (arith, h.words))

pub sp_same : (r : List ℕ) (v : ℕ) → IsContext r → reg (set_reg r 1 v) 1 ≡ even v
unfolding set_reg
sp_same r v h = get_or-set_same r 1 (even v) 0 (omega (arith, h.words))

pub sr_same : (r : List ℕ) (v : ℕ) → IsContext r → reg (set_reg r 2 v) 2 ≡ v
unfolding set_reg
sr_same r v h = get_or-set_same r 2 v 0 (omega (arith, h.words))

pub high_same : (r : List ℕ) (n v : ℕ) → IsContext r → 4 ≤ n → n < 16 → reg (set_reg r n v) n ≡ v
high_same r n v h a b = ap (λ (q : List ℕ). reg q n) (set_reg-high r n v a) ∙ get_or-set_same r n v 0 (omega (arith, h.words))

-- ---- steady contexts

pub steady-sr : (kb low top : ℕ) (q : List ℕ) (v : ℕ) → IsSteady kb low top q → IsStatus kb v → v < 65536 → IsSteady kb low top (set_reg q 2 v)
steady-sr kb low top q v s t h = record {
  context = set-context q 2 v s.context h;
  room = rw (reg_other q 2 v 1 (omega arith)) s.room;
  within = rw (reg_other q 2 v 1 (omega arith)) s.within;
  status = rw (sr_same q v s.context) t;
}

pub steady-reg : (kb low top : ℕ) (q : List ℕ) (n v : ℕ) → IsSteady kb low top q → n ≢ 1 → n ≢ 2 → v < 65536 → IsSteady kb low top (set_reg q n v)
steady-reg kb low top q n v s a b h = record {
  context = set-context q n v s.context h;
  room = rw (reg_other q n v 1 (omega arith)) s.room;
  within = rw (reg_other q n v 1 (omega arith)) s.within;
  status = rw (reg_other q n v 2 (omega arith)) s.status;
}

pub steady-sp : (kb low top : ℕ) (q : List ℕ) (v : ℕ) → IsSteady kb low top q → low + 4 ≤ even v → even v ≤ top → v < 65536 → IsSteady kb low top (set_reg q 1 v)
steady-sp kb low top q v s a b h = record {
  context = set-context q 1 v s.context h;
  room = rw (sp_same q v s.context) a;
  within = rw (sp_same q v s.context) b;
  status = rw (reg_other q 1 v 2 (omega arith)) s.status;
}

-- PC past the instruction's words, and the source's register moved
pub record Read (kb low top : ℕ) (r q : List ℕ) (n : ℕ) : Type 0 where
  pub steady : IsSteady kb low top q
  pub pc : reg q 0 ≡ reg r 0 + 2 * n
  pub sp : reg q 1 ≡ reg r 1

passed-read : (kb low top : ℕ) (r : List ℕ) (n : ℕ) → IsSteady kb low top r → reg r 0 + 2 * n < 65536 → Read kb low top r (passed r n) n
passed-read kb low top r n s h = record {
  steady = steady-reg kb low top r 0 _ s (omega arith) (omega arith) (omega arith);
  pc = pc_same r (sum_of (reg r 0) (2 * n)) s.context ∙ omega (arith, s.context.pc_even);
  sp = reg_other r 0 _ 1 (omega arith);
}

moved-read : (kb low top : ℕ) (r q : List ℕ) (n k v : ℕ) → Read kb low top r q n → 3 < k → v < 65536 → Read kb low top r (set_reg q k v) n
moved-read kb low top r q n k v a h b = record {
  steady = steady-reg kb low top q k v a.steady (omega arith) (omega arith) b;
  pc = reg_other q k v 0 (omega arith) ∙ a.pc;
  sp = reg_other q k v 1 (omega arith) ∙ a.sp;
}

pub source-read : (kb low top : ℕ) (w : Width) (s : Src) (r : List ℕ) (n : ℕ) → IsSteady kb low top r → reg r 0 + 2 * n < 65536 → IsCalm s → Read kb low top r (after_source w s (passed r n)) n
unfolding after_source
source-read kb low top w (src.Reg k) r n h p c = passed-read kb low top r n h p
source-read kb low top w (src.Indexed k x) r n h p c = passed-read kb low top r n h p
source-read kb low top w (src.Symbolic x) r n h p c = passed-read kb low top r n h p
source-read kb low top w (src.Absolute x) r n h p c = passed-read kb low top r n h p
source-read kb low top w (src.Indirect k) r n h p c = passed-read kb low top r n h p
source-read kb low top w (src.AutoInc k) r n h p c = moved-read kb low top r _ n k _ (passed-read kb low top r n h p) c.0 (omega arith)
source-read kb low top w (src.Immediate x) r n h p c = passed-read kb low top r n h p
source-read kb low top w (src.Const k) r n h p c = passed-read kb low top r n h p

-- a quiet source leaves R4
pub source-r4 : (w : Width) (s : Src) (r : List ℕ) (n : ℕ) → StepsHigh s → reg (after_source w s (passed r n)) 4 ≡ reg r 4
unfolding after_source
source-r4 w (src.Reg k) r n c = reg_other r 0 _ 4 (omega arith)
source-r4 w (src.Indexed k x) r n c = reg_other r 0 _ 4 (omega arith)
source-r4 w (src.Symbolic x) r n c = reg_other r 0 _ 4 (omega arith)
source-r4 w (src.Absolute x) r n c = reg_other r 0 _ 4 (omega arith)
source-r4 w (src.Indirect k) r n c = reg_other r 0 _ 4 (omega arith)
source-r4 w (src.AutoInc k) r n c = reg_other (passed r n) k _ 4 (omega arith) ∙ reg_other r 0 _ 4 (omega arith)
source-r4 w (src.Immediate x) r n c = reg_other r 0 _ 4 (omega arith)
source-r4 w (src.Const k) r n c = reg_other r 0 _ 4 (omega arith)

pub calm-quiet : (s : Src) → StepsHigh s → IsCalm s
calm-quiet (src.Reg k) c = tt
calm-quiet (src.Indexed k x) c = tt
calm-quiet (src.Symbolic x) c = tt
calm-quiet (src.Absolute x) c = tt
calm-quiet (src.Indirect k) c = tt
calm-quiet (src.AutoInc k) c = (omega arith, c.1)
calm-quiet (src.Immediate x) c = tt
calm-quiet (src.Const k) c = tt
