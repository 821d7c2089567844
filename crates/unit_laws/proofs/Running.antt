-- Laws of runs.
use Rattle.std.proofs.Common.{◌≡◌, ℕ, zero, suc, ◌+◌, List, [], ◌∷◌, take, sym, ap, ◌∙◌, subst, arith}
use Rattle.std.proofs.lemmas.List.{length-take}
use Rattle.machine_model.specs.Memory.{word_at}
use Rattle.machine_model.specs.Operands.{sum_of}
use Rattle.machine_model.specs.Context.{reg}
use Rattle.machine_model.specs.Does.{does, Effect}
use Rattle.machine_model.specs.Fetching.{IsFetched, words_from}
use Rattle.msp_encode.specs.declared.instr.Instr.{Instr}
use Rattle.msp_encode.specs.Spelling.{Spells}
use Rattle.msp_decode.specs.Laws.{OneInstruction, FirstWordDecides}
use Rattle.unit_laws.specs.Running.{silent, IsInside, Runs, Stays, Goes, JoinLaw, FollowLaw, OnceLaw}

pub join : JoinLaw
join m first past zero k _ _ d (Stays b) h = subst (λ (x : ℕ). Runs m first past x b d) (omega arith) h
join m first past (suc _) k _ _ d (Goes j b q c i n f e a g) h = subst (λ (x : ℕ). Runs m first past x b d) (omega arith) (Goes (j + k) b q d i n f e a (join m first past j k q c d g h))

pub follow : FollowLaw
follow m first past k c d e g h = record {
  steps = k + h.steps;
  before = h.before;
  runs = join m first past k h.steps c d h.before g h.runs;
  instr = h.instr;
  words = h.words;
  fetched = h.fetched;
  last = h.last;
  leaves = h.leaves;
}

-- ---- one instruction is fetched

abbrev after : List ℕ → ℕ → List ℕ
after m pc = word_at m (sum_of pc 2) ∷ word_at m (sum_of pc 4) ∷ []

same_size : FirstWordDecides → (m : List ℕ) (pc : ℕ) (i j : Instr) (n k : ℕ) → IsFetched m pc i n → IsFetched m pc j k → n ≡ k
same_size decides m pc i j zero k g h = absurd g.1
same_size decides m pc i j (suc n) zero g h = absurd h.1
same_size decides m pc i j (suc n) (suc k) g h =
    let e = (decides i (word_at m pc) (take n (after m pc)) (take k (after m pc)) g.1).0 (j, h.1) in
    omega (arith, e, length-take n (after m pc), length-take k (after m pc), g.0, h.0)

same_instr : OneInstruction → FirstWordDecides → (m : List ℕ) (pc : ℕ) (i j : Instr) (n k : ℕ) → IsFetched m pc i n → IsFetched m pc j k → i ≡ j
same_instr single decides m pc i j n k g h =
    let e : k ≡ n = sym (same_size decides m pc i j n k g h) in
    single i j (take n (words_from m pc)) g.1 (subst (λ (x : ℕ). Spells j (take x (words_from m pc))) e h.1)

-- one step is made
same_step : OneInstruction → FirstWordDecides → (m c : List ℕ) (i j : Instr) (n k : ℕ) → IsFetched m (reg c 0) i n → IsFetched m (reg c 0) j k → does m c i n ≡ does m c j k
same_step single decides m c i j n k g h =
    ap (λ (x : Instr). does m c x n) (same_instr single decides m (reg c 0) i j n k g h) ∙ ap (does m c j) (same_size decides m (reg c 0) i j n k g h)

-- a last step of a unit from a context
pub record Leads (m : List ℕ) (first past : ℕ) (c : List ℕ) (e : Effect) : Type 0 where
  pub instr : Instr
  pub words : ℕ
  pub fetched : IsFetched m (reg c 0) instr words
  pub last : does m c instr words ≡ e
  pub leaves : IsInside first past (reg e.context 0) → ⊥

-- a last step is none that goes on
stuck : OneInstruction → FirstWordDecides → (m : List ℕ) (first past : ℕ) (c q : List ℕ) (e : Effect) (i : Instr) (n : ℕ) → Leads m first past c e → IsFetched m (reg c 0) i n → does m c i n ≡ silent q → IsInside first past (reg q 0) → ⊥
stuck single decides m first past c q e i n l f s a =
    let same : silent q ≡ e = sym s ∙ (same_step single decides m c i l.instr n l.words f l.fetched ∙ l.last) in
    l.leaves (subst (λ (x : Effect). IsInside first past (reg x.context 0)) same a)

ends-once : OneInstruction → FirstWordDecides → (m : List ℕ) (first past j k : ℕ) (c b d : List ℕ) (e f : Effect) → Runs m first past j c b → Runs m first past k c d → Leads m first past b e → Leads m first past d f → e ≡ f
ends-once single decides m first past zero zero _ _ _ e f (Stays c) (Stays _) l r = sym l.last ∙ (same_step single decides m c l.instr r.instr l.words r.words l.fetched r.fetched ∙ r.last)
ends-once single decides m first past zero (suc _) _ _ _ e f (Stays c) (Goes k _ q d i n g s a rest) l r = absurd (stuck single decides m first past c q e i n l g s a)
ends-once single decides m first past (suc _) zero _ _ _ e f (Goes j c q b i n g s a rest) (Stays _) l r = absurd (stuck single decides m first past c q f i n r g s a)
ends-once single decides m first past (suc _) (suc _) _ _ _ e f (Goes j c p b i n g s a rest) (Goes k _ q d x y h t u more) l r =
    let same : p ≡ q = ap (λ (z : Effect). z.context) (sym s ∙ (same_step single decides m c i x n y g h ∙ t)) in
    ends-once single decides m first past j k q b d e f (subst (λ (z : List ℕ). Runs m first past j z b) same rest) more l r

pub once : OneInstruction → FirstWordDecides → OnceLaw
once single decides m first past c e f g h = ends-once single decides m first past g.steps h.steps c g.before h.before e f g.runs h.runs
    record { instr = g.instr; words = g.words; fetched = g.fetched; last = g.last; leaves = g.leaves }
    record { instr = h.instr; words = h.words; fetched = h.fetched; last = h.last; leaves = h.leaves }
