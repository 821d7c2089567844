-- Steps whose records aren't confined.
use Rattle.std.proofs.Common.{◌≡◌, ℕ, Bool, cond, List, Option, None, Some, sym, subst}
use Rattle.msp_encode.specs.declared.instr.Instr.{Instr}
use Rattle.machine_model.specs.Context.{reg}
use Rattle.kernel_model.specs.declared.map.TheConstants.{IDLE}
use Rattle.kernel_model.specs.Kernel.{Kernel}
use Rattle.node_model.specs.Entries.{turn_at, work, nothing_happens}
use Rattle.node_model.specs.Steps.{Case, Accepts, IsIdle, Enters, Serves, OverBudget, Runs, case_of, case_by_line, by_case, by_turn, instruction}
use Rattle.node_model.specs.Confined.{IsConfined, IsIdling}
use Rattle.node_model.specs.Laws.{UnspelledLaw, RowlessLaw}

-- the cases of a step with PC at the idle entry
AtIdle : Case → Type 0
AtIdle (Accepts n) = Unit {0}
AtIdle IsIdle = Unit {0}
AtIdle (Enters c) = ⊥
AtIdle (Serves n) = ⊥
AtIdle OverBudget = ⊥
AtIdle Runs = ⊥

by-line : (k : Kernel) (pc : ℕ) (o : Option ℕ) → pc ≡ IDLE → AtIdle (case_by_line k pc o)
unfolding AtIdle
by-line k pc (Some n) e = tt
by-line k pc None e = subst (λ (p : ℕ). AtIdle (case_by_line k p None)) (sym e) tt

at-idle : (k : Kernel) (c : List ℕ) → reg c 0 ≡ IDLE → AtIdle (case_of k c)
unfolding case_of
at-idle k c e = by-line k (reg c 0) _ e

pub unspelled : UnspelledLaw
unfolding AtIdle
unspelled s pick runs none confined =
    let by-runs : IsConfined s (by_case s pick Runs).shown = subst (λ (e : Case). IsConfined s (by_case s pick e).shown) runs confined in
    let idles : IsIdling s = subst (λ (x : Option (Instr × ℕ)). IsConfined s (instruction s x).shown) none by-runs in
    subst AtIdle runs (at-idle s.kernel s.context idles.at)

pub rowless : RowlessLaw
unfolding AtIdle
rowless s pick c enters no-row confined =
    let by-entry : IsConfined s (by_case s pick (Enters c)).shown = subst (λ (e : Case). IsConfined s (by_case s pick e).shown) enters confined in
    let idles : IsIdling s = subst (λ (b : Bool). IsConfined s (by_turn s (cond b (turn_at c (work s pick)) (nothing_happens (work s pick)))).shown) no-row by-entry in
    subst AtIdle enters (at-idle s.kernel s.context idles.at)
