-- The first word of a guard.
use Rattle.std.proofs.Common.{◌≡◌, ℕ, zero, suc, ◌+◌, List, [], ◌∷◌, drop, slice_index, subst, ap, ◌∙◌, arith}
use Rattle.std.proofs.lemmas.List.{get_or-drop}
use Rattle.msp_encode.specs.declared.instr.Src.{Src}
use Rattle.msp_encode.specs.declared.instr.Src.TheVariants as src
use Rattle.msp_encode.specs.declared.instr.Instr.{Instr}
use Rattle.msp_encode.specs.Spelling.{First, SrcRow}
use Rattle.msp_encode.specs.Forms.{Pops}
use Rattle.code_model.specs.declared.object.Object.{Object}
use Rattle.code_model.specs.declared.guards.GuardKind.{GuardKind}
use Rattle.code_model.specs.declared.guards.GuardKind.TheVariants as guard
use Rattle.code_model.specs.Starts.{Begins, Stands}
use Rattle.code_model.specs.Guards.{guard_words, FitAll}

begins_first : (ws : List ℕ) (i : Instr) (n : ℕ) → Begins ws i n → First i (slice_index ws 0)
begins_first ws i zero h = absurd h.1
begins_first [] i (suc n) h = absurd h.1
begins_first (w ∷ ws) i (suc n) h = h.1.0

-- what stands at a place begins with its word
pub stands_first : (code : List ℕ) (at : ℕ) (i : Instr) (n : ℕ) → Stands code at i n → First i (slice_index code at)
stands_first code at i n h =
    let e : slice_index (drop at code) 0 ≡ slice_index code (at + 0) = get_or-drop at code 0 0 in
    let f : at + 0 ≡ at = omega arith in
    subst (λ (w : ℕ). First i w) (e ∙ ap (slice_index code) f) (begins_first (drop at code) i n h)

-- each guard begins with `MOV SR,R5`
pub guard_begins : (o : Object) (first : ℕ) (g : GuardKind) → FitAll o first (guard_words g) → slice_index o.code first ≡ 0x4205
guard_begins o first guard.Store h = h.0.1.0
guard_begins o first (guard.Wide r) h = h.0.1.0
guard_begins o first guard.Load h = h.0.1.0
guard_begins o first guard.Growth h = h.0.1.0
guard_begins o first guard.Pop h = h.0.1.0
guard_begins o first guard.Sp h = h.0.1.0

pub quiet_src : (s : Src) → SrcRow s 2 0 → Pops s 1 → ⊥
quiet_src (src.AutoInc n) row p = absurd (omega (arith, row.1))
quiet_src (src.Reg n) row p = p
quiet_src (src.Indexed n x) row p = p
quiet_src (src.Symbolic x) row p = p
quiet_src (src.Absolute x) row p = p
quiet_src (src.Indirect n) row p = p
quiet_src (src.Immediate x) row p = p
quiet_src (src.Const c) row p = p
