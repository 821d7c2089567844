-- Running the unit of a group of stores: more than its last step may write.
use Rattle.std.specs.Prelude.{◌≡◌, ℕ, ◌+◌, ◌*◌, ◌<◌, ◌≤◌, List, [], ◌∷◌}
use Rattle.machine_model.specs.Context.{reg}
use Rattle.machine_model.specs.Operands.{sum_of}
use Rattle.machine_model.specs.Does.{does, memory_after}
use Rattle.machine_model.specs.Fetching.{IsFetched}
use Rattle.msp_encode.specs.declared.registers.TheConstants.{PC, CHECKED}
use Rattle.msp_encode.specs.declared.instr.Op2.{Op2}
use Rattle.msp_encode.specs.declared.instr.Width.{Width}
use Rattle.msp_encode.specs.declared.instr.Src.{Src}
use Rattle.msp_encode.specs.declared.instr.Dst.TheVariants as dst
use Rattle.msp_encode.specs.declared.instr.Instr.{Instr}
use Rattle.msp_encode.specs.declared.instr.Instr.TheVariants as instr
use Rattle.unit_laws.specs.Running.{IsInside}
use Rattle.unit_laws.specs.Frame.{spread}
use Rattle.unit_laws.specs.Guarded.{Steps}
use Rattle.unit_laws.specs.Rows.{SrcFree, ended, Checked, IsAtStore, IsIn, IsOut}
use Rattle.kernel_model.specs.declared.entries.TheConstants.{STORE_FAULT}

-- ---- runs

-- Steps lead from a memory and a context to others. Each is of the instruction that is fetched, and leads inside the unit.
pub data Works (first past : ℕ) : (m c n d : List ℕ) → Type 0 where
  Rests : (m c : List ℕ) → Works first past m c m c
  Does : (m c n d : List ℕ) (i : Instr) (k : ℕ) → IsFetched m (reg c PC) i k → IsInside first past (reg (does m c i k).context PC)
      → Works first past (memory_after m (does m c i k)) (does m c i k).context n d → Works first past m c n d

-- Running a unit from a memory and a context ends with others: steps inside it, and one that leads out
pub record WorksUnit (m c : List ℕ) (first past : ℕ) (n d : List ℕ) : Type 0 where
  pub memory : List ℕ
  pub context : List ℕ
  pub works : Works first past m c memory context
  pub instr : Instr
  pub words : ℕ
  pub fetched : IsFetched memory (reg context PC) instr words
  pub written : memory_after memory (does memory context instr words) ≡ n
  pub leads : (does memory context instr words).context ≡ d
  pub leaves : IsInside first past (reg d PC) → ⊥

-- all but R4 and R5 is as in a memory and a context, and PC is behind the unit
pub record Reaches (m r : List ℕ) (first past : ℕ) (n d : List ℕ) : Type 0 where
  pub x : ℕ
  pub y : ℕ
  pub runs : WorksUnit m r first past n (spread d x y)
  pub there : reg d PC ≡ past

-- ---- the stores of a group

-- An operation that stores at an index behind a base register. The source's ends at an address, and the unit's is so many bytes
-- behind R4
pub record Store : Type 0 where
  pub op : Op2
  pub width : Width
  pub source : Src
  pub index : ℕ
  pub ahead : ℕ
  pub words : ℕ
  pub past : ℕ

-- `op src,X(Rn)`
abbrev pub at_base : (n : ℕ) → Store → Instr
at_base n s = instr.Two s.op s.width s.source (dst.Indexed n s.index)

-- `op src,x(R4)`
abbrev pub at_r4 : Store → Instr
at_r4 s = instr.Two s.op s.width s.source (dst.Indexed CHECKED s.ahead)

-- memory and context after the source's stores, one after another
unfoldable pub stores_after : (n : ℕ) → (m r : List ℕ) → List Store → List ℕ × List ℕ
stores_after n m r [] = (m, r)
stores_after n m r (s ∷ ss) = stores_after n (memory_after m (ended s.past m r (at_base n s) s.words)) (ended s.past m r (at_base n s) s.words).context ss

-- a store at an address of a unit, at most so many bytes behind the cell that x and register n make
pub record IsStoreAt (m : List ℕ) (n x most at : ℕ) (s : Store) : Type 0 where
  pub fetched : IsFetched m at (at_r4 s) s.words
  pub free : SrcFree s.source
  pub steps : Steps s.source n → ⊥
  pub index : s.index ≡ sum_of x s.ahead
  pub near : s.ahead ≤ most
  pub below : s.past < 65536

-- stores one behind another from an address on, and the source's last ends where the unit does
pub data StoresAt (m : List ℕ) (n x most past : ℕ) : (at : ℕ) → List Store → Type 0 where
  Last : (at : ℕ) (s : Store) → IsStoreAt m n x most at s → past ≡ at + 2 * s.words → s.past ≡ past → StoresAt m n x most past at (s ∷ [])
  Before : (at : ℕ) (s : Store) (ss : List Store) → IsStoreAt m n x most at s → StoresAt m n x most past (at + 2 * s.words) ss → StoresAt m n x most past at (s ∷ ss)

-- A guard that tests lo <= R4 < hi, and stores in [lo, hi + most). No code stands there.
abbrev pub GroupUnitLaw : Type 0
GroupUnitLaw = (m r : List ℕ) (first past n x lo hi most : ℕ) (ss : List Store) → IsAtStore m r first past n x lo hi → hi + most ≤ first → StoresAt m n x most past (first + 26) ss
    → Checked m r first past STORE_FAULT r (IsIn lo hi (sum_of x (reg r n))) (IsOut lo hi (sum_of x (reg r n))) (Reaches m r first past (stores_after n m r ss).0 (stores_after n m r ss).1)
