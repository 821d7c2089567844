-- Laws of objects with guards.
use Rattle.std.specs.Prelude.{◌≡◌, ℕ, ◌*◌, zero, suc, List, [], ◌∷◌, Option, None, Some}
use Rattle.code_model.specs.declared.object.Object.{Object}
use Rattle.code_model.specs.Fields.{fields}
use Rattle.code_model.specs.Starts.{Stands, Start}
use Rattle.code_model.specs.declared.rules.Rule.{Rule}
use Rattle.code_model.specs.declared.rules.Rule.TheVariants as rule
use Rattle.code_model.specs.declared.guards.GuardKind.TheVariants as guard
use Rattle.code_model.specs.Guards.{Guarded, UnitStart}
use Rattle.code_model.specs.Rules.{Refuses}
use Rattle.code_model.specs.declared.verdict.Verdict.{Verdict}
use Rattle.code_model.specs.Verdicts.{AllSpelled, IsAccepted, IsVerdict, IsAcceptance}
use Rattle.code_model.specs.declared.parts.RelKind.{RelKind}
use Rattle.code_model.specs.Relocs.{HasReloc, Unrelocated}
use Rattle.insert_model.specs.declared.piece.Word.{Word}
use Rattle.msp_encode.specs.Spelled.{count}
use Rattle.insert_model.specs.Words.{unit_words}
use Rattle.insert_model.specs.Layout.{place_map}
use Rattle.insert_model.specs.Faults.{IsInserted}
use Rattle.insert_laws.specs.Pieces.{pieces, standing, PieceAt}

-- what is known of the starts of an object with guards
pub record PiecesStand (o q : Object) : Type 0 where
  -- each start is a piece's place
  pub starts : (at : ℕ) → Start q.code at → PieceAt (fields o) at
  -- at each piece's place its instruction starts
  pub begins : (at : ℕ) → PieceAt (fields o) at → Start q.code at
  pub stands : (at : ℕ) (p : PieceAt (fields o) at) → Stands q.code at (standing (place_map (fields o)) p.piece) (count (standing (place_map (fields o)) p.piece))
  pub spelled : AllSpelled q

abbrev pub StartsArePieces : Type 0
StartsArePieces = (o q : Object) → IsInserted o q → PiecesStand o q

-- ---- relocations

-- the relocation of a word at a place of a list
abbrev pub kind_in : List Word → ℕ → Option RelKind
kind_in [] at = None
kind_in (w ∷ ws) zero = w.kind
kind_in (w ∷ ws) (suc at) = kind_in ws at

-- the relocations of the code of an object with guards are those of the words of its pieces
pub record RelocsStand (o q : Object) : Type 0 where
  pub has : (at : ℕ) (k : RelKind) → HasReloc q.relocs at k → kind_in (unit_words (pieces (fields o))) at ≡ Some k
  pub some : (at : ℕ) (k : RelKind) → kind_in (unit_words (pieces (fields o))) at ≡ Some k → HasReloc q.relocs at k
  pub none : (at : ℕ) → kind_in (unit_words (pieces (fields o))) at ≡ None → Unrelocated q.relocs at

abbrev pub RelocsArePieces : Type 0
RelocsArePieces = (o q : Object) → IsInserted o q → RelocsStand o q

-- ---- rules

-- the rules on what an instruction is, which guard stands before it, what it writes and which words are relocated
abbrev pub IsFormRule : Rule → Type 0
IsFormRule rule.Reti = Unit {0}
IsFormRule rule.Pc = Unit {0}
IsFormRule rule.Sp = Unit {0}
IsFormRule rule.Store = Unit {0}
IsFormRule rule.Pop = Unit {0}
IsFormRule rule.Push = Unit {0}
IsFormRule rule.Spelled = Unit {0}
IsFormRule rule.Sr = Unit {0}
IsFormRule rule.Static = Unit {0}
IsFormRule rule.Target = ⊥
IsFormRule rule.Jump = ⊥
IsFormRule rule.End = ⊥
IsFormRule rule.Reloc = Unit {0}
IsFormRule rule.Entry = ⊥

-- they refuse no object with guards
abbrev pub FormRulesPass : Type 0
FormRulesPass = (o q : Object) → IsInserted o q → (r : Rule) (at : ℕ) → IsFormRule r → Refuses r q at → ⊥

-- the new place of a start is a unit start
pub record UnitAt (o q : Object) (t : ℕ) : Type 0 where
  pub place : ℕ
  pub unit : UnitStart q place
  pub is : place_map (fields o) (2 * t) ≡ 2 * place

abbrev pub StartsAreUnits : Type 0
StartsAreUnits = (o q : Object) → IsInserted o q → (t : ℕ) → Start o.code t → UnitAt o q t

-- the rule on the entry and the exports refuses no object with guards
abbrev pub EntryRulePasses : Type 0
EntryRulePasses = (o q : Object) → IsInserted o q → (at : ℕ) → Refuses rule.Entry q at → ⊥

-- so does the rule on branches and calls
abbrev pub TargetRulePasses : Type 0
TargetRulePasses = (o q : Object) → IsInserted o q → (at : ℕ) → Refuses rule.Target q at → ⊥

-- and that on the code's end
abbrev pub EndRulePasses : Type 0
EndRulePasses = (o q : Object) → IsInserted o q → (at : ℕ) → Refuses rule.End q at → ⊥

-- and that on jumps
abbrev pub JumpRulePasses : Type 0
JumpRulePasses = (o q : Object) → IsInserted o q → (at : ℕ) → Refuses rule.Jump q at → ⊥

-- no rule refuses an object with guards
abbrev pub NothingRefused : Type 0
NothingRefused = (o q : Object) → IsInserted o q → (at : ℕ) (r : Rule) → Refuses r q at → ⊥

-- so each verdict of it is an acceptance
abbrev pub VerdictAccepts : Type 0
VerdictAccepts = (o q : Object) → IsInserted o q → (v : Verdict) → IsVerdict q v → IsAcceptance v

-- the definition accepts an object, with some unit starts
abbrev pub IsAcceptable : Object → Type 0
IsAcceptable q = (units : List ℕ) × IsAccepted q units

-- so it does each object with guards
abbrev pub InsertedIsAccepted : Type 0
InsertedIsAccepted = (o q : Object) → IsInserted o q → IsAcceptable q

-- no instruction of it stands behind a load guard
abbrev pub HasNoLoads : Object → Type 0
HasNoLoads q = (at : ℕ) → Guarded q at guard.Load → ⊥

-- so it is in each object with guards
abbrev pub NoLoadGuards : Type 0
NoLoadGuards = (o q : Object) → IsInserted o q → HasNoLoads q
