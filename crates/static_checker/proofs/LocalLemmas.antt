-- The rules that an instruction and what is before it decide.
use Rattle.std.proofs.Common.{◌≡◌, ◌⊎◌, ◌↔◌, ℕ, ◌+◌, ◌≤◌, ◌<◌, inl, inr, length, Option, None, Some, Bool, IsTrue, refl, sym, ap, subst, ◌∙◌, arith}
use Rattle.std.proofs.Math.Nat.{eq-or-lt_of_le}
use Rattle.std.proofs.lemmas.Bool.{cases_lt, cases_order}
use Rattle.msp_encode.specs.declared.instr.Dst.TheVariants as dst
use Rattle.msp_encode.specs.declared.instr.Instr.{Instr}
use Rattle.msp_encode.specs.declared.instr.Instr.TheVariants as instr
use Rattle.code_model.specs.declared.object.Object.{Object}
use Rattle.code_model.specs.declared.guards.GuardKind.{GuardKind}
use Rattle.code_model.specs.declared.rules.Rule.{Rule}
use Rattle.code_model.specs.declared.rules.Rule.TheVariants as rule
use Rattle.code_model.specs.Starts.{Start}
use Rattle.code_model.specs.Guards.{Guarded, Own}
use Rattle.code_model.specs.Rules.{number, IsGuardedStore, Breaks, BreaksAt, HasWrongReloc, Refuses}
use Rattle.code_model.specs.Verdicts.{Precedes}
use Rattle.code_laws.proofs.Numbers.{same_rule}
use Rattle.code_laws.proofs.Starting.{starts_apart}
use Rattle.static_checker.specs.declared.cursor.Cursor.{Cursor}
use Rattle.static_checker.specs.declared.spot.Spot.{Spot}
use Rattle.static_checker.specs.declared.code_units.CodeUnit.{CodeUnit}
use Rattle.static_checker.specs.Cursors.{IsCursor}
use Rattle.static_checker.specs.Spots.{IsStartSpot}
use Rattle.static_checker.specs.Firsts.{IsLocal, IsFirst, NoneIn, IsFirstRule, NoneBelow}
use Rattle.static_checker.specs.CodeUnits.{IsGuardOf, IsStoreGuard, IsUnitSpot, IsPlain}
use Rattle.static_checker.proofs.Guarding.{instr_of, words_of}
use Rattle.static_checker.proofs.CursorLemmas.{no_reloc_between}
use Rattle.static_checker.proofs.FirstLemmas.{none_below, number_most}

-- ---- an instruction that breaks a rule refuses

guard_of : (o : Object) (at : ℕ) (x : Option GuardKind) → IsGuardOf o at x → (g : GuardKind) → Guarded o at g ↔ (x ≡ Some g)
unfolding IsGuardOf
guard_of o at x is = is

-- what a guard serves, by the guard that was found
pub by_guard : (o : Object) (at : ℕ) (x : Option GuardKind) (g : GuardKind) (P : Type 0) (b : Bool) → IsGuardOf o at x
    → IsTrue b ↔ (P × (x ≡ Some g → ⊥)) → IsTrue b ↔ (P × (Guarded o at g → ⊥))
by_guard o at x g P b is iff = (
  (λ h. ((iff.0 h).0, λ guarded. (iff.0 h).1 ((guard_of o at x is g).0 guarded))),
  (λ h. iff.1 (h.0, λ e. h.1 ((guard_of o at x is g).1 e))),
)

store_guard : (o : Object) (at : ℕ) (x : Option GuardKind) → IsGuardOf o at x → IsGuardedStore o at → IsStoreGuard x
unfolding IsGuardedStore
store_guard o at x is (g, (keeps, guarded)) = subst (λ (y : Option GuardKind). IsStoreGuard y) (sym ((guard_of o at x is g).0 guarded)) keeps

guarded_store : (o : Object) (at : ℕ) (x : Option GuardKind) → IsGuardOf o at x → IsStoreGuard x → IsGuardedStore o at
unfolding IsGuardedStore
guarded_store o at None is keeps = absurd keeps
guarded_store o at (Some g) is keeps = (g, (keeps, (guard_of o at (Some g) is g).1 refl))

-- the rule on stores, by the guard that was found
pub by_store_guard : (o : Object) (at : ℕ) (x : Option GuardKind) (P : Type 0) (b : Bool) → IsGuardOf o at x
    → IsTrue b ↔ (P × (IsStoreGuard x → ⊥)) → IsTrue b ↔ (P × (IsGuardedStore o at → ⊥))
by_store_guard o at x P b is iff = (
  (λ h. ((iff.0 h).0, λ guarded. (iff.0 h).1 (store_guard o at x is guarded))),
  (λ h. iff.1 (h.0, λ keeps. h.1 (guarded_store o at x is keeps))),
)

pub as_rule : (r q : Rule) (o : Object) (at n : ℕ) (i : Instr) (b : Bool) → r ≡ q → IsTrue b ↔ Breaks q o at i n → IsTrue b ↔ Breaks r o at i n
as_rule r q o at n i b e iff = subst (λ (x : Rule). IsTrue b ↔ Breaks x o at i n) (sym e) iff

pub local_of : (r : Rule) → (r ≡ rule.Spelled → ⊥) → (r ≡ rule.Target → ⊥) → (r ≡ rule.Jump → ⊥) → (r ≡ rule.Entry → ⊥) → IsLocal r
local_of rule.Spelled a b c d = a refl
local_of rule.Reti a b c d = tt
local_of rule.Pc a b c d = tt
local_of rule.Sp a b c d = tt
local_of rule.Sr a b c d = tt
local_of rule.Store a b c d = tt
local_of rule.Static a b c d = tt
local_of rule.Pop a b c d = tt
local_of rule.Push a b c d = tt
local_of rule.Target a b c d = b refl
local_of rule.Jump a b c d = c refl
local_of rule.End a b c d = tt
local_of rule.Reloc a b c d = tt
local_of rule.Entry a b c d = d refl

pub reloc_refuses : (r : Rule) (o : Object) (at : ℕ) (b : Bool) → r ≡ rule.Reloc → IsTrue b ↔ HasWrongReloc o (at + 0) → IsTrue b ↔ (IsLocal r × Refuses r o at)
reloc_refuses r o at b e iff =
    let same : at + 0 ≡ at = omega arith in
    let here : IsTrue b ↔ HasWrongReloc o at = subst (λ (n : ℕ). IsTrue b ↔ HasWrongReloc o n) same iff in
    let there : IsTrue b ↔ (IsLocal rule.Reloc × Refuses rule.Reloc o at) = ((λ h. (tt, here.0 h)), (λ x. here.1 x.1)) in
    subst (λ (q : Rule). IsTrue b ↔ (IsLocal q × Refuses q o at)) (sym e) there

breaks_at : (r : Rule) (o : Object) (s : Spot) (b : Bool) → IsStartSpot o.code s → IsTrue b ↔ Breaks r o s.at s.instr s.words → IsTrue b ↔ BreaksAt r o s.at
breaks_at r o s b is iff = (
  (λ h. record { start = is.start; instr = s.instr; words = s.words; stands = is.is.stands; breaks = iff.0 h }),
  (λ x. iff.1 (subst (λ (i : Instr). Breaks r o s.at i s.words) (instr_of o.code s x.instr x.words is x.stands)
      (subst (λ (n : ℕ). Breaks r o s.at x.instr n) (words_of o.code s x.instr x.words is x.stands) x.breaks))),
)

free_at : (r : Rule) (o : Object) (at : ℕ) (b : Bool) → (Own o at → ⊥) → IsTrue b ↔ BreaksAt r o at → IsTrue b ↔ (Unit {0} × ((Own o at → ⊥) × BreaksAt r o at))
free_at r o at b free iff = ((λ h. (tt, (free, iff.0 h))), (λ x. iff.1 x.1.1))

all_at : (r : Rule) (o : Object) (at : ℕ) (b : Bool) → IsTrue b ↔ BreaksAt r o at → IsTrue b ↔ (Unit {0} × BreaksAt r o at)
all_at r o at b iff = ((λ h. (tt, iff.0 h)), (λ x. iff.1 x.1))

-- a rule on instructions, by what the instruction breaks
pub refuses_here : (r : Rule) (o : Object) (p : CodeUnit) (b : Bool) → IsUnitSpot o p → (r ≡ rule.Reloc → ⊥) → IsLocal r → IsTrue b ↔ Breaks r o p.spot.at p.spot.instr p.spot.words
    → IsTrue b ↔ (IsLocal r × Refuses r o p.spot.at)
refuses_here rule.Spelled o p b here other local iff = absurd local
refuses_here rule.Reti o p b here other local iff = all_at rule.Reti o p.spot.at b (breaks_at rule.Reti o p.spot b here.is iff)
refuses_here rule.Pc o p b here other local iff = free_at rule.Pc o p.spot.at b here.free (breaks_at rule.Pc o p.spot b here.is iff)
refuses_here rule.Sp o p b here other local iff = free_at rule.Sp o p.spot.at b here.free (breaks_at rule.Sp o p.spot b here.is iff)
refuses_here rule.Sr o p b here other local iff = free_at rule.Sr o p.spot.at b here.free (breaks_at rule.Sr o p.spot b here.is iff)
refuses_here rule.Store o p b here other local iff = free_at rule.Store o p.spot.at b here.free (breaks_at rule.Store o p.spot b here.is iff)
refuses_here rule.Static o p b here other local iff = free_at rule.Static o p.spot.at b here.free (breaks_at rule.Static o p.spot b here.is iff)
refuses_here rule.Pop o p b here other local iff = free_at rule.Pop o p.spot.at b here.free (breaks_at rule.Pop o p.spot b here.is iff)
refuses_here rule.Push o p b here other local iff = free_at rule.Push o p.spot.at b here.free (breaks_at rule.Push o p.spot b here.is iff)
refuses_here rule.Target o p b here other local iff = absurd local
refuses_here rule.Jump o p b here other local iff = absurd local
refuses_here rule.End o p b here other local iff = all_at rule.End o p.spot.at b (breaks_at rule.End o p.spot b here.is iff)
refuses_here rule.Reloc o p b here other local iff = absurd (other refl)
refuses_here rule.Entry o p b here other local iff = absurd local

-- ---- the words of an instruction

no_start_in : (o : Object) (s : Spot) (k : ℕ) → IsStartSpot o.code s → s.at < k → k < s.at + s.words → Start o.code k → ⊥
no_start_in o s k is low high t = omega (arith, starts_apart o.code s.at k s.instr s.words is.start is.is.stands t low)

-- but for that on relocations, what these rules refuse is an instruction that breaks them
breaks_or : (r : Rule) (o : Object) (k : ℕ) → IsLocal r → (r ≡ rule.Reloc → ⊥) → Refuses r o k → BreaksAt r o k
breaks_or rule.Spelled o k local other x = absurd local
breaks_or rule.Reti o k local other x = x
breaks_or rule.Pc o k local other x = x.1
breaks_or rule.Sp o k local other x = x.1
breaks_or rule.Sr o k local other x = x.1
breaks_or rule.Store o k local other x = x.1
breaks_or rule.Static o k local other x = x.1
breaks_or rule.Pop o k local other x = x.1
breaks_or rule.Push o k local other x = x.1
breaks_or rule.Target o k local other x = absurd local
breaks_or rule.Jump o k local other x = absurd local
breaks_or rule.End o k local other x = x
breaks_or rule.Reloc o k local other x = absurd (other refl)
breaks_or rule.Entry o k local other x = absurd local

is_reloc : (r : Rule) → (r ≡ rule.Reloc) ⊎ (r ≡ rule.Reloc → ⊥)
is_reloc r = elim (cases_order (number r) 13) [
  | inl same ↦ inl (same_rule r rule.Reloc same)
  | inr other ↦ inr (λ e. elim other [ inl less ↦ omega (arith, ap number e) | inr more ↦ omega (arith, ap number e) ])
]

-- behind an instruction's first word only a relocation is refused
reloc_in : (o : Object) (s : Spot) (k : ℕ) (r : Rule) → IsStartSpot o.code s → s.at < k → k < s.at + s.words → IsLocal r → Refuses r o k → r ≡ rule.Reloc
reloc_in o s k r is low high local x =
    elim (is_reloc r) [ inl same ↦ same | inr other ↦ absurd (no_start_in o s k is low high (breaks_or r o k local other x).start) ]

only_reloc : (o : Object) (s : Spot) (k : ℕ) (r : Rule) → IsStartSpot o.code s → s.at < k → k < s.at + s.words → IsLocal r → Refuses r o k → HasWrongReloc o k
only_reloc o s k r is low high local x = subst (λ (q : Rule). Refuses q o k) (reloc_in o s k r is low high local x) x

pub none_at_spot : (o : Object) (at : ℕ) → NoneBelow o IsLocal at 15 → NoneIn o IsLocal at (at + 1)
unfolding NoneIn
none_at_spot o at none b s low high local refused =
    let same : b ≡ at = omega arith in
    none_below o IsLocal at 15 s none (omega (arith, number_most s)) local (subst (λ (n : ℕ). Refuses s o n) same refused)

-- one more word without a relocation that it may not have
pub one_word : (o : Object) (s : Spot) (m : ℕ) → IsStartSpot o.code s → 0 < m → m < s.words → NoneIn o IsLocal s.at (s.at + m) → (HasWrongReloc o (s.at + m) → ⊥) → NoneIn o IsLocal s.at (s.at + (m + 1))
unfolding NoneIn
one_word o s m is least inside none right b r low high local refused =
    elim (cases_lt b (s.at + m)) [
      | inl before ↦ none b r low before local refused
      | inr more ↦ let same : b ≡ s.at + m = omega arith in
          right (only_reloc o s (s.at + m) r is (omega arith) (omega arith) local (subst (λ (n : ℕ). Refuses r o n) same refused))
    ]

pub none_to : (o : Object) (low high end : ℕ) → high ≡ end → NoneIn o IsLocal low high → NoneIn o IsLocal low end
none_to o low high end e = subst (λ (n : ℕ). NoneIn o IsLocal low n) e

pub wrong_first : (o : Object) (s : Spot) (m at : ℕ) → IsStartSpot o.code s → 0 < m → m < s.words → at ≡ s.at + m → NoneIn o IsLocal s.at (s.at + m) → HasWrongReloc o (s.at + m)
    → IsFirst o IsLocal s.at (s.at + s.words) (record { at = at; rule = rule.Reloc })
unfolding NoneIn
wrong_first o s m at is least inside e none wrong = record {
  within = omega arith;
  of_these = tt;
  refuses = subst (λ (n : ℕ). HasWrongReloc o n) (sym e) wrong;
  first = first;
}
  where
    last : (r : Rule) → IsLocal r → Refuses r o (s.at + m) → 13 ≤ number r
    last r local x = omega (arith, ap number (reloc_in o s (s.at + m) r is (omega arith) (omega arith) local x))

    first : (b : ℕ) (r : Rule) → s.at ≤ b → b < s.at + s.words → IsLocal r → Refuses r o b → Precedes at rule.Reloc b r
    first b r low high local refused =
        elim (cases_order at b) [
          | inl same ↦ inr (same, last r local (subst (λ (n : ℕ). Refuses r o n) (sym same ∙ e) refused))
          | inr other ↦ elim other [ inl less ↦ inl less | inr more ↦ absurd (none b r low (omega arith) local refused) ]
        ]

pub rule_first : (o : Object) (s : Spot) (at : ℕ) (r : Rule) → at ≡ s.at → 1 ≤ s.words → IsFirstRule o IsLocal s.at r → IsFirst o IsLocal s.at (s.at + s.words) (record { at = at; rule = r })
rule_first o s at r e least is = record {
  within = omega arith;
  of_these = is.of_these;
  refuses = subst (λ (n : ℕ). Refuses r o n) (sym e) is.refuses;
  first = λ b q low high local refused.
      elim (eq-or-lt_of_le low) [
        | inl same ↦ inr (e ∙ same, is.first q local (subst (λ (n : ℕ). Refuses q o n) (sym same) refused))
        | inr less ↦ inl (omega arith)
      ];
}

-- ---- instructions that no rule is about

no_plain_break : (o : Object) (at n : ℕ) (i : Instr) (r : Rule) → IsPlain i → at + n < length o.code → IsLocal r → Breaks r o at i n → ⊥
no_plain_break o at n (instr.Two op w s (dst.Reg k)) rule.Spelled plain inside local b = local
no_plain_break o at n (instr.Two op w s (dst.Reg k)) rule.Reti plain inside local b = b
no_plain_break o at n (instr.Two op w s (dst.Reg k)) rule.Pc plain inside local b = omega (arith, plain.0, b.0.1)
no_plain_break o at n (instr.Two op w s (dst.Reg k)) rule.Sp plain inside local b = omega (arith, plain.0, b.0.1)
no_plain_break o at n (instr.Two op w s (dst.Reg k)) rule.Sr plain inside local b = omega (arith, plain.0, b.0.1)
no_plain_break o at n (instr.Two op w s (dst.Reg k)) rule.Store plain inside local b = b.0.1
no_plain_break o at n (instr.Two op w s (dst.Reg k)) rule.Static plain inside local b = b.1
no_plain_break o at n (instr.Two op w s (dst.Reg k)) rule.Pop plain inside local b = plain.1 b.0
no_plain_break o at n (instr.Two op w s (dst.Reg k)) rule.Push plain inside local b = b.0
no_plain_break o at n (instr.Two op w s (dst.Reg k)) rule.Target plain inside local b = local
no_plain_break o at n (instr.Two op w s (dst.Reg k)) rule.Jump plain inside local b = local
no_plain_break o at n (instr.Two op w s (dst.Reg k)) rule.End plain inside local b = omega (arith, b.0)
no_plain_break o at n (instr.Two op w s (dst.Reg k)) rule.Reloc plain inside local b = b
no_plain_break o at n (instr.Two op w s (dst.Reg k)) rule.Entry plain inside local b = local
no_plain_break o at n (instr.Two op w s (dst.Indexed k x)) r plain inside local b = plain
no_plain_break o at n (instr.Two op w s (dst.Symbolic x)) r plain inside local b = plain
no_plain_break o at n (instr.Two op w s (dst.Absolute x)) r plain inside local b = plain
no_plain_break o at n (instr.One op w s) r plain inside local b = plain
no_plain_break o at n instr.Reti r plain inside local b = plain
no_plain_break o at n (instr.Jump c k) rule.Spelled plain inside local b = local
no_plain_break o at n (instr.Jump c k) rule.Reti plain inside local b = b
no_plain_break o at n (instr.Jump c k) rule.Pc plain inside local b = b.0
no_plain_break o at n (instr.Jump c k) rule.Sp plain inside local b = b.0
no_plain_break o at n (instr.Jump c k) rule.Sr plain inside local b = b.0
no_plain_break o at n (instr.Jump c k) rule.Store plain inside local b = b.0
no_plain_break o at n (instr.Jump c k) rule.Static plain inside local b = b
no_plain_break o at n (instr.Jump c k) rule.Pop plain inside local b = b.0
no_plain_break o at n (instr.Jump c k) rule.Push plain inside local b = b.0
no_plain_break o at n (instr.Jump c k) rule.Target plain inside local b = local
no_plain_break o at n (instr.Jump c k) rule.Jump plain inside local b = local
no_plain_break o at n (instr.Jump c k) rule.End plain inside local b = omega (arith, b.0)
no_plain_break o at n (instr.Jump c k) rule.Reloc plain inside local b = b
no_plain_break o at n (instr.Jump c k) rule.Entry plain inside local b = local

-- where no relocation stands on the words of such an instruction, and it doesn't end the code, nothing is refused
pub clean : (o : Object) (s : Spot) (c d : Cursor) → IsStartSpot o.code s → IsPlain s.instr → s.at + s.words < length o.code
    → IsCursor o.relocs c → c.at ≡ s.at → IsCursor o.relocs d → d.at ≡ s.at + s.words → d.reloc ≡ c.reloc → NoneIn o IsLocal s.at (s.at + s.words)
unfolding NoneIn
clean o s c d is plain inside from c_at to d_at same b r low high local refused =
    elim (eq-or-lt_of_le low) [
      | inl here ↦ at_spot r local (subst (λ (n : ℕ). Refuses r o n) (sym here) refused)
      | inr less ↦ right b low high (only_reloc o s b r is less high local refused)
    ]
  where
    right : (k : ℕ) → s.at ≤ k → k < s.at + s.words → HasWrongReloc o k → ⊥
    right k low high wrong = no_reloc_between o c d k wrong.kind from to same (omega arith) (omega arith) wrong.has

    breaks : (q : Rule) → IsLocal q → BreaksAt q o s.at → ⊥
    breaks q local x =
        no_plain_break o s.at s.words s.instr q plain inside local
        (subst (λ (i : Instr). Breaks q o s.at i s.words) (instr_of o.code s x.instr x.words is x.stands)
        (subst (λ (n : ℕ). Breaks q o s.at x.instr n) (words_of o.code s x.instr x.words is x.stands) x.breaks))

    at_spot : (q : Rule) → IsLocal q → Refuses q o s.at → ⊥
    at_spot q local x =
        elim (is_reloc q) [
          | inl same ↦ right s.at (omega arith) (omega (arith, is.is.least)) (subst (λ (r : Rule). Refuses r o s.at) same x)
          | inr other ↦ breaks q local (breaks_or q o s.at local other x)
        ]
