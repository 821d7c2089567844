-- The first fault of two sets.
use Rattle.std.proofs.Common.{◌↔◌, ℕ, ◌⊎◌, inl, inr, Option, None, Some, sym, subst, arith}
use Rattle.insert_model.specs.declared.fault.InsertKind.{InsertKind}
use Rattle.insert_model.specs.Faults.{Precedes}
use Rattle.source_faults.specs.declared.faults.Fault.{Fault}
use Rattle.source_faults.specs.Found.{IsFirstOf, IsLeast, IsLesser}

pub precedes_trans : (a : InsertKind) (x : ℕ) (b : InsertKind) (y : ℕ) (c : InsertKind) (z : ℕ) → Precedes a x b y → Precedes b y c z → Precedes a x c z
precedes_trans a x b y c z (inl h) (inl k) = inl (omega arith)
precedes_trans a x b y c z (inl h) (inr k) = inl (omega (arith, k.0))
precedes_trans a x b y c z (inr h) (inl k) = inl (omega (arith, h.0))
precedes_trans a x b y c z (inr h) (inr k) = inr (omega (arith, h.0, k.0), omega (arith, h.1, k.1))

pub least_same : (P Q : InsertKind → ℕ → Type 0) (r : Option Fault) → ((k : InsertKind) (x : ℕ) → P k x ↔ Q k x) → IsLeast P r → IsLeast Q r
least_same P Q None same h = λ k x q. h k x ((same k x).1 q)
least_same P Q (Some f) same h = record { hit = (same f.kind f.offset).0 h.hit; first = λ k x q. h.first k x ((same k x).1 q) }

abbrev Either : (P Q : InsertKind → ℕ → Type 0) → InsertKind → ℕ → Type 0
Either P Q k x = P k x ⊎ Q k x

none_or : (P Q : InsertKind → ℕ → Type 0) (b : Option Fault) → ((k : InsertKind) (x : ℕ) → P k x → ⊥) → IsLeast Q b → IsLeast (Either P Q) b
none_or P Q None none h = λ k x e. elim e [ inl p ↦ none k x p | inr q ↦ h k x q ]
none_or P Q (Some g) none h = record { hit = inr h.hit; first = λ k x e. elim e [ inl p ↦ absurd (none k x p) | inr q ↦ h.first k x q ] }

or_none : (P Q : InsertKind → ℕ → Type 0) (f : Fault) → IsFirstOf P f → ((k : InsertKind) (x : ℕ) → Q k x → ⊥) → IsFirstOf (Either P Q) f
or_none P Q f h none = record { hit = inl h.hit; first = λ k x e. elim e [ inl p ↦ h.first k x p | inr q ↦ absurd (none k x q) ] }

first_left : (P Q : InsertKind → ℕ → Type 0) (f g : Fault) → IsFirstOf P f → IsFirstOf Q g → Precedes f.kind f.offset g.kind g.offset → IsFirstOf (Either P Q) f
first_left P Q f g hf hg before = record {
  hit = inl hf.hit;
  first = λ k x e. elim e [ inl p ↦ hf.first k x p | inr q ↦ precedes_trans f.kind f.offset g.kind g.offset k x before (hg.first k x q) ];
}

first_right : (P Q : InsertKind → ℕ → Type 0) (f g : Fault) → IsFirstOf P f → IsFirstOf Q g → Precedes g.kind g.offset f.kind f.offset → IsFirstOf (Either P Q) g
first_right P Q f g hf hg before = record {
  hit = inr hg.hit;
  first = λ k x e. elim e [ inl p ↦ precedes_trans g.kind g.offset f.kind f.offset k x before (hf.first k x p) | inr q ↦ hg.first k x q ];
}

pub least_of : (P Q : InsertKind → ℕ → Type 0) (a b r : Option Fault) → IsLeast P a → IsLeast Q b → IsLesser a b r → IsLeast (λ k x. P k x ⊎ Q k x) r
least_of P Q None b r ha hb is = subst (IsLeast (Either P Q)) (sym is) (none_or P Q b ha hb)
least_of P Q (Some f) None r ha hb is = subst (IsLeast (Either P Q)) (sym is) (or_none P Q f ha hb)
least_of P Q (Some f) (Some g) r ha hb (inl x) = subst (IsLeast (Either P Q)) (sym x.0) (first_left P Q f g ha hb x.1)
least_of P Q (Some f) (Some g) r ha hb (inr x) = subst (IsLeast (Either P Q)) (sym x.0) (first_right P Q f g ha hb x.1)
