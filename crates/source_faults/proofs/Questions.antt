-- Questions in a row.
use Rattle.std.proofs.Common.{◌≡◌, ◌↔◌, ◌≤◌, ◌⊎◌, inl, inr, Bool, true, false, IsTrue, arith}
use Rattle.code_model.specs.declared.object.Object.{Object}
use Rattle.insert_model.specs.declared.fault.InsertKind.{InsertKind}
use Rattle.insert_model.specs.declared.fault.InsertKind.TheVariants.{NotDecoded, UsesCheckRegister, Forbidden, BadTarget, TooLarge}
use Rattle.insert_model.specs.declared.line.Line.{Line}
use Rattle.insert_model.specs.Faults.{number, LineHas, UsesCheck, IsForbidden}

pub not_so : (b : Bool) (P : Type 0) → IsTrue b ↔ P → b ≡ false → P → ⊥
not_so true P is e p = cc
not_so false P is e p = let f : false ≡ true = is.1 p in cc

pub last_of_four : (A B C D : Type 0) (d : Bool) → (A → ⊥) → (B → ⊥) → (C → ⊥) → IsTrue d ↔ D → IsTrue d ↔ (A ⊎ (B ⊎ (C ⊎ D)))
last_of_four A B C D d na nb nc is = ((λ h. inr (inr (inr (is.0 h)))), back)
  where
    back : A ⊎ (B ⊎ (C ⊎ D)) → IsTrue d
    back (inl a) = absurd (na a)
    back (inr (inl b)) = absurd (nb b)
    back (inr (inr (inl c))) = absurd (nc c)
    back (inr (inr (inr h))) = is.1 h

pub no_lesser : (o : Object) (l : Line) → (UsesCheck l.instr → ⊥) → (IsForbidden l → ⊥) → (j : InsertKind) → LineHas j o l → 4 ≤ number j
no_lesser o l free clean NotDecoded h = absurd h
no_lesser o l free clean UsesCheckRegister h = absurd (free h)
no_lesser o l free clean Forbidden h = absurd (clean h)
no_lesser o l free clean BadTarget h = omega arith
no_lesser o l free clean TooLarge h = omega arith
