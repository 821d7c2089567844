-- MarkLemmas to marks.
use Rattle.std.proofs.Common.{◌↔◌, ℕ, List, ◌⊎◌, inl, inr}
use Rattle.kernel_model.specs.Bitmap.{Has}
use Rattle.static_checker.specs.Marked.{Adds}

pub adds_same : (old new : List ℕ) (P Q : ℕ → Type 0) → ((k : ℕ) → P k ↔ Q k) → Adds old new P → Adds old new Q
adds_same old new P Q same adds k = (go, back)
  where
    go : Has new k → Has old k ⊎ Q k
    go h = elim ((adds k).0 h) [ inl was ↦ inl was | inr added ↦ inr ((same k).0 added) ]

    back : Has old k ⊎ Q k → Has new k
    back (inl was) = (adds k).1 (inl was)
    back (inr added) = (adds k).1 (inr ((same k).1 added))

pub adds_none : (m : List ℕ) (P : ℕ → Type 0) → ((k : ℕ) → P k → ⊥) → Adds m m P
adds_none m P none k = ((λ h. inl h), back)
  where
    back : Has m k ⊎ P k → Has m k
    back (inl was) = was
    back (inr added) = absurd (none k added)
