-- A name that isn't there is put last.
use Rattle.std.proofs.Common.{◌≡◌, Bool, true, false, List, [], ◌∷◌, ◌++◌, Some, is_some, refl, ap, ◌∙◌, cond}
use Rattle.std.specs.Map.{lookup}
use Rattle.indexmap.specs.IndexMap.{insert_entry}
use Rattle.asm_model.specs.declared.name.Name.{Name}
use Rattle.asm_model.specs.declared.name.Value.{Value}
use Rattle.asm_model.specs.Names.{is_same_name, value_of}

put_last : (names : List (Name × Value)) (n : Name) (v : Value) → is_some (lookup (is_same_name n) names) ≡ false → insert_entry is_same_name names n v ≡ names ++ (n, v) ∷ []
put_last [] n v h = refl
put_last (e ∷ es) n v h =
    let P : Bool → Type 0 = λ b. is_some (cond b (Some e.1) (lookup (is_same_name n) es)) ≡ false → cond b ((e.0, v) ∷ es) (e ∷ insert_entry is_same_name es n v) ≡ e ∷ (es ++ (n, v) ∷ []) in
    let each : (b : Bool) → P b = λ b. elim b as P [ true ↦ λ k. absurd cc | false ↦ λ k. ap (λ rest. e ∷ rest) (put_last es n v k) ] in
    each (is_same_name n e.0) h

pub defined_last : (old entries new : List (Name × Value)) (n : Name) (v : Value) → entries ≡ old → new ≡ insert_entry is_same_name entries n v → is_some (value_of old n) ≡ false → new ≡ old ++ (n, v) ∷ []
unfolding value_of
defined_last old entries new n v same put none = put ∙ ap (λ es. insert_entry is_same_name es n v) same ∙ put_last old n v none
