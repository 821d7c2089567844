-- Laws of generated objects.
use Rattle.std.specs.Prelude.{◌≡◌, ℕ, ◌≤◌, List, [], ◌∷◌, length, Err}
use Rattle.code_model.specs.declared.object.Object.{Object}
use Rattle.code_model.specs.Fields.{fields}
use Rattle.gen_model.specs.Generated.{generated}
use Rattle.insert_model.specs.declared.fault.InsertKind.{InsertKind}
use Rattle.insert_model.specs.Faults.{IsFault, IsInserted}
use Rattle.node_model.specs.Booting.{booted, Refusal}

-- a generated object has no fault
abbrev pub NeverRefused : Type 0
NeverRefused = (n : ℕ) (o : Object) → fields o ≡ generated n → (k : InsertKind) (x : ℕ) → IsFault o k x → ⊥

-- the object with guards that is made of it has at most so many code words
abbrev pub StaysSmall : Type 0
StaysSmall = (n : ℕ) (o q : Object) → fields o ≡ generated n → IsInserted o q → length q.code ≤ 7664

-- and there is room for it on a node that has no other object
abbrev pub HasRoom : Type 0
HasRoom = (n : ℕ) (o q : Object) (units : List ℕ) → fields o ≡ generated n → IsInserted o q → (e : Refusal)
    → booted (record { object = q; units = units } ∷ []) ≡ Err e → ⊥
