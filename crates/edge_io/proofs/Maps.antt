-- Files by their names.
use Rattle.std.proofs.Common.{◌≡◌, ℕ, Bool, true, false, cond, List, ◌++◌, refl, sym, ◌∙◌, ap}
use Rattle.std.specs.Prelude.{None, Some}
use Rattle.std.specs.declared.option.Option.{Option}
use Rattle.std.specs.Ordering.{nat_cmp, eq_by_cmp}
use Rattle.std.specs.Cmp.{eq_by_cmp_equiv}
use Rattle.std.specs.Cmp.Lexicographic.{slice_cmp, nat_list_cmp_total}
use Rattle.std.specs.FinMap.{IsAntisymmetric, nat_cmp-IsAntisymmetric, slice_cmp-IsAntisymmetric, get, insert, get-insert, same_map}
use Rattle.edge_io.specs.Known.{Files, held, put, grown, extended}

pub names_differ : IsAntisymmetric (slice_cmp nat_cmp)
names_differ = slice_cmp-IsAntisymmetric nat_cmp-IsAntisymmetric

-- a name that was given bytes holds them
pub held-insert : (m : Files) (name bytes : List ℕ) → held (insert m name bytes) name ≡ Some bytes
held-insert m name bytes =
    get-insert nat_list_cmp_total m name bytes name ∙ ap (λ b. cond b (Some bytes) (get m name)) ((eq_by_cmp_equiv nat_list_cmp_total).refl name)

later : {A : Type 0} (b : Bool) (x y z : A) → cond b x (cond b y z) ≡ cond b x z
later true x y z = refl
later false x y z = refl

-- the later bytes count
pub insert_twice : (m : Files) (name xs ys : List ℕ) → insert (insert m name xs) name ys ≡ insert m name ys
insert_twice m name xs ys =
    same_map nat_list_cmp_total names_differ _ _ (λ q. get-insert nat_list_cmp_total (insert m name xs) name ys q ∙ ap (cond (eq_by_cmp (slice_cmp nat_cmp) q name) (Some ys)) (get-insert nat_list_cmp_total m name xs q) ∙ later (eq_by_cmp (slice_cmp nat_cmp) q name) (Some ys) (Some xs) (get m q) ∙ sym (get-insert nat_list_cmp_total m name ys q))

pub grown-insert : (m : Files) (name xs ys : List ℕ) → grown (insert m name xs) (held (insert m name xs) name) name ys ≡ insert m name (xs ++ ys)
grown-insert m name xs ys =
    ap (λ o. grown (insert m name xs) o name ys) (held-insert m name xs) ∙ insert_twice m name xs (xs ++ ys)

-- what is appended to a file just written is written
pub extended-put : (f : Option Files) (name xs ys : List ℕ) → extended (put f name xs) name ys ≡ put f name (xs ++ ys)
extended-put None name xs ys = refl
extended-put (Some m) name xs ys = ap Some (grown-insert m name xs ys)
