-- The places that an object gets.
use Rattle.std.proofs.Common.{◌≡◌, ℕ, ◌%◌, sym, ap, ◌∙◌, subst, arith}
use Rattle.std.specs.Prelude.{Result, Ok, Err, IfOk, IfErr}
use Rattle.kernel_model.specs.Kernel.{Kernel}
use Rattle.code_model.specs.declared.object.Object.{Object}
use Rattle.kernel_model.specs.declared.kinds.Kind.{Kind}
use Rattle.place_model.specs.declared.places.Regions.{Regions}
use Rattle.place_model.specs.declared.places.NoRoom.{NoRoom}
use Rattle.place_model.specs.Placing.{placing, IsPlacing, IsInPools, IsRefusal}
use Rattle.place_model.specs.Settled.{IsSettledKernel}
use Rattle.load_model.specs.Domains.{code_length, region_length}
use Rattle.load_model.specs.Loading.{ArePlaces}

abbrev LowestLaw : Type 0
LowestLaw = (k : Kernel) (kind : Kind) (c l : ℕ) (r : Regions) → placing k kind c l ≡ Ok r → IsPlacing k kind c l r

abbrev InsideLaw : Type 0
InsideLaw = (k : Kernel) (kind : Kind) (c l : ℕ) (r : Regions) → placing k kind c l ≡ Ok r → IsInPools kind r

abbrev EvenLaw : Type 0
EvenLaw = (k : Kernel) (kind : Kind) (c l : ℕ) (r : Regions) → IsSettledKernel k → placing k kind c l ≡ Ok r → (r.code_lo % 2 ≡ 0) × (r.lo % 2 ≡ 0)

are_places : (k : Kernel) (o : Object) (r : Regions) → LowestLaw → InsideLaw → EvenLaw → IsSettledKernel k → region_length o % 2 ≡ 0
    → placing k o.kind (code_length o) (region_length o) ≡ Ok r → ArePlaces o r
are_places k o r low inside even s e p =
    let lowest : IsPlacing k o.kind (code_length o) (region_length o) r = low k o.kind (code_length o) (region_length o) r p in
    let pools : IsInPools o.kind r = inside k o.kind (code_length o) (region_length o) r p in
    let evens : (r.code_lo % 2 ≡ 0) × (r.lo % 2 ≡ 0) = even k o.kind (code_length o) (region_length o) r s p in
    record {
      number_from = pools.number_from;
      number_to = pools.number_to;
      code_even = evens.0;
      code_low = pools.code_from;
      code_length = lowest.code_end;
      code_high = pools.code_to;
      region_even = evens.1;
      end_even = omega (arith, evens.1, lowest.region_end, e);
      region_low = pools.region_from;
      region_length = lowest.region_end;
      region_high = pools.region_to;
    }

pub places_ok : (k : Kernel) (o : Object) (c l : ℕ) (result : Result Regions NoRoom) → result ≡ placing k o.kind c l → c ≡ code_length o
    → l ≡ region_length o → l % 2 ≡ 0 → LowestLaw → InsideLaw → EvenLaw → IsSettledKernel k → IfOk result (λ r. ArePlaces o r)
places_ok k o c l (Ok r) e same_c same_l even low inside evens s =
    are_places k o r low inside evens s (ap (λ n. n % 2) (sym same_l) ∙ even)
    (sym (e ∙ ap (λ n. placing k o.kind n l) same_c ∙ ap (λ n. placing k o.kind (code_length o) n) same_l))
places_ok k o c l (Err x) e same_c same_l even low inside evens s = tt

-- what is said of an answer for the lengths that were computed is said for the object's
lengths_same : (o : Object) (c l : ℕ) (P : (c l : ℕ) → Type 0) → c ≡ code_length o → l ≡ region_length o → P c l → P (code_length o) (region_length o)
lengths_same o c l P same_c same_l h = subst (λ (n : ℕ). P (code_length o) n) same_l (subst (λ (n : ℕ). P n l) same_c h)

pub lowest_same : (k : Kernel) (o : Object) (c l : ℕ) (result : Result Regions NoRoom) → c ≡ code_length o → l ≡ region_length o
    → IfOk result (λ r. IsPlacing k o.kind c l r) → IfOk result (λ r. IsPlacing k o.kind (code_length o) (region_length o) r)
lowest_same k o c l result = lengths_same o c l (λ x y. IfOk result (λ r. IsPlacing k o.kind x y r))

pub cause_same : (k : Kernel) (o : Object) (c l : ℕ) (result : Result Regions NoRoom) → c ≡ code_length o → l ≡ region_length o
    → IfErr result (λ e. IsRefusal k o.kind c l e) → IfErr result (λ e. IsRefusal k o.kind (code_length o) (region_length o) e)
cause_same k o c l result = lengths_same o c l (λ x y. IfErr result (λ e. IsRefusal k o.kind x y e))
