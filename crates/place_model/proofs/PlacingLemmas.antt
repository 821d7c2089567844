-- What placing answers.
use Rattle.std.proofs.Common.{◌≡◌, ℕ, ◌+◌, ◌-◌, ◌%◌, ◌<◌, ◌≤◌, false, List, refl, ap, sym, subst, ⊎_elim, inl, inr, Option, Some, None, Result, Ok, Err, arith}
use Rattle.std.proofs.lemmas.Bool.{cases_lt, both_ways}
use Rattle.kernel_model.specs.declared.map.TheConstants.{CODE_POOL, CODE_POOL_END, DATA_POOL, DATA_POOL_END}
use Rattle.kernel_model.specs.declared.kinds.Kind.{Kind}
use Rattle.kernel_model.specs.Kernel.{Kernel}
use Rattle.place_model.specs.declared.places.Range.{Range}
use Rattle.place_model.specs.declared.places.Pool.TheVariants.{Code, Data}
use Rattle.place_model.specs.declared.places.DomainRow.{DomainRow}
use Rattle.place_model.specs.declared.places.Regions.{Regions}
use Rattle.place_model.specs.declared.places.NoRoom.{NoRoom}
use Rattle.place_model.specs.Gaps.{taken, place_in, IsPlace}
use Rattle.place_model.specs.Placing.{domain_rows, pool_range, ranges, code_ranges, region_ranges, free_number, first_number, number_count, with_region, with_code, with_number, placing, IsLeastFree, IsPlacing, IsInPools, HasNumber, HasCodePlace, IsRefusal}
use Rattle.place_model.specs.Settled.{AreApart}
use Rattle.place_model.proofs.Members.{In}
use Rattle.place_model.proofs.GapLemmas.{Holder, taken_by, taken_from, holds_parts}
use Rattle.place_model.proofs.PlaceLemmas.{place_right, gap_right}
use Rattle.place_model.proofs.NumberLemmas.{least_free, none_free}

-- ---- an answer, taken apart

given : Regions → Result Regions NoRoom → Regions
given d (Ok r) = r
given d (Err e) = d

is_given : Result Regions NoRoom → Type 0
is_given (Ok r) = Unit
is_given (Err e) = ⊥

region_part : (n code c l : ℕ) (p : Result ℕ ℕ) (r : Regions) → with_region n code c l p ≡ Ok r
    → (at : ℕ) × (p ≡ Ok at) × ((let q : Regions = record { dom = n; code_lo = code; code_hi = code + c; lo = at; hi = at + l } in q) ≡ r)
unfolding given is_given
region_part n code c l (Ok at) r h = (at, refl, ap (given r) h)
region_part n code c l (Err gap) r h = absurd (subst is_given (sym h) tt)

code_part : (rows : List DomainRow) (n c l : ℕ) (p : Result ℕ ℕ) (r : Regions) → with_code rows n c l p ≡ Ok r
    → (code : ℕ) × (p ≡ Ok code) × (with_region n code c l (place_in (pool_range Data) (ranges Data rows) l) ≡ Ok r)
unfolding is_given
code_part rows n c l (Ok code) r h = (code, refl, h)
code_part rows n c l (Err gap) r h = absurd (subst is_given (sym h) tt)

number_part : (rows : List DomainRow) (c l : ℕ) (o : Option ℕ) (r : Regions) → with_number rows c l o ≡ Ok r
    → (n : ℕ) × (o ≡ Some n) × (with_code rows n c l (place_in (pool_range Code) (ranges Code rows) c) ≡ Ok r)
unfolding is_given
number_part rows c l (Some n) r h = (n, refl, h)
number_part rows c l None r h = absurd (subst is_given (sym h) tt)

pub placing_is : (k : Kernel) (kind : Kind) (c l : ℕ) (r : Regions) → placing k kind c l ≡ Ok r → IsPlacing k kind c l r
placing_is k kind c l r h =
    let a = number_part (domain_rows k) c l (free_number (domain_rows k) kind) r h in
    let b = code_part (domain_rows k) a.0 c l (place_in (pool_range Code) (code_ranges k) c) r a.2 in
    let d = region_part a.0 b.0 c l (place_in (pool_range Data) (region_ranges k) l) r b.2 in
    subst (λ (q : Regions). IsPlacing k kind c l q) d.2 (record {
      number = a.1;
      code = place_right (pool_range Code) (code_ranges k) c b.0 b.1;
      code_end = refl;
      region = place_right (pool_range Data) (region_ranges k) l d.0 d.1;
      region_end = refl;
    })

-- ---- a refusal

cause : NoRoom → Result Regions NoRoom → NoRoom
cause d (Ok r) = d
cause d (Err e) = e

region_refused : (k : Kernel) (kind : Kind) (n code c l : ℕ) (p : Result ℕ ℕ) (e : NoRoom) → HasNumber k kind → HasCodePlace k c
    → place_in (pool_range Data) (region_ranges k) l ≡ p → with_region n code c l p ≡ Err e → IsRefusal k kind c l e
unfolding cause is_given
region_refused k kind n code c l (Ok at) e number place q h = absurd (subst is_given h tt)
region_refused k kind n code c l (Err gap) e number place q h =
    subst (λ (x : NoRoom). IsRefusal k kind c l x) (ap (cause e) h) (number, place, refl, gap_right (pool_range Data) (region_ranges k) l gap q)

code_refused : (k : Kernel) (kind : Kind) (n c l : ℕ) (p : Result ℕ ℕ) (e : NoRoom) → HasNumber k kind
    → place_in (pool_range Code) (code_ranges k) c ≡ p → with_code (domain_rows k) n c l p ≡ Err e → IsRefusal k kind c l e
unfolding cause
code_refused k kind n c l (Ok code) e number q h =
    region_refused k kind n code c l (place_in (pool_range Data) (region_ranges k) l) e number
    (code, place_right (pool_range Code) (code_ranges k) c code q) refl h
code_refused k kind n c l (Err gap) e number q h =
    subst (λ (x : NoRoom). IsRefusal k kind c l x) (ap (cause e) h) (number, refl, gap_right (pool_range Code) (code_ranges k) c gap q)

number_refused : (k : Kernel) (kind : Kind) (c l : ℕ) (o : Option ℕ) (e : NoRoom) → free_number (domain_rows k) kind ≡ o
    → with_number (domain_rows k) c l o ≡ Err e → IsRefusal k kind c l e
unfolding cause
number_refused k kind c l (Some n) e q h =
    code_refused k kind n c l (place_in (pool_range Code) (code_ranges k) c) e
    (n, least_free (domain_rows k) (first_number kind) (number_count kind) n q) refl h
number_refused k kind c l None e q h =
    subst (λ (x : NoRoom). IsRefusal k kind c l x) (ap (cause e) h) (none_free (domain_rows k) (first_number kind) (number_count kind) q)

pub refusal_is : (k : Kernel) (kind : Kind) (c l : ℕ) (e : NoRoom) → placing k kind c l ≡ Err e → IsRefusal k kind c l e
refusal_is k kind c l e h = number_refused k kind c l (free_number (domain_rows k) kind) e refl h

-- ---- where places lie

pub place_inside : (pool : Range) (rs : List Range) (need at : ℕ) → pool.from ≤ pool.to → IsPlace pool rs need at → (pool.from ≤ at) × (at + need ≤ pool.to)
place_inside pool rs need at up (inl h) = (omega (arith, h.1), omega (arith, h.0, h.1))
place_inside pool rs need at up (inr h) = (h.1.gap.from_inside, omega (arith, h.1.fits, h.1.gap.to_inside))

pub chosen : (k : Kernel) (kind : Kind) (n : ℕ) → free_number (domain_rows k) kind ≡ Some n → IsLeastFree (domain_rows k) (first_number kind) (number_count kind) n
chosen k kind n h = least_free (domain_rows k) (first_number kind) (number_count kind) n h

pub placing_inside : (k : Kernel) (kind : Kind) (c l : ℕ) (r : Regions) → placing k kind c l ≡ Ok r → IsInPools kind r
placing_inside k kind c l r h =
    let p : IsPlacing k kind c l r = placing_is k kind c l r h in
    let n : IsLeastFree (domain_rows k) (first_number kind) (number_count kind) r.dom = chosen k kind r.dom p.number in
    let code : (CODE_POOL ≤ r.code_lo) × (r.code_lo + c ≤ CODE_POOL_END) = place_inside (pool_range Code) (code_ranges k) c r.code_lo (omega arith) p.code in
    let region : (DATA_POOL ≤ r.lo) × (r.lo + l ≤ DATA_POOL_END) = place_inside (pool_range Data) (region_ranges k) l r.lo (omega arith) p.region in
    record {
      number_from = n.from;
      number_to = n.to;
      code_from = code.0;
      code_up = omega (arith, p.code_end);
      code_to = omega (arith, p.code_end, code.1);
      region_from = region.0;
      region_up = omega (arith, p.region_end);
      region_to = omega (arith, p.region_end, region.1);
    }

-- a place shares no address with a range
pub place_apart : (pool : Range) (rs : List Range) (need at end : ℕ) (s : Range) → end ≡ at + need → IsPlace pool rs need at → In s rs → AreApart (record { from = at; to = end }) s
place_apart pool rs need at end s e (inl h) i = λ x a b. (let p = holds_parts x (record { from = at; to = end }) a in omega (arith, h.0, p.0, p.1))
place_apart pool rs need at end s e (inr h) i = λ x a b.
    (let p = holds_parts x (record { from = at; to = end }) a in
    let q = holds_parts x s b in
    both_ways (taken rs x) (h.1.gap.free x p.0 (omega (arith, p.1, h.1.fits))) (taken_from rs x s i q.0 q.1))

-- where ranges end at even addresses, places are even
pub place_even : (pool : Range) (rs : List Range) (need at : ℕ) → pool.from % 2 ≡ 0 → ((s : Range) → In s rs → s.to % 2 ≡ 0) → IsPlace pool rs need at → at % 2 ≡ 0
place_even pool rs need at even ends (inl h) = omega (arith, h.1)
place_even pool rs need at even ends (inr h) = ⊎_elim
    (λ (l : pool.from < at).
    let t : Holder rs (at - 1) = taken_by rs (at - 1) (h.1.gap.first l) in
    let free : taken rs at ≡ false = h.1.gap.free at (omega arith) h.1.gap.some in
    let last : t.range.to ≡ at = ⊎_elim
    (λ (m : at < t.range.to). absurd (both_ways (taken rs at) free (taken_from rs at t.range t.member (omega (arith, t.from)) m)))
    (λ (m : t.range.to ≤ at). omega (arith, t.to))
    (cases_lt at t.range.to) in
    let whole : t.range.to % 2 ≡ 0 = ends t.range t.member in
    omega arith)
    (λ (m : at ≤ pool.from). omega (arith, h.1.gap.from_inside))
    (cases_lt pool.from at)
