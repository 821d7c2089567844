-- A place that is found lies in the pool.
use Rattle.std.proofs.Common.{◌≡◌, ◌≢◌, ℕ, ◌+◌, ◌≤◌, ◌↔◌, subst, List, leb, eqb, cond, sym, ap, ◌∙◌, arith, Ok, Err, inl, inr}
use Rattle.std.proofs.lemmas.Bool.{ne_eqb, le-leb, cond-true, cond-false}
use Rattle.place_model.specs.declared.places.Range.{Range}
use Rattle.kernel_model.specs.declared.kinds.Kind.{Kind}
use Rattle.kernel_model.specs.Kernel.{Kernel}
use Rattle.place_model.specs.declared.places.DomainRow.{DomainRow}
use Rattle.place_model.specs.declared.places.Regions.{Regions}
use Rattle.place_model.specs.Gaps.{gaps, longest, lowest, place_in, IsPlace}
use Rattle.place_model.specs.Placing.{domain_rows, placed_among, placing}

inside_place : (pool : Range) (rs : List Range) (need at : ℕ) → pool.from ≤ pool.to → IsPlace pool rs need at → (pool.from ≤ at) × (at + need ≤ pool.to)
inside_place pool rs need at up (inl h) = (omega (arith, h.1), omega (arith, h.0, h.1))
inside_place pool rs need at up (inr h) = (h.1.gap.from_inside, omega (arith, h.1.fits, h.1.gap.to_inside))

abbrev PlaceLaw : Type 0
PlaceLaw = (pool : Range) (rs : List Range) (need at : ℕ) → (place_in pool rs need ≡ Ok at) ↔ IsPlace pool rs need at

-- what is found once the longest gap is long enough
pub found_inside : PlaceLaw → (pool : Range) (rs gs : List Range) (need at : ℕ) → pool.from ≤ pool.to → need ≢ 0 → gs ≡ gaps pool rs → need ≤ longest gs
    → at ≡ lowest pool.to need gs → (pool.from ≤ at) × (at + need ≤ pool.to)
found_inside law pool rs gs need at up some e room found =
    let enough : need ≤ longest (gaps pool rs) = subst (λ (g : List Range). need ≤ longest g) e room in
    let lower : ℕ = lowest pool.to need (gaps pool rs) in
    let same : lower ≡ at = sym (found ∙ ap (λ (g : List Range). lowest pool.to need g) e) in
    let whole : place_in pool rs need ≡ Ok lower =
    cond-false (eqb need 0) (Ok pool.from) (cond (leb need (longest (gaps pool rs))) (Ok lower) (Err (longest (gaps pool rs)))) (ne_eqb need 0 some)
    ∙ cond-true (leb need (longest (gaps pool rs))) (Ok lower) (Err (longest (gaps pool rs))) (le-leb need (longest (gaps pool rs)) enough) in
    subst (λ (a : ℕ). (pool.from ≤ a) × (a + need ≤ pool.to)) same (inside_place pool rs need lower up ((law pool rs need lower).0 whole))

-- what is placed among the rows of a kernel is its placing
pub placing_from : (k : Kernel) (rows : List DomainRow) (kind : Kind) (c l : ℕ) (r : Regions) → rows ≡ domain_rows k → Ok r ≡ placed_among rows kind c l → placing k kind c l ≡ Ok r
placing_from k rows kind c l r e answer = sym (answer ∙ ap (λ (xs : List DomainRow). placed_among xs kind c l) e)
