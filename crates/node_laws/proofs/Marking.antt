-- The bitmap that is seen has the marks of each domain.
use Rattle.std.proofs.Common.{◌≡◌, ◌≢◌, ℕ, zero, suc, ◌+◌, ◌-◌, ◌*◌, ◌/◌, ◌%◌, ◌^◌, ◌<◌, ◌≤◌, Bool, true, false, cond, List, [], ◌∷◌, length, get_or, map, sum, refl, sym, ap, ◌∙◌, subst, inl, inr, arith, Option, Some, None}
use Rattle.std.specs.Prelude.{◌||◌}
use Rattle.std.specs.List.{list_any, range_with_len}
use Rattle.std.specs.Int.{bit_at}
use Rattle.std.proofs.lemmas.Bool.{cases_eq}
use Rattle.std.proofs.lemmas.List.Folds.{list_any_at}
use Rattle.std.proofs.lemmas.List.FromFn.{get_or-map-range_with_len}
use Rattle.kernel_model.specs.declared.map.TheConstants.{BITMAP, CODE_POOL, CODE_POOL_END, TABLES}
use Rattle.kernel_model.specs.Kernel.{Kernel}
use Rattle.place_model.specs.Marking.{IsCodeWord, IsMarkOf}
use Rattle.place_model.specs.Settled.{IsSettledKernel}
use Rattle.load_model.specs.Domains.{Domain, code_length}
use Rattle.node_model.specs.Systems.{seen, seen_in, bytes_in, domain_in, is_mark, is_mark_in, mark_byte, mark_bytes}
use Rattle.kernel_model.specs.Layout.{layout}
use Rattle.flat_mem.specs.Bytes.{patch}
use Rattle.node_model.specs.Sound.{IsDomain, AreDomains}
use Rattle.node_model.specs.Laws.{MarkSeenLaw}
use Rattle.node_laws.proofs.Seeing.{in-patch, over-length, marks-length}
use Rattle.node_laws.proofs.Stepping.{code-in-pool, code-apart}
use Rattle.node_laws.proofs.Contexts.{IsMark, mark-is, mark-of}

-- ---- bits

unfoldable pub weight : Bool → ℕ
weight b = cond b 1 0

pub weight-small : (b : Bool) → weight b ≤ 1
unfolding weight
weight-small true = omega arith
weight-small false = omega arith

weighs : (b : Bool) (x : ℕ) → cond b x 0 ≡ x * weight b
unfolding weight
weighs true x = omega arith
weighs false x = omega arith

pub heavy : (b : Bool) → weight b ≡ 1 → b ≡ true
unfolding weight
heavy true e = refl
heavy false e = absurd (omega arith)

pub light : (b : Bool) → b ≡ true → weight b ≡ 1
unfolding weight
light true e = refl
light false e = absurd (cc)

abbrev eight : (ℕ → Bool) → ℕ
eight f = sum (map (λ j. cond (f j) (2 ^ j) 0) (range_with_len 0 8))

-- the bits of a sum of powers of two
bits-of : (a b c d e f g h : ℕ) → a ≤ 1 → b ≤ 1 → c ≤ 1 → d ≤ 1 → e ≤ 1 → f ≤ 1 → g ≤ 1 → h ≤ 1 → (j : ℕ) → j < 8
    → bit_at (a + 2 * b + 4 * c + 8 * d + 16 * e + 32 * f + 64 * g + 128 * h) j ≡ get_or (a ∷ b ∷ c ∷ d ∷ e ∷ f ∷ g ∷ h ∷ []) j 0
bits-of a b c d e f g h ha hb hc hd he hf hg hh zero l = omega arith
bits-of a b c d e f g h ha hb hc hd he hf hg hh (suc zero) l = omega arith
bits-of a b c d e f g h ha hb hc hd he hf hg hh (suc (suc zero)) l = omega arith
bits-of a b c d e f g h ha hb hc hd he hf hg hh (suc (suc (suc zero))) l = omega arith
bits-of a b c d e f g h ha hb hc hd he hf hg hh (suc (suc (suc (suc zero)))) l = omega arith
bits-of a b c d e f g h ha hb hc hd he hf hg hh (suc (suc (suc (suc (suc zero))))) l = omega arith
bits-of a b c d e f g h ha hb hc hd he hf hg hh (suc (suc (suc (suc (suc (suc zero)))))) l = omega arith
bits-of a b c d e f g h ha hb hc hd he hf hg hh (suc (suc (suc (suc (suc (suc (suc zero))))))) l = omega arith
bits-of a b c d e f g h ha hb hc hd he hf hg hh (suc (suc (suc (suc (suc (suc (suc (suc j)))))))) l = absurd (omega arith)

eight-is : (f : ℕ → Bool) → eight f ≡ weight (f 0) + 2 * weight (f 1) + 4 * weight (f 2) + 8 * weight (f 3) + 16 * weight (f 4) + 32 * weight (f 5) + 64 * weight (f 6) + 128 * weight (f 7)
eight-is f = omega (arith, weighs (f 0) 1, weighs (f 1) 2, weighs (f 2) 4, weighs (f 3) 8, weighs (f 4) 16, weighs (f 5) 32, weighs (f 6) 64, weighs (f 7) 128)

bit-of : (f : ℕ → Bool) (j : ℕ) → j < 8 → bit_at (eight f) j ≡ weight (f j)
bit-of f j l = ap (λ (x : ℕ). bit_at x j) (eight-is f)
    ∙ bits-of _ _ _ _ _ _ _ _ (weight-small (f 0)) (weight-small (f 1)) (weight-small (f 2)) (weight-small (f 3)) (weight-small (f 4)) (weight-small (f 5)) (weight-small (f 6)) (weight-small (f 7)) j l
    ∙ get_or-map-range_with_len (λ (i : ℕ). weight (f i)) 0 8 j j 0 l (omega arith)

-- ---- whose mark it is

pub any-at : (p : Option Domain → Bool) (ds : List (Option Domain)) → p None ≡ false → list_any p ds ≡ true → (n : ℕ) × (d : Domain)
    × (domain_in ds n ≡ Some d) × (p (Some d) ≡ true)
any-at p [] off e = absurd (cc)
any-at p (x ∷ ds) off e = any-by p x ds off (p x) refl e (λ f. any-at p ds off f)
  where
    some-of : (p : Option Domain → Bool) (x : Option Domain) → p None ≡ false → p x ≡ true → (d : Domain) × (x ≡ Some d)
        × (p (Some d) ≡ true)
    some-of p None off e = absurd (cc)
    some-of p (Some d) off e = (d, refl, e)

    any-by : (p : Option Domain → Bool) (x : Option Domain) (ds : List (Option Domain)) → p None ≡ false → (b : Bool) → p x ≡ b
        → list_any p (x ∷ ds) ≡ true
        → (list_any p ds ≡ true → (n : ℕ) × (d : Domain) × (domain_in ds n ≡ Some d) × (p (Some d) ≡ true))
        → (n : ℕ) × (d : Domain) × (domain_in (x ∷ ds) n ≡ Some d) × (p (Some d) ≡ true)
    any-by p x ds off true f e next = let h = some-of p x off f in (0, h.0, h.1, h.2)
    any-by p x ds off false f e next = let h = next (sym (ap (λ (b : Bool). b || list_any p ds) f) ∙ e) in (suc h.0, h.1, h.2, h.3)

-- ---- what is seen

pub byte-seen : (m : List ℕ) (k : Kernel) (ds : List (Option Domain)) (q : ℕ) → length m ≡ 65536 → q < 2048
    → get_or (seen_in m k ds) (BITMAP + q) 0 ≡ mark_byte ds (CODE_POOL + 16 * q)
unfolding seen_in mark_bytes
byte-seen m k ds q e l =
    in-patch (patch m TABLES (bytes_in 3584 (layout k))) (mark_bytes ds) BITMAP q (omega (arith, over-length m k e))
    (omega (arith, marks-length ds))
    ∙ get_or-map-range_with_len {X = ℕ} (λ b. mark_byte ds (CODE_POOL + 16 * b)) 0 2048 q q 0 l (omega arith)

unfoldable pub some-unit : List (Option Domain) → (at : ℕ) → Bool
some-unit ds at = list_any (λ d. is_mark_in d at) ds

pub bit-seen : (m : List ℕ) (k : Kernel) (ds : List (Option Domain)) (at : ℕ) → length m ≡ 65536 → IsCodeWord at
    → bit_at (get_or (seen_in m k ds) (BITMAP + (at - CODE_POOL) / 16) 0) ((at - CODE_POOL) / 2 % 8) ≡ weight (some-unit ds at)
unfolding some-unit
bit-seen m k ds at e w =
    let q : ℕ = (at - CODE_POOL) / 16 in
    let j : ℕ = (at - CODE_POOL) / 2 % 8 in
    let here : CODE_POOL + 16 * q + 2 * j ≡ at = omega (arith, w.even, w.above) in
    ap (λ (x : ℕ). bit_at x j) (byte-seen m k ds q e (omega (arith, w.above, w.below)))
    ∙ bit-of (λ i. list_any (λ d. is_mark_in d (CODE_POOL + 16 * q + 2 * i)) ds) j (omega arith)
    ∙ ap (λ (x : ℕ). weight (list_any (λ d. is_mark_in d x) ds)) here

-- a unit at an address of a domain's code is its own
pub own-unit : (k : Kernel) (ds : List (Option Domain)) (n : ℕ) (d : Domain) (at : ℕ) → IsSettledKernel k
    → AreDomains k.apps k.modules ds → domain_in ds n ≡ Some d → d.code_lo ≤ at → at < d.code_lo + code_length d.object
    → some-unit ds at ≡ true → is_mark ds n at ≡ true
unfolding some-unit
own-unit k ds n d at h domains e from to some =
    let a : (i : ℕ) × (x : Domain) × (domain_in ds i ≡ Some x) × (is_mark_in (Some x) at ≡ true) =
    any-at (λ x. is_mark_in x at) ds refl some in
    elim (cases_eq a.0 n) [
      | inl q ↦ subst (λ (i : ℕ). is_mark ds i at ≡ true) q
          (subst (λ (o : Option Domain). is_mark_in o at ≡ true) (sym a.2) a.3)
      | inr x ↦ absurd (both a.0 a.1 x a.2 a.3)
    ]
  where
    both : (i : ℕ) (x : Domain) → i ≢ n → domain_in ds i ≡ Some x → is_mark_in (Some x) at ≡ true → ⊥
    both i x ne there unit =
        let mark : IsMark x at = mark-is x at (domains.placed i x there).accepted unit in
        elim (code-apart k ds i n x d h domains there e ne at mark.from mark.to)
        [ inl l ↦ omega (arith, l, from) | inr u ↦ omega (arith, u, to) ]

pub mark-seen : MarkSeenLaw
unfolding some-unit
mark-seen s n d at h e = (to, fro)
  where
    to : IsMarkOf (seen s) d.code_lo (d.code_lo + code_length d.object) at → is_mark s.placed n at ≡ true
    to m = own-unit s.kernel s.placed n d at h.kernel.settled h.kernel.domains e m.from m.to
        (heavy (some-unit s.placed at) (sym (bit-seen s.memory s.kernel s.placed at h.code.memory.bytes m.word) ∙ m.set))

    fro : is_mark s.placed n at ≡ true → IsMarkOf (seen s) d.code_lo (d.code_lo + code_length d.object) at
    fro is =
        let domain : IsDomain s.kernel.apps s.kernel.modules n d = h.kernel.domains.placed n d e in
        let mark : IsMark d at = mark-of s.placed n at d e domain.accepted is in
        let pool : (CODE_POOL ≤ d.code_lo) × (d.code_lo + code_length d.object ≤ CODE_POOL_END) =
        code-in-pool s.kernel n d h.kernel.settled domain in
        let word : IsCodeWord at = record {
          even = mark.even_at;
          above = omega (arith, mark.from, pool.0);
          below =
              omega (arith, mark.to, pool.1);
        } in
        record {
          word = word;
          from = mark.from;
          to = mark.to;
          set = bit-seen s.memory s.kernel s.placed at h.code.memory.bytes word
              ∙ light (some-unit s.placed at)
              (list_any_at (λ x. is_mark_in x at) s.placed n None (omega (arith, domain.below, h.kernel.domains.twelve)) is);
        }
