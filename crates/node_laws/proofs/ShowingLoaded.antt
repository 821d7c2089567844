-- Behind loading an object memory shows the system that has it.
use Rattle.std.proofs.Common.{◌≡◌, ℕ, ◌+◌, ◌-◌, ◌*◌, ◌/◌, ◌%◌, ◌<◌, ◌≤◌, ◌⊎◌, Bool, true, false, List, length, get_or, set, inl, inr, refl, sym, ap, ◌∙◌, subst, arith, Option, None, Some, Ok}
use Rattle.std.specs.Prelude.{◌↔◌, ◌&&◌, nat_le, nat_lt, ◌==◌}
use Rattle.std.specs.Int.{bit_at}
use Rattle.std.proofs.lemmas.Bool.{cases_lt, cases_eq, and_from, and_parts, le-leb, lt-ltb, eq-eqb, eqb-true}
use Rattle.std.proofs.lemmas.Grind.{same_number_lists}
use Rattle.std.proofs.lemmas.List.Folds.{list_any_at}
use Rattle.std.proofs.lemmas.Nat.Bits.{bit_at-lt, same_from_bits_below}
use Rattle.machine_model.specs.Memory.{IsMemory}
use Rattle.kernel_model.specs.declared.map.TheConstants.{BITMAP, BITMAP_END, CODE_POOL, TABLES, TABLES_END}
use Rattle.kernel_model.specs.Bitmap.{Has}
use Rattle.kernel_model.specs.Kernel.{Kernel}
use Rattle.kernel_model.specs.Words.{free}
use Rattle.place_model.specs.declared.places.Regions.{Regions}
use Rattle.place_model.specs.Marking.{IsCodeWord, IsMarkBit}
use Rattle.place_model.specs.Placing.{domain_at}
use Rattle.code_model.specs.Verdicts.{IsAccepted}
use Rattle.load_model.specs.Domains.{Domain, code_length}
use Rattle.load_model.specs.Images.{code_image, region_image}
use Rattle.load_model.specs.Loading.{Loadable, Loaded, domain_of, loaded_kernel, places_of, with_images, IsBeside}
use Rattle.node_model.specs.Systems.{System, seen, seen_in, domain_in, is_mark_in, is_unit_address, has_bit}
use Rattle.node_model.specs.Booting.{loaded_at}
use Rattle.node_model.specs.Sound.{AreDomains}
use Rattle.node_model.specs.Laws.{IsLoading}
use Rattle.node_model.specs.Code.{Shows}
use Rattle.node_model.specs.BootCode.{SeenLoadedLaw}
use Rattle.node_laws.proofs.Contexts.{IsMark, mark-is}
use Rattle.node_laws.proofs.Filling.{IsPlacedAt, placed-at}
use Rattle.node_laws.proofs.FillingRows.{domain-new, domain-put, domain-old}
use Rattle.node_laws.proofs.Images.{IsImaged, code-stands, region-stands, beside-both}
use Rattle.node_laws.proofs.Loading.{ImageLaws, imaged, below-twelve, loaded-loading}
use Rattle.node_laws.proofs.Marking.{weight, heavy, light, any-at, some-unit, bit-seen, own-unit}
use Rattle.node_laws.proofs.Representing.{seen-length, seen-free}
use Rattle.node_laws.proofs.Seeing.{seen-memory}
use Rattle.node_laws.proofs.Showing.{laid-shown, tables-shown}
use Rattle.node_laws.proofs.Stepping.{places-of}

-- ---- bits

weight-is : (x : ℕ) (b : Bool) → x < 2 → (x ≡ 1 → b ≡ true) → (b ≡ true → x ≡ 1) → x ≡ weight b
unfolding weight
weight-is x true l f g = g refl
weight-is x false l f g = elim (cases_eq x 1) [ inl e ↦ absurd (let clash : false ≡ true = f e in cc clash) | inr n ↦ omega arith ]

-- the bit of the word at an address
abbrev mark-bit : List ℕ → (at : ℕ) → ℕ
mark-bit m at = bit_at (get_or m (BITMAP + (at - CODE_POOL) / 16) 0) ((at - CODE_POOL) / 2 % 8)

same-bit : (xs ys : List ℕ) (q i : ℕ) → q < 2048 → i < 8 → ((at : ℕ) → IsCodeWord at → mark-bit xs at ≡ mark-bit ys at)
    → bit_at (get_or xs (BITMAP + q) 0) i ≡ bit_at (get_or ys (BITMAP + q) 0) i
same-bit xs ys q i lq li f =
    let at : ℕ = CODE_POOL + (16 * q + 2 * i) in
    let byte : (at - CODE_POOL) / 16 ≡ q = omega arith in
    let bit : (at - CODE_POOL) / 2 % 8 ≡ i = omega arith in
    let word : IsCodeWord at = record { even = omega arith; above = omega arith; below = omega arith } in
    subst (λ (x : ℕ). bit_at (get_or xs (BITMAP + q) 0) x ≡ bit_at (get_or ys (BITMAP + q) 0) x) bit
    (subst (λ (x : ℕ). bit_at (get_or xs (BITMAP + x) 0) ((at - CODE_POOL) / 2 % 8) ≡ bit_at (get_or ys (BITMAP + x) 0) ((at - CODE_POOL) / 2 % 8)) byte
    (f at word))

-- ---- units of a domain

in-code : (d : Domain) (at : ℕ) → at % 2 ≡ 0 → d.code_lo ≤ at → at < d.code_lo + code_length d.object
    → Has d.units ((at - d.code_lo) / 2) ↔ (is_unit_address d at ≡ true)
unfolding is_unit_address
in-code d at even from to = (
  λ h. and_from _ (has_bit d.units ((at - d.code_lo) / 2))
      (and_from _ (at % 2 == 0)
      (and_from (nat_le d.code_lo at) (nat_lt at (d.code_lo + code_length d.object)) (le-leb d.code_lo at from)
      (lt-ltb at (d.code_lo + code_length d.object) to))
      (eq-eqb (at % 2) 0 even))
      (eq-eqb _ 1 h),
  λ e. eqb-true _ 1 (let a : (((nat_le d.code_lo at && nat_lt at (d.code_lo + code_length d.object)) && (at % 2 == 0)) ≡ true)
      × (has_bit d.units ((at - d.code_lo) / 2) ≡ true) = and_parts _ _ e in a.1),
)

-- ---- the marks, with one domain more

-- what is known of the lists before and behind
record IsMore (k j : Kernel) (ds : List (Option Domain)) (dom : ℕ) (d : Domain) : Type 0 where
  size : dom < length ds
  was_free : (domain_at k dom).state ≡ free
  old : AreDomains k.apps k.modules ds
  new : AreDomains j.apps j.modules (set ds dom (Some d))

unplaced : (k j : Kernel) (ds : List (Option Domain)) (dom : ℕ) (d x : Domain) → IsMore k j ds dom d → domain_in ds dom ≡ Some x → ⊥
unplaced k j ds dom d x h e = (places-of k dom x (h.old.placed dom x e)).used h.was_free

-- outside of its code the marks are those of the others
others-mark : (k j : Kernel) (ds : List (Option Domain)) (dom : ℕ) (d : Domain) (at : ℕ) → IsMore k j ds dom d
    → (at < d.code_lo) ⊎ (d.code_lo + code_length d.object ≤ at)
    → (some-unit (set ds dom (Some d)) at ≡ true) ↔ (some-unit ds at ≡ true)
unfolding some-unit
others-mark k j ds dom d at h out = (to, fro)
  where
    ds1 : List (Option Domain)
    ds1 = set ds dom (Some d)

    unit-at : Option Domain → Bool
    unit-at x = is_mark_in x at

    beside : (x : Domain) → domain_in ds1 dom ≡ Some x → is_unit_address x at ≡ true → ⊥
    beside x e unit =
        let same : d ≡ x = domain-new ds dom dom d x h.size refl e in
        let mark : IsMark d at = mark-is d at (h.new.placed dom d (domain-put ds dom dom d h.size refl)).accepted
        (subst (λ (y : Domain). is_unit_address y at ≡ true) (sym same) unit) in
        elim out [ inl l ↦ omega (arith, l, mark.from) | inr u ↦ omega (arith, u, mark.to) ]

    to : some-unit ds1 at ≡ true → some-unit ds at ≡ true
    to some =
        let a : (i : ℕ) × (x : Domain) × (domain_in ds1 i ≡ Some x) × (is_mark_in (Some x) at ≡ true) =
        any-at (λ x. is_mark_in x at) ds1 refl some in
        elim (cases_eq a.0 dom) [
          | inl q ↦ absurd (beside a.1 (ap (domain_in ds1) (sym q) ∙ a.2) a.3)
          | inr ne ↦
              let e : domain_in ds a.0 ≡ Some a.1 = sym (domain-old ds dom a.0 d ne) ∙ a.2 in
              list_any_at (λ x. is_mark_in x at) ds a.0 None (omega (arith, (h.old.placed a.0 a.1 e).below, h.old.twelve))
              (ap (λ (x : Option Domain). is_mark_in x at) e ∙ a.3)
        ]

    fro : some-unit ds at ≡ true → some-unit ds1 at ≡ true
    fro some =
        let a : (i : ℕ) × (x : Domain) × (domain_in ds i ≡ Some x) × (is_mark_in (Some x) at ≡ true) =
        any-at (λ x. is_mark_in x at) ds refl some in
        elim (cases_eq a.0 dom) [
          | inl q ↦ absurd (unplaced k j ds dom d a.1 h (ap (domain_in ds) (sym q) ∙ a.2))
          | inr ne ↦
              let e : domain_in ds1 a.0 ≡ Some a.1 = domain-old ds dom a.0 d ne ∙ a.2 in
              list_any_at (λ x. is_mark_in x at) ds1 a.0 None (omega (arith, (h.new.placed a.0 a.1 e).below, h.new.twelve))
              (ap (λ (x : Option Domain). is_mark_in x at) e ∙ a.3)
        ]

-- in its code they are its own
own-mark : (s : System) (dom : ℕ) (d : Domain) (at : ℕ) → IsLoading s → domain_in s.placed dom ≡ Some d → d.code_lo ≤ at
    → at < d.code_lo + code_length d.object → (some-unit s.placed at ≡ true) ↔ (is_unit_address d at ≡ true)
unfolding some-unit
own-mark s dom d at h e from to = (
  λ some. subst (λ (x : Option Domain). is_mark_in x at ≡ true) e (own-unit s.kernel s.placed dom d at h.settled h.domains e from to some),
  λ unit. list_any_at (λ x. is_mark_in x at) s.placed dom None (omega (arith, (h.domains.placed dom d e).below, h.domains.twelve))
      (ap (λ (x : Option Domain). is_mark_in x at) e ∙ unit),
)

-- ---- all bytes

-- all that is known
record IsLoadedIn (before after : List ℕ) (s : System) (n : ℕ) (o : Loadable) (r : Regions) : Type 0 where
  memory : IsMemory after
  shows : Shows before s
  loading : IsLoading s
  loads : IsLoading (loaded_at s n o r)
  loaded : Loaded before after (loaded_kernel o.object.kind s.kernel o.object r) o r
  more : IsMore s.kernel (loaded_kernel o.object.kind s.kernel o.object r) s.placed r.dom (domain_of o r)
  imaged : IsImaged (domain_of o r)

mark-word : (before after : List ℕ) (s : System) (n : ℕ) (o : Loadable) (r : Regions) (at : ℕ) → IsLoadedIn before after s n o r
    → IsCodeWord at → mark-bit after at ≡ weight (some-unit (set s.placed r.dom (Some (domain_of o r))) at)
mark-word before after s n o r at h w = weight-is (mark-bit after at) (some-unit ds at) (bit_at-lt _ _) (by-place place).0 (by-place place).1
  where
    d : Domain
    d = domain_of o r

    ds : List (Option Domain)
    ds = set s.placed r.dom (Some (domain_of o r))

    put : domain_in ds r.dom ≡ Some d
    put = domain-put s.placed r.dom r.dom d h.more.size refl

    old-bit : mark-bit before at ≡ weight (some-unit s.placed at)
    old-bit = ap (λ (m : List ℕ). mark-bit m at) h.shows.bytes
        ∙ bit-seen s.memory s.kernel s.placed at h.loading.code.memory.bytes w

    inside : r.code_lo ≤ at → at < r.code_hi → (mark-bit after at ≡ 1 → some-unit ds at ≡ true) × (some-unit ds at ≡ true → mark-bit after at ≡ 1)
    inside from to =
        let top : at < d.code_lo + code_length d.object = omega (arith, to, h.loaded.places.code_length) in
        let own : (some-unit ds at ≡ true) ↔ (is_unit_address d at ≡ true) =
        own-mark (loaded_at s n o r) r.dom d at h.loads put from top in
        let unit : Has o.units ((at - r.code_lo) / 2) ↔ (is_unit_address d at ≡ true) = in-code d at w.even from top in
        let bit : IsMarkBit after at ↔ Has o.units ((at - r.code_lo) / 2) = h.loaded.marks at w from to in
        (λ x. own.1 (unit.0 (bit.0 x)), λ x. bit.1 (unit.1 (own.0 x)))

    outside : (at < r.code_lo) ⊎ (r.code_hi ≤ at)
        → (mark-bit after at ≡ 1 → some-unit ds at ≡ true) × (some-unit ds at ≡ true → mark-bit after at ≡ 1)
    outside out =
        let beside : (at < d.code_lo) ⊎ (d.code_lo + code_length d.object ≤ at) =
        elim out [ inl l ↦ inl l | inr u ↦ inr (omega (arith, u, h.loaded.places.code_length)) ] in
        let same : (some-unit ds at ≡ true) ↔ (some-unit s.placed at ≡ true) =
        others-mark s.kernel (loaded_kernel o.object.kind s.kernel o.object r) s.placed r.dom d at h.more beside in
        let bit : IsMarkBit after at ↔ IsMarkBit before at = h.loaded.other_marks at w out in (
          λ x. same.1 (heavy (some-unit s.placed at) (sym old-bit ∙ bit.0 x)),
          λ x. bit.1 (old-bit ∙ light (some-unit s.placed at) (same.0 x)),
        )

    place : (r.code_lo ≤ at) × (at < r.code_hi) ⊎ ((at < r.code_lo) ⊎ (r.code_hi ≤ at))
    place = elim (cases_lt at r.code_lo) [
      | inl l ↦ inr (inl l)
      | inr g ↦ elim (cases_lt at r.code_hi) [ inl l ↦ inl (g, l) | inr u ↦ inr (inr u) ]
    ]

    by-place : (r.code_lo ≤ at) × (at < r.code_hi) ⊎ ((at < r.code_lo) ⊎ (r.code_hi ≤ at))
        → (mark-bit after at ≡ 1 → some-unit ds at ≡ true) × (some-unit ds at ≡ true → mark-bit after at ≡ 1)
    by-place (inl i) = inside i.0 i.1
    by-place (inr out) = outside out

loaded-bytes : (before after : List ℕ) (s : System) (n : ℕ) (o : Loadable) (r : Regions) → IsLoadedIn before after s n o r
    → after ≡ seen (loaded_at s n o r)
loaded-bytes before after s n o r h =
    same_number_lists after (seen_in m j ds) (h.memory.bytes ∙ sym (seen-length m j ds size)) (λ a l. each a)
  where
    d : Domain
    d = domain_of o r

    j : Kernel
    j = loaded_kernel o.object.kind s.kernel o.object r

    ds : List (Option Domain)
    ds = set s.placed r.dom (Some (domain_of o r))

    m : List ℕ
    m = with_images s.memory (domain_of o r)

    size : length m ≡ 65536
    size = h.loads.code.memory.bytes

    old-size : length s.memory ≡ 65536
    old-size = h.loading.code.memory.bytes

    same-mark : (at : ℕ) → IsCodeWord at → mark-bit after at ≡ mark-bit (seen_in m j ds) at
    same-mark at w = mark-word before after s n o r at h w ∙ sym (bit-seen m j ds at size w)

    marks : (a : ℕ) → BITMAP ≤ a → a < BITMAP_END → get_or after a 0 ≡ get_or (seen_in m j ds) a 0
    marks a g l =
        let here : BITMAP + (a - BITMAP) ≡ a = omega arith in
        subst (λ (x : ℕ). get_or after x 0 ≡ get_or (seen_in m j ds) x 0) here
        (same_from_bits_below 8 (get_or after (BITMAP + (a - BITMAP)) 0) (get_or (seen_in m j ds) (BITMAP + (a - BITMAP)) 0)
        (h.memory.small (BITMAP + (a - BITMAP)))
        ((seen-memory m j ds h.loads.code.memory).small (BITMAP + (a - BITMAP)))
        (λ i li. same-bit after (seen_in m j ds) (a - BITMAP) i (omega arith) li same-mark))

    tables : (a : ℕ) → 512 ≤ a → a < TABLES_END → get_or after a 0 ≡ get_or (seen_in m j ds) a 0
    tables a g l =
        let here : 512 + (a - 512) ≡ a = omega arith in
        subst (λ (x : ℕ). get_or after x 0 ≡ get_or (seen_in m j ds) x 0) here
        (tables-shown after m j ds (a - 512) h.memory
        (h.loaded.laid_out (laid-shown before s h.shows h.loading.code.memory)) h.loaded.kernel size (omega arith))

    -- outside of tables, marks and images
    others : (a : ℕ) → (a < TABLES) ⊎ (((TABLES_END ≤ a) × (a < BITMAP)) ⊎ (BITMAP_END ≤ a)) → (a < TABLES) ⊎ (TABLES_END ≤ a)
        → (a < BITMAP) ⊎ (BITMAP_END ≤ a) → IsBeside r a → (a < d.code_lo) ⊎ (d.code_lo + code_length d.object ≤ a)
        → get_or after a 0 ≡ get_or (seen_in m j ds) a 0
    others a f t b beside out =
        h.loaded.others a t b beside
        ∙ ap (λ (xs : List ℕ). get_or xs a 0) h.shows.bytes
        ∙ seen-free s.memory s.kernel s.placed a old-size f
        ∙ sym (seen-free m j ds a size f ∙ beside-both s.memory d a old-size h.imaged out beside.region)

    below : (a : ℕ) → (a < TABLES) ⊎ (((TABLES_END ≤ a) × (a < BITMAP)) ⊎ (BITMAP_END ≤ a)) → (a < TABLES) ⊎ (TABLES_END ≤ a)
        → a < BITMAP
        → get_or after a 0 ≡ get_or (seen_in m j ds) a 0
    below a f t l = others a f t (inl l)
        record { code = inl (omega (arith, h.imaged.code_low)); region = inl (omega (arith, h.imaged.lo_low)) }
        (inl (omega (arith, h.imaged.code_low)))

    region : (a : ℕ) → r.lo ≤ a → a < r.hi → get_or after a 0 ≡ get_or (seen_in m j ds) a 0
    region a g l =
        let here : r.lo + (a - r.lo) ≡ a = omega arith in
        let in' : a - r.lo < length (region_image d) = omega (arith, h.imaged.region_size) in
        ap (λ (x : ℕ). get_or after x 0) (sym here)
        ∙ h.loaded.region (a - r.lo) in'
        ∙ sym (region-stands s.memory d old-size h.imaged (a - r.lo) in')
        ∙ ap (λ (x : ℕ). get_or m x 0) here
        ∙ sym (seen-free m j ds a size (inr (inr (omega (arith, h.imaged.lo_low)))))

    code : (a : ℕ) → r.code_lo ≤ a → a < r.code_hi → get_or after a 0 ≡ get_or (seen_in m j ds) a 0
    code a g l =
        let here : r.code_lo + (a - r.code_lo) ≡ a = omega arith in
        let in' : a - r.code_lo < length (code_image d) = omega (arith, h.imaged.code_size, h.loaded.places.code_length) in
        ap (λ (x : ℕ). get_or after x 0) (sym here)
        ∙ h.loaded.code (a - r.code_lo) in'
        ∙ sym (code-stands s.memory d old-size h.imaged (a - r.code_lo) in')
        ∙ ap (λ (x : ℕ). get_or m x 0) here
        ∙ sym (seen-free m j ds a size (inr (inr (omega (arith, h.imaged.code_low)))))

    -- above the marks, by the code
    by-code : (a : ℕ) → BITMAP_END ≤ a → (a < r.lo) ⊎ (r.hi ≤ a) → get_or after a 0 ≡ get_or (seen_in m j ds) a 0
    by-code a g out = elim (cases_lt a r.code_lo) [
      | inl l ↦ others a (inr (inr g)) (inr (omega arith)) (inr g) record { code = inl l; region = out } (inl l)
      | inr u ↦ elim (cases_lt a r.code_hi) [
        | inl l ↦ code a u l
        | inr v ↦ others a (inr (inr g)) (inr (omega arith)) (inr g) record { code = inr v; region = out }
            (inr (omega (arith, v, h.loaded.places.code_length)))
      ]
    ]

    above : (a : ℕ) → BITMAP_END ≤ a → get_or after a 0 ≡ get_or (seen_in m j ds) a 0
    above a g = elim (cases_lt a r.lo) [
      | inl l ↦ by-code a g (inl l)
      | inr u ↦ elim (cases_lt a r.hi) [ inl l ↦ region a u l | inr v ↦ by-code a g (inr v) ]
    ]

    each : (a : ℕ) → get_or after a 0 ≡ get_or (seen_in m j ds) a 0
    each a = elim (cases_lt a 512) [
      | inl l ↦ below a (inl l) (inl l) (omega arith)
      | inr u ↦ elim (cases_lt a TABLES_END) [
        | inl l ↦ tables a u l
        | inr v ↦ elim (cases_lt a BITMAP) [
          | inl l ↦ below a (inr (inl (v, l))) (inr v) l
          | inr w ↦ elim (cases_lt a BITMAP_END) [ inl l ↦ marks a w l | inr x ↦ above a x ]
        ]
      ]
    ]

loaded-in : ImageLaws → (before after : List ℕ) (s : System) (n : ℕ) (o : Loadable) (r : Regions) → IsLoading s
    → IsAccepted o.object o.units → places_of s.kernel o.object ≡ Ok r → Shows before s → IsMemory after
    → Loaded before after (loaded_kernel o.object.kind s.kernel o.object r) o r → IsLoadedIn before after s n o r
loaded-in laws before after s n o r h a e w hm l =
    let loads : IsLoading (loaded_at s n o r) = loaded-loading laws s n o r h a e in
    let p : IsPlacedAt s.kernel o.object.kind o r = placed-at s.kernel o r h.settled e in
    record {
      memory = hm;
      shows = w;
      loading = h;
      loads = loads;
      loaded = l;
      more = record {
        size = omega (arith, below-twelve o.object.kind r p.pools, h.domains.twelve);
        was_free = p.was_free;
        old = h.domains;
        new = loads.domains;
      };
      imaged = imaged laws s.kernel o r p;
    }

pub seen-loaded : ImageLaws → SeenLoadedLaw
seen-loaded laws before after s n o r h a e w hm l = record {
  memory = hm;
  bytes = loaded-bytes before after s n o r (loaded-in laws before after s n o r h a e w hm l);
  kernel = l.kernel;
}
