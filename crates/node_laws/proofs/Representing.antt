-- What a node's memory is, behind writes and behind calls of the kernel.
use Rattle.std.proofs.Common.{◌≡◌, ◌≢◌, ℕ, ◌+◌, ◌-◌, ◌%◌, ◌<◌, ◌≤◌, ◌⊎◌, List, [], ◌∷◌, length, get_or, set, drop, map, replicate, inl, inr, refl, sym, ap, ◌∙◌, subst, arith, Option}
use Rattle.std.proofs.lemmas.Bool.{cases_lt, cases_eq}
use Rattle.std.proofs.lemmas.Grind.{same_number_lists}
use Rattle.std.proofs.lemmas.List.{length-set, length-take, length-drop, length-map, get_or-set_same, get_or-set_other, get_or-take, get_or-drop, get_or-map, get_or_append_left}
use Rattle.flat_mem.specs.Bytes.{patch}
use Rattle.machine_model.specs.Memory.{put_all, IsMemory}
use Rattle.kernel_model.specs.declared.map.TheConstants.{BITMAP, BITMAP_END, TABLES, TABLES_END}
use Rattle.kernel_model.specs.Bytes.{part}
use Rattle.kernel_model.specs.Kernel.{Kernel}
use Rattle.kernel_model.specs.Layout.{layout, table_bytes}
use Rattle.kernel_model.proofs.LayoutLemmas.{layout_from_laid_out}
use Rattle.kernel_model.proofs.OutsideLemmas.{outside_byte}
use Rattle.load_model.specs.Domains.{Domain}
use Rattle.node_model.specs.Systems.{seen_in, bytes_in, mark_bytes}
use Rattle.node_model.specs.Laws.{IsInPools, SeenWritesLaw, SeenLeavesLaw}
use Rattle.node_laws.proofs.Seeing.{above-patch, below-patch, in-patch, length-patch, over-length, tables-length, marks-length, seen-tables, first-bytes}

-- ---- the three parts of what is seen

-- outside the tables it doesn't tell one kernel from another
seen-outside : (m : List ℕ) (k j : Kernel) (ds : List (Option Domain)) (a : ℕ) → length m ≡ 65536 → (a < TABLES) ⊎ (TABLES_END ≤ a)
    → get_or (seen_in m k ds) a 0 ≡ get_or (seen_in m j ds) a 0
unfolding seen_in
seen-outside m k j ds a e h = elim (cases_lt a BITMAP) [
  | inl l ↦ below-patch (over k) (mark_bytes ds) BITMAP a (omega (arith, over-length m k e)) l ∙ under h
      ∙ sym (below-patch (over j) (mark_bytes ds) BITMAP a (omega (arith, over-length m j e)) l)
  | inr u ↦ elim (cases_lt a BITMAP_END) [
    | inl l ↦ marks k u l ∙ sym (marks j u l)
    | inr v ↦ above-patch (over k) (mark_bytes ds) BITMAP 2048 a (marks-length ds) (omega (arith, over-length m k e)) (omega arith)
        ∙ under h ∙ sym (above-patch (over j) (mark_bytes ds) BITMAP 2048 a (marks-length ds) (omega (arith, over-length m j e))
        (omega arith))
  ]
]
  where
    over : Kernel → List ℕ
    over i = patch m TABLES (bytes_in 3584 (layout i))

    memory : (i : Kernel) → (a < TABLES) ⊎ (TABLES_END ≤ a) → get_or (over i) a 0 ≡ get_or m a 0
    memory i (inl l) = below-patch m (bytes_in 3584 (layout i)) TABLES a (omega arith) l
    memory i (inr u) = above-patch m (bytes_in 3584 (layout i)) TABLES 3584 a (tables-length i) (omega arith) (omega arith)

    under : (a < TABLES) ⊎ (TABLES_END ≤ a) → get_or (over k) a 0 ≡ get_or (over j) a 0
    under x = memory k x ∙ sym (memory j x)

    marks : (i : Kernel) → BITMAP ≤ a → a < BITMAP_END
        → get_or (patch (over i) BITMAP (mark_bytes ds)) a 0 ≡ get_or (mark_bytes ds) (a - BITMAP) 0
    marks i u l =
        let here : a ≡ BITMAP + (a - BITMAP) = omega arith in
        ap (λ (x : ℕ). get_or (patch (over i) BITMAP (mark_bytes ds)) x 0) here
        ∙ in-patch (over i) (mark_bytes ds) BITMAP (a - BITMAP) (omega (arith, over-length m i e))
        (omega (arith, marks-length ds))

pub seen-length : (m : List ℕ) (k : Kernel) (ds : List (Option Domain)) → length m ≡ 65536 → length (seen_in m k ds) ≡ 65536
unfolding seen_in
seen-length m k ds e = length-patch (patch m TABLES (bytes_in 3584 (layout k))) (mark_bytes ds) BITMAP 2048 (marks-length ds)
    (omega (arith, over-length m k e)) ∙ over-length m k e

-- ---- calls of the kernel

pub part-byte : (m : List ℕ) (a : ℕ) → a < 3584 → get_or (table_bytes m) a 0 ≡ get_or m (512 + a) 0
unfolding table_bytes part
part-byte m a l = get_or-take 3584 (drop 512 m) a 0 l ∙ get_or-drop 512 m a 0

pub tables-size : (m : List ℕ) → length m ≡ 65536 → length (table_bytes m) ≡ 3584
unfolding table_bytes part
tables-size m e = omega (arith, length-take 3584 (drop 512 m), length-drop 512 m)

-- a layout of so many bytes is seen whole
pub whole : (j : Kernel) (a : ℕ) → length (layout j) ≡ 3584 → get_or (layout j) a 0 < 256 → a < 3584
    → get_or (bytes_in 3584 (layout j)) a 0 ≡ get_or (layout j) a 0
whole j a size small l =
    first-bytes j a l
    ∙ get_or_append_left (map (λ b. b % 256) (layout j)) (replicate 3584 0) 0 a
    (omega (arith, length-map (layout j) (λ b. b % 256)))
    ∙ get_or-map (λ b. b % 256) (layout j) a 0 0 (omega arith)
    ∙ omega (arith, small)

-- as one that stands in a memory is
stands-whole : (m : List ℕ) (j : Kernel) (a : ℕ) → IsMemory m → table_bytes m ≡ layout j → a < 3584
    → get_or (bytes_in 3584 (layout j)) a 0 ≡ get_or (layout j) a 0
stands-whole m j a h e l =
    whole j a (ap length (sym e) ∙ tables-size m h.bytes)
    (subst (λ (xs : List ℕ). get_or xs a 0 < 256) e (subst (λ (x : ℕ). x < 256) (sym (part-byte m a l)) (h.small (512 + a)))) l

pub seen-leaves : SeenLeavesLaw
seen-leaves m before after k j ds hm hb ha laid is left =
    same_number_lists after (seen_in m j ds) (ha.bytes ∙ sym (seen-length m j ds hm.bytes)) each
  where
    tables-are : table_bytes after ≡ layout j
    tables-are = layout_from_laid_out after (left.laid_out laid) ∙ ap layout left.kernel

    beside : (a : ℕ) → (a < TABLES) ⊎ (TABLES_END ≤ a) → get_or after a 0 ≡ get_or (seen_in m j ds) a 0
    beside a h = outside_byte after before ha.bytes hb.bytes left.others a h ∙ ap (λ (xs : List ℕ). get_or xs a 0) is
        ∙ seen-outside m k j ds a hm.bytes h

    inside : (a : ℕ) → a < 3584 → get_or after (512 + a) 0 ≡ get_or (seen_in m j ds) (512 + a) 0
    inside a l = sym (part-byte after a l) ∙ ap (λ (xs : List ℕ). get_or xs a 0) tables-are ∙ sym (stands-whole after j a ha tables-are l)
        ∙ sym (seen-tables m j ds a hm.bytes l)

    each : (a : ℕ) → a < length after → get_or after a 0 ≡ get_or (seen_in m j ds) a 0
    each a l = elim (cases_lt a 512) [
      | inl x ↦ beside a (inl x)
      | inr y ↦ elim (cases_lt a TABLES_END) [
        | inl z ↦ (let here : 512 + (a - 512) ≡ a = omega arith in
            subst (λ (b : ℕ). get_or after b 0 ≡ get_or (seen_in m j ds) b 0) here (inside (a - 512) (omega arith)))
        | inr w ↦ beside a (inr w)
      ]
    ]

-- ---- writes

-- what is seen where bytes may be written
pub seen-free : (m : List ℕ) (k : Kernel) (ds : List (Option Domain)) (a : ℕ) → length m ≡ 65536 → (a < 512)
    ⊎ (((TABLES_END ≤ a) × (a < BITMAP)) ⊎ (BITMAP_END ≤ a)) → get_or (seen_in m k ds) a 0 ≡ get_or m a 0
unfolding seen_in
seen-free m k ds a e (inl l) =
    below-patch (patch m TABLES (bytes_in 3584 (layout k))) (mark_bytes ds) BITMAP a (omega (arith, over-length m k e))
    (omega arith) ∙ below-patch m (bytes_in 3584 (layout k)) TABLES a (omega arith) l
seen-free m k ds a e (inr (inl h)) =
    below-patch (patch m TABLES (bytes_in 3584 (layout k))) (mark_bytes ds) BITMAP a (omega (arith, over-length m k e)) h.1
    ∙ above-patch m (bytes_in 3584 (layout k)) TABLES 3584 a (tables-length k) (omega arith) (omega (arith, h.0))
seen-free m k ds a e (inr (inr u)) =
    above-patch (patch m TABLES (bytes_in 3584 (layout k))) (mark_bytes ds) BITMAP 2048 a (marks-length ds)
    (omega (arith, over-length m k e)) (omega arith)
    ∙ above-patch m (bytes_in 3584 (layout k)) TABLES 3584 a (tables-length k) (omega arith) (omega arith)

-- what is seen in the tables and in the marks isn't memory's
pub seen-over : (m n : List ℕ) (k : Kernel) (ds : List (Option Domain)) (a : ℕ) → length m ≡ 65536 → length n ≡ 65536
    → ((512 ≤ a) × (a < TABLES_END)) ⊎ ((BITMAP ≤ a) × (a < BITMAP_END)) → get_or (seen_in m k ds) a 0 ≡ get_or (seen_in n k ds) a 0
unfolding seen_in
seen-over m n k ds a e f (inl h) =
    let here : 512 + (a - 512) ≡ a = omega (arith, h.0) in
    subst (λ (b : ℕ). get_or (seen_in m k ds) b 0 ≡ get_or (seen_in n k ds) b 0) here
    (seen-tables m k ds (a - 512) e (omega (arith, h.1)) ∙ sym (seen-tables n k ds (a - 512) f (omega (arith, h.1))))
seen-over m n k ds a e f (inr h) =
    let here : BITMAP + (a - BITMAP) ≡ a = omega (arith, h.0) in
    subst (λ (b : ℕ). get_or (seen_in m k ds) b 0 ≡ get_or (seen_in n k ds) b 0) here
    (in-patch (patch m TABLES (bytes_in 3584 (layout k))) (mark_bytes ds) BITMAP (a - BITMAP) (omega (arith, over-length m k e))
    (omega (arith, marks-length ds, h.1))
    ∙ sym (in-patch (patch n TABLES (bytes_in 3584 (layout k))) (mark_bytes ds) BITMAP (a - BITMAP)
    (omega (arith, over-length n k f)) (omega (arith, marks-length ds, h.1))))

seen-set : (m : List ℕ) (k : Kernel) (ds : List (Option Domain)) (w : ℕ × ℕ) → length m ≡ 65536 → IsInPools w
    → set (seen_in m k ds) w.0 w.1 ≡ seen_in (set m w.0 w.1) k ds
seen-set m k ds w e h =
    same_number_lists (set (seen_in m k ds) w.0 w.1) (seen_in (set m w.0 w.1) k ds)
    (length-set (seen_in m k ds) w.0 w.1 ∙ seen-length m k ds e ∙ sym (seen-length (set m w.0 w.1) k ds size)) (λ a l. each a)
  where
    size : length (set m w.0 w.1) ≡ 65536
    size = length-set m w.0 w.1 ∙ e

    free : ((TABLES_END ≤ w.0) × (w.0 < BITMAP)) ⊎ ((BITMAP_END ≤ w.0) × (w.0 < 65536))
    free = elim h [ inl i ↦ inl (omega (arith, i.0), omega (arith, i.1)) | inr i ↦ inr (omega (arith, i.0), omega (arith, i.1)) ]

    room : w.0 < 65536
    room = elim free [ inl i ↦ omega (arith, i.1) | inr i ↦ omega (arith, i.1) ]

    open-at : (w.0 < 512) ⊎ (((TABLES_END ≤ w.0) × (w.0 < BITMAP)) ⊎ (BITMAP_END ≤ w.0))
    open-at = elim free [ inl i ↦ inr (inl i) | inr i ↦ inr (inr i.0) ]

    written : get_or (set (seen_in m k ds) w.0 w.1) w.0 0 ≡ get_or (seen_in (set m w.0 w.1) k ds) w.0 0
    written = get_or-set_same (seen_in m k ds) w.0 w.1 0 (omega (arith, seen-length m k ds e, room))
        ∙ sym (seen-free (set m w.0 w.1) k ds w.0 size open-at ∙ get_or-set_same m w.0 w.1 0 (omega (arith, room)))

    kept : (a : ℕ) → a ≢ w.0 → (a < TABLES) ⊎ (((TABLES_END ≤ a) × (a < BITMAP)) ⊎ (BITMAP_END ≤ a))
        → get_or (seen_in m k ds) a 0 ≡ get_or (seen_in (set m w.0 w.1) k ds) a 0
    kept a n o = seen-free m k ds a e o ∙ sym (seen-free (set m w.0 w.1) k ds a size o ∙ get_or-set_other m w.0 a w.1 0 n)

    other : (a : ℕ) → a ≢ w.0 → get_or (seen_in m k ds) a 0 ≡ get_or (seen_in (set m w.0 w.1) k ds) a 0
    other a n = elim (cases_lt a 512) [
      | inl l ↦ kept a n (inl l)
      | inr u ↦ elim (cases_lt a TABLES_END) [
        | inl l ↦ seen-over m (set m w.0 w.1) k ds a e size (inl (u, l))
        | inr v ↦ elim (cases_lt a BITMAP) [
          | inl l ↦ kept a n (inr (inl (v, l)))
          | inr x ↦ elim (cases_lt a BITMAP_END)
              [ inl l ↦ seen-over m (set m w.0 w.1) k ds a e size (inr (x, l)) | inr y ↦ kept a n (inr (inr y)) ]
        ]
      ]
    ]

    each : (a : ℕ) → get_or (set (seen_in m k ds) w.0 w.1) a 0 ≡ get_or (seen_in (set m w.0 w.1) k ds) a 0
    each a = elim (cases_eq a w.0) [
      | inl s ↦ subst (λ (b : ℕ). get_or (set (seen_in m k ds) w.0 w.1) b 0 ≡ get_or (seen_in (set m w.0 w.1) k ds) b 0) (sym s)
          written
      | inr n ↦ get_or-set_other (seen_in m k ds) w.0 a w.1 0 n ∙ other a n
    ]

pub seen-writes : SeenWritesLaw
seen-writes m k ds [] e h = refl
seen-writes m k ds (w ∷ ws) e h = ap (λ (xs : List ℕ). put_all xs ws) (seen-set m k ds w e h.0)
    ∙ seen-writes (set m w.0 w.1) k ds ws (length-set m w.0 w.1 ∙ e) h.1
