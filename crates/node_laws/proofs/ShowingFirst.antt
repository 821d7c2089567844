-- A cleared memory shows the system with nothing in it.
use Rattle.std.proofs.Common.{◌≡◌, ℕ, ◌+◌, ◌-◌, ◌*◌, ◌/◌, ◌<◌, ◌≤◌, ◌⊎◌, List, length, get_or, replicate, inl, inr, refl, sym, ap, ◌∙◌, subst, arith, Option, None}
use Rattle.std.proofs.lemmas.Bool.{cases_lt}
use Rattle.std.proofs.lemmas.Grind.{same_number_lists}
use Rattle.std.proofs.lemmas.List.{length-replicate, get_or-replicate, get_or_past}
use Rattle.flat_mem.specs.Bytes.{patch}
use Rattle.machine_model.specs.Memory.{word_at, IsMemory}
use Rattle.kernel_model.specs.declared.map.TheConstants.{BITMAP, BITMAP_END, CODE_POOL, FIRST_ROUTINE, TABLES, TABLES_END, VECTORS, VECTORS_END}
use Rattle.kernel_model.specs.Layout.{empty}
use Rattle.load_model.specs.Domains.{Domain}
use Rattle.node_model.specs.Systems.{seen_in, mark_byte}
use Rattle.node_model.specs.Booting.{vectors, first_memory, empty_system}
use Rattle.node_model.specs.BootCode.{IsCleared, FirstSeenLaw}
use Rattle.node_laws.proofs.FirstSystem.{first-loading}
use Rattle.node_laws.proofs.Marking.{byte-seen}
use Rattle.node_laws.proofs.Representing.{seen-length, seen-free}
use Rattle.node_laws.proofs.Seeing.{above-patch, below-patch}
use Rattle.node_laws.proofs.Showing.{tables-shown}

-- ---- bytes that are 0

abbrev zeros : ℕ → List ℕ
zeros n = replicate n 0

zero-at : (n a : ℕ) → get_or (zeros n) a 0 ≡ 0
zero-at n a = elim (cases_lt a n) [
  | inl l ↦ get_or-replicate n a 0 0 l
  | inr u ↦ get_or_past (replicate n 0) a 0 (omega (arith, length-replicate {A = ℕ} n 0))
]

-- the first memory has 0 but in the vectors
zero-beside : (m : List ℕ) (a : ℕ) → length m ≡ 65536 → ((i : ℕ) → get_or m i 0 ≡ 0) → (a < VECTORS) ⊎ (VECTORS_END ≤ a)
    → get_or (patch m VECTORS vectors) a 0 ≡ 0
zero-beside m a e z (inl l) = below-patch m vectors VECTORS a (omega arith) l ∙ z a
zero-beside m a e z (inr u) = above-patch m vectors VECTORS 28 a refl (omega arith) (omega arith) ∙ z a

first-zero : (a : ℕ) → (a < VECTORS) ⊎ (VECTORS_END ≤ a) → get_or first_memory a 0 ≡ 0
unfolding first_memory
first-zero a h = zero-beside (replicate 65536 0) a (length-replicate {A = ℕ} 65536 0) (zero-at 65536) h

-- no domain has a mark
no-mark : (at : ℕ) → mark_byte (replicate 12 None) at ≡ 0
no-mark at = refl

-- ---- the vectors

record IsFirst (m : List ℕ) : Type 0 where
  memory : IsMemory m
  vectors : (n : ℕ) → n < 14 → word_at m (VECTORS + 2 * n) ≡ FIRST_ROUTINE + 2 * n

first-is : IsFirst first_memory
unfolding empty_system
first-is = record { memory = first-loading.code.memory; vectors = first-loading.code.vectors }

-- two memories with the same words there have the same bytes
same-bytes : (m after : List ℕ) (n : ℕ) → IsFirst m → IsMemory after → n < 14
    → get_or after (VECTORS + 2 * n) 0 + 256 * get_or after (VECTORS + 2 * n + 1) 0 ≡ FIRST_ROUTINE + 2 * n
    → (get_or after (VECTORS + 2 * n) 0 ≡ get_or m (VECTORS + 2 * n) 0)
    × (get_or after (VECTORS + 2 * n + 1) 0 ≡ get_or m (VECTORS + 2 * n + 1) 0)
unfolding word_at
same-bytes m after n f h l e =
    let even : (VECTORS + 2 * n) / 2 * 2 ≡ VECTORS + 2 * n = omega arith in
    let word : get_or m (VECTORS + 2 * n) 0 + 256 * get_or m (VECTORS + 2 * n + 1) 0 ≡ FIRST_ROUTINE + 2 * n =
    subst (λ (x : ℕ). get_or m x 0 + 256 * get_or m (x + 1) 0 ≡ FIRST_ROUTINE + 2 * n) even (f.vectors n l) in
    let a0 : get_or after (VECTORS + 2 * n) 0 < 256 = h.small (VECTORS + 2 * n) in
    let a1 : get_or after (VECTORS + 2 * n + 1) 0 < 256 = h.small (VECTORS + 2 * n + 1) in
    let m0 : get_or m (VECTORS + 2 * n) 0 < 256 = f.memory.small (VECTORS + 2 * n) in
    let m1 : get_or m (VECTORS + 2 * n + 1) 0 < 256 = f.memory.small (VECTORS + 2 * n + 1) in
    (omega (arith, e, word, a0, a1, m0, m1), omega (arith, e, word, a0, a1, m0, m1))

vector-byte : (m after : List ℕ) (a : ℕ) → IsFirst m → IsMemory after → VECTORS ≤ a → a < VECTORS_END
    → ((n : ℕ) → n < 14 → get_or after ((VECTORS + 2 * n) / 2 * 2) 0 + 256 * get_or after ((VECTORS + 2 * n) / 2 * 2 + 1) 0 ≡ FIRST_ROUTINE + 2 * n)
    → get_or after a 0 ≡ get_or m a 0
vector-byte m after a f h g l words =
    let n : ℕ = (a - VECTORS) / 2 in
    let few : n < 14 = omega arith in
    let even : (VECTORS + 2 * n) / 2 * 2 ≡ VECTORS + 2 * n = omega arith in
    let word : get_or after (VECTORS + 2 * n) 0 + 256 * get_or after (VECTORS + 2 * n + 1) 0 ≡ FIRST_ROUTINE + 2 * n =
    subst (λ (x : ℕ). get_or after x 0 + 256 * get_or after (x + 1) 0 ≡ FIRST_ROUTINE + 2 * n) even (words n few) in
    let both : (get_or after (VECTORS + 2 * n) 0 ≡ get_or m (VECTORS + 2 * n) 0)
    × (get_or after (VECTORS + 2 * n + 1) 0 ≡ get_or m (VECTORS + 2 * n + 1) 0) = same-bytes m after n f h few word in
    elim (cases_lt (VECTORS + 2 * n) a) [
      | inl odd ↦ (let here : VECTORS + 2 * n + 1 ≡ a = omega arith in
          subst (λ (x : ℕ). get_or after x 0 ≡ get_or m x 0) here both.1)
      | inr same ↦ (let here : VECTORS + 2 * n ≡ a = omega arith in
          subst (λ (x : ℕ). get_or after x 0 ≡ get_or m x 0) here both.0)
    ]

-- ---- all bytes

-- outside of the tables and of the vectors
abbrev IsElsewhere : ℕ → Type 0
IsElsewhere a = (a < TABLES) ⊎ (((TABLES_END ≤ a) × (a < VECTORS)) ⊎ (VECTORS_END ≤ a))

first-bytes : (before after : List ℕ) → IsCleared before after → after ≡ seen_in first_memory empty (replicate 12 None)
first-bytes before after h =
    same_number_lists after (seen_in first_memory empty ds)
    (h.memory.bytes ∙ sym (seen-length first_memory empty ds size)) (λ a l. each a)
  where
    ds : List (Option Domain)
    ds = replicate 12 None

    size : length first_memory ≡ 65536
    size = first-is.memory.bytes

    zero-after : (a : ℕ) → IsElsewhere a → get_or after a 0 ≡ 0
    zero-after a e = h.others a e ∙ ap (λ (xs : List ℕ). get_or xs a 0) h.zeros ∙ zero-at 65536 a

    free-zero : (a : ℕ) → (a < TABLES) ⊎ (((TABLES_END ≤ a) × (a < BITMAP)) ⊎ (BITMAP_END ≤ a)) → IsElsewhere a
        → (a < VECTORS) ⊎ (VECTORS_END ≤ a) → get_or after a 0 ≡ get_or (seen_in first_memory empty ds) a 0
    free-zero a f e z = zero-after a e ∙ sym (seen-free first_memory empty ds a size f ∙ first-zero a z)

    marks : (a : ℕ) → BITMAP ≤ a → a < BITMAP_END → get_or after a 0 ≡ get_or (seen_in first_memory empty ds) a 0
    marks a g l =
        let here : BITMAP + (a - BITMAP) ≡ a = omega arith in
        zero-after a (inr (inl (omega arith, omega arith)))
        ∙ sym (ap (λ (x : ℕ). get_or (seen_in first_memory empty ds) x 0) (sym here)
        ∙ byte-seen first_memory empty ds (a - BITMAP) size (omega arith) ∙ no-mark (CODE_POOL + 16 * (a - BITMAP)))

    tables : (a : ℕ) → 512 ≤ a → a < TABLES_END → get_or after a 0 ≡ get_or (seen_in first_memory empty ds) a 0
    tables a g l =
        let here : 512 + (a - 512) ≡ a = omega arith in
        subst (λ (x : ℕ). get_or after x 0 ≡ get_or (seen_in first_memory empty ds) x 0) here
        (tables-shown after first_memory empty ds (a - 512) h.memory h.laid_out h.kernel size (omega arith))

    above : (a : ℕ) → BITMAP_END ≤ a → get_or after a 0 ≡ get_or (seen_in first_memory empty ds) a 0
    above a g = elim (cases_lt a VECTORS) [
      | inl l ↦ free-zero a (inr (inr g)) (inr (inl (omega arith, l))) (inl l)
      | inr u ↦ elim (cases_lt a VECTORS_END) [
        | inl l ↦ vector-byte first_memory after a first-is h.memory u l h.vectors
            ∙ sym (seen-free first_memory empty ds a size (inr (inr g)))
        | inr v ↦ free-zero a (inr (inr g)) (inr (inr v)) (inr v)
      ]
    ]

    each : (a : ℕ) → get_or after a 0 ≡ get_or (seen_in first_memory empty ds) a 0
    each a = elim (cases_lt a 512) [
      | inl l ↦ free-zero a (inl l) (inl l) (inl (omega arith))
      | inr u ↦ elim (cases_lt a TABLES_END) [
        | inl l ↦ tables a u l
        | inr v ↦ elim (cases_lt a BITMAP) [
          | inl l ↦ free-zero a (inr (inl (v, l))) (inr (inl (v, omega arith))) (inl (omega arith))
          | inr w ↦ elim (cases_lt a BITMAP_END) [ inl l ↦ marks a w l | inr x ↦ above a x ]
        ]
      ]
    ]

pub first-seen : FirstSeenLaw
unfolding empty_system
first-seen before after h = record { memory = h.memory; bytes = first-bytes before after h; kernel = h.kernel }
