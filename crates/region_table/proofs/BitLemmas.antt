-- What writing one bit of the bitmap, and the bits of a piece of code, leaves.
use Rattle.std.proofs.Common.{◌≡◌, ◌≢◌, ℕ, ◌+◌, ◌-◌, ◌*◌, ◌/◌, ◌%◌, ◌<◌, ◌≤◌, ◌⊎◌, ◌↔◌, Bool, true, List, length, get_or, set, refl, ap, sym, ◌∙◌, subst, inl, inr, ⊎_elim, arith, length-set, get_or-set_same, get_or-set_other}
use Rattle.std.proofs.lemmas.Bool.{cases_eq}
use Rattle.std.specs.Int.{bit_at}
use Rattle.kernel_model.specs.declared.map.TheConstants.{BITMAP, BITMAP_END, CODE_POOL, TABLES_END}
use Rattle.kernel_model.specs.Layout.{tables}
use Rattle.kernel_model.specs.Bitmap.{Has}
use Rattle.place_model.specs.declared.places.Regions.{Regions}
use Rattle.place_model.specs.Marking.{IsCodeWord, IsMarkBit, Marked}
use Rattle.region_table.specs.Bits.{BitPut}

abbrev pub byte_of : ℕ → ℕ
byte_of at = BITMAP + (at - CODE_POOL) / 16

abbrev pub bit_of : ℕ → ℕ
bit_of at = (at - CODE_POOL) / 2 % 8

-- the bit of a byte that is another's by an equation
same_bit : (a b i : ℕ) → a ≡ b → (bit_at a i ≡ 1) ↔ (bit_at b i ≡ 1)
same_bit a b i e = (λ h. ap (λ n. bit_at n i) (sym e) ∙ h, λ h. ap (λ n. bit_at n i) e ∙ h)

bits_apart : (x at : ℕ) → IsCodeWord x → IsCodeWord at → x ≢ at → byte_of x ≡ byte_of at → bit_of x ≢ bit_of at
bits_apart x at w v n e = λ q. n (omega (arith, w.even, w.above, v.even, v.above))

-- a byte above the tables leaves them
abbrev pub TablesLaw : Type 0
TablesLaw = (m : List ℕ) (a v : ℕ) → TABLES_END ≤ a → tables (set m a v) ≡ tables m

pub bit_put : TablesLaw → (m : List ℕ) (at b : ℕ) (v : Bool) → length m ≡ 65536 → IsCodeWord at → (bit_at b (bit_of at) ≡ 1) ↔ (v ≡ true)
    → ((k : ℕ) → k < 8 → k ≢ bit_of at → bit_at b k ≡ bit_at (get_or m (byte_of at) 0) k) → BitPut m (set m (byte_of at) b) at v
bit_put law m at b v size w bit others =
    let within : byte_of at < length m = omega (arith, w.above, w.below) in
    let now : get_or (set m (byte_of at) b) (byte_of at) 0 ≡ b = get_or-set_same m (byte_of at) b 0 within in
    record {
      size = length-set m (byte_of at) b ∙ size;
      here = (
        λ h. bit.0 ((same_bit (get_or (set m (byte_of at) b) (byte_of at) 0) b (bit_of at) now).0 h),
        λ h. (same_bit (get_or (set m (byte_of at) b) (byte_of at) 0) b (bit_of at) now).1 (bit.1 h),
      );
      beside = λ x x_word apart. ⊎_elim
          (λ (e : byte_of x ≡ byte_of at).
          let same : bit_at (get_or (set m (byte_of at) b) (byte_of x) 0) (bit_of x) ≡ bit_at (get_or m (byte_of x) 0) (bit_of x) =
          ap (λ i. bit_at (get_or (set m (byte_of at) b) i 0) (bit_of x)) e
          ∙ ap (λ n. bit_at n (bit_of x)) now
          ∙ others (bit_of x) (omega arith) (bits_apart x at x_word w apart e)
          ∙ ap (λ i. bit_at (get_or m i 0) (bit_of x)) (sym e) in
          (λ h. sym same ∙ h, λ h. same ∙ h))
          (λ (n : byte_of x ≡ byte_of at → ⊥). same_bit _ _ (bit_of x) (get_or-set_other m (byte_of at) (byte_of x) b 0 n))
          (cases_eq (byte_of x) (byte_of at));
      outside = λ a away. get_or-set_other m (byte_of at) a b 0 (λ e. ⊎_elim
          (λ (l : a < BITMAP). omega arith)
          (λ (g : BITMAP_END ≤ a). omega (arith, w.above, w.below))
          away);
      tables = law m (byte_of at) b (omega arith);
    }

-- ---- the words of a code, one by one

abbrev pub up_to : Regions → ℕ → Regions
up_to r hi = record r { code_hi = hi }

pub marked_none : (m : List ℕ) (r : Regions) (marks : List ℕ) → length m ≡ 65536 → Marked m m (up_to r (r.code_lo + 2 * 0)) marks
marked_none m r marks size = record {
  size = size;
  inside = λ at w l h. absurd (omega arith);
  beside = λ at w away. (λ h. h, λ h. h);
  outside = λ a away. refl;
  tables = refl;
}

pub marked_more : (a b c : List ℕ) (r : Regions) (marks : List ℕ) (w : ℕ) (v : Bool) → Marked a b (up_to r (r.code_lo + 2 * w)) marks
    → BitPut b c (r.code_lo + 2 * w) v → (v ≡ true) ↔ Has marks (2 * w / 2) → IsCodeWord (r.code_lo + 2 * w) → r.code_lo % 2 ≡ 0
    → Marked a c (up_to r (r.code_lo + 2 * (w + 1))) marks
marked_more a b c r marks w v before put mark word even = record {
  size = put.size;
  inside = λ at at_word l h. ⊎_elim
      (λ (e : at ≡ r.code_lo + 2 * w).
      let same : (at - r.code_lo) / 2 ≡ 2 * w / 2 = omega arith in
      let now : IsMarkBit c (r.code_lo + 2 * w) ↔ (v ≡ true) = put.here in (
        λ q. subst (λ (k : ℕ). Has marks k) (sym same) (mark.0 (now.0 (subst (λ (x : ℕ). IsMarkBit c x) e q))),
        λ q. subst (λ (x : ℕ). IsMarkBit c x) (sym e) (now.1 (mark.1 (subst (λ (k : ℕ). Has marks k) same q))),
      ))
      (λ (n : at ≡ r.code_lo + 2 * w → ⊥).
      let old : IsMarkBit b at ↔ Has marks ((at - r.code_lo) / 2) = before.inside at at_word l (omega (arith, at_word.even)) in
      let kept : IsMarkBit c at ↔ IsMarkBit b at = put.beside at at_word n in
      (λ q. old.0 (kept.0 q), λ q. kept.1 (old.1 q)))
      (cases_eq at (r.code_lo + 2 * w));
  beside = λ at at_word away.
      let apart : at ≢ r.code_lo + 2 * w = λ e. ⊎_elim (λ (l : at < r.code_lo). omega arith) (λ (g : r.code_lo + 2 * (w + 1) ≤ at). omega arith) away in
      let further : (at < r.code_lo) ⊎ (r.code_lo + 2 * w ≤ at) = ⊎_elim (λ (l : at < r.code_lo). inl l) (λ (g : r.code_lo + 2 * (w + 1) ≤ at). inr (omega arith)) away in
      let old : IsMarkBit b at ↔ IsMarkBit a at = before.beside at at_word further in
      let kept : IsMarkBit c at ↔ IsMarkBit b at = put.beside at at_word apart in
      (λ q. old.0 (kept.0 q), λ q. kept.1 (old.1 q));
  outside = λ x away. put.outside x away ∙ before.outside x away;
  tables = put.tables ∙ before.tables;
}

pub marked_all : (a b : List ℕ) (r : Regions) (marks : List ℕ) (hi : ℕ) → Marked a b (up_to r hi) marks → hi ≡ r.code_hi → Marked a b r marks
marked_all a b r marks hi h e = subst (λ (x : ℕ). Marked a b (up_to r x) marks) e h
