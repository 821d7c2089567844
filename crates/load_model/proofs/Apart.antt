-- Marks, code and region stand beside the tables.
use Rattle.std.proofs.Common.{◌≡◌, ℕ, ◌+◌, ◌-◌, ◌/◌, ◌%◌, ◌<◌, ◌≤◌, ◌⊎◌, List, length, get_or, sym, ap, ◌∙◌, inr, arith}
use Rattle.std.specs.Int.{bit_at}
use Rattle.kernel_model.specs.declared.map.TheConstants.{BITMAP, BITMAP_END, CODE_POOL, CODE_POOL_END, DATA_POOL, TABLES, TABLES_END}
use Rattle.kernel_model.specs.Kernel.{Kernel}
use Rattle.kernel_model.specs.Layout.{outside}
use Rattle.kernel_model.specs.Queues.{Leaves}
use Rattle.place_model.specs.Marking.{IsCodeWord, IsMarkBit}
use Rattle.load_model.specs.Laws.{TablesFirstLaw, TablesLastLaw}

abbrev pub OutsideLaw : Type 0
OutsideLaw = (m n : List ℕ) → length m ≡ 65536 → length n ≡ 65536 → outside m ≡ outside n → (a : ℕ)
    → (a < TABLES) ⊎ (TABLES_END ≤ a)
    → get_or m a 0 ≡ get_or n a 0

-- the byte of a mark
pub mark_byte : ℕ → ℕ
mark_byte at = BITMAP + (at - CODE_POOL) / 16

pub bit_same : (m n : List ℕ) (at : ℕ) → get_or n (mark_byte at) 0 ≡ get_or m (mark_byte at) 0 → IsMarkBit m at → IsMarkBit n at
unfolding mark_byte
bit_same m n at e h = ap (λ b. bit_at b ((at - CODE_POOL) / 2 % 8)) e ∙ h

pub mark_low : (at : ℕ) → IsCodeWord at → (BITMAP ≤ mark_byte at) × (mark_byte at < BITMAP_END)
unfolding mark_byte
mark_low at w =
    let above : CODE_POOL ≤ at = w.above in
    let below : at < CODE_POOL_END = w.below in
    (omega arith, omega arith)

-- memories with the same bytes outside of the tables
pub record AreAlike (before after : List ℕ) : Type 0 where
  pub bytes : (a : ℕ) → (a < TABLES) ⊎ (TABLES_END ≤ a) → get_or after a 0 ≡ get_or before a 0
  pub marks : (at : ℕ) → IsCodeWord at → get_or after (mark_byte at) 0 ≡ get_or before (mark_byte at) 0

alike : (m m1 : List ℕ) (k : Kernel) → OutsideLaw → length m ≡ 65536 → length m1 ≡ 65536 → Leaves m m1 k → AreAlike m m1
alike m m1 k law e e1 h = record {
  bytes = λ a s. law m1 m e1 e h.others a s;
  marks = λ at w. law m1 m e1 e h.others (mark_byte at) (inr (let low : BITMAP ≤ mark_byte at = (mark_low at w).0 in omega arith));
}

pub tables_first : OutsideLaw → TablesFirstLaw
tables_first law m m1 m2 k o r e e1 h l =
    let same : AreAlike m m1 = alike m m1 k law e e1 h in
    record {
      places = l.places;
      kernel = l.kernel ∙ h.kernel;
      laid_out = λ x. l.laid_out (h.laid_out x);
      queues = λ x. l.queues (h.queues x);
      code = l.code;
      region = l.region;
      marks = l.marks;
      other_marks = λ at w b. (
        λ x. bit_same m1 m at (sym (same.marks at w)) ((l.other_marks at w b).0 x),
        λ x. (l.other_marks at w b).1 (bit_same m m1 at (same.marks at w) x),
      );
      others = λ a t b s. l.others a t b s ∙ same.bytes a t;
    }

pub tables_last : OutsideLaw → TablesLastLaw
tables_last law m m1 m2 j k o r e1 e2 l h =
    let same : AreAlike m1 m2 = alike m1 m2 k law e1 e2 h in
    let code_low : CODE_POOL ≤ r.code_lo = l.places.code_low in
    let region_low : DATA_POOL ≤ r.lo = l.places.region_low in
    record {
      places = l.places;
      kernel = h.kernel;
      laid_out = λ x. h.laid_out (l.laid_out x);
      queues = λ x. h.queues (l.queues x);
      code = λ i b. same.bytes (r.code_lo + i) (inr (omega arith)) ∙ l.code i b;
      region = λ i b. same.bytes (r.lo + i) (inr (omega arith)) ∙ l.region i b;
      marks = λ at w f t. (
        λ x. (l.marks at w f t).0 (bit_same m2 m1 at (sym (same.marks at w)) x),
        λ x. bit_same m1 m2 at (same.marks at w) ((l.marks at w f t).1 x),
      );
      other_marks = λ at w b. (
        λ x. (l.other_marks at w b).0 (bit_same m2 m1 at (sym (same.marks at w)) x),
        λ x. bit_same m1 m2 at (same.marks at w) ((l.other_marks at w b).1 x),
      );
      others = λ a t b s. same.bytes a t ∙ l.others a t b s;
    }
