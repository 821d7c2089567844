-- A relocation or an export has no fault exactly where its numbers are these; and then it fits its object.
use Rattle.std.proofs.Common.{◌≡◌, ℕ, zero, suc, ◌+◌, ◌*◌, ◌%◌, ◌<◌, ◌≤◌, Bool, true, false, cond, eqb, List, length, None, refl, ap, arith, lit≤}
use Rattle.std.proofs.lemmas.Bool.{leb-true, le-leb, eqb-true, eq-eqb, ltb-true, lt-ltb}
use Rattle.code_model.specs.Form.{kind_code, key, RelocFits}
use Rattle.object_form.specs.Reading.{byte_at, word_at, rel_kind_of, reloc_at}
use Rattle.object_form.specs.Faults.{field_fault, key_at, greatest_kind, section_size, reloc_field, export_field}
use Rattle.object_form.proofs.Tables.{field-given, field-holds}

pub record RelocNumbers (t : List ℕ) (p least : ℕ) : Type 0 where
  pub there : p + 4 ≤ length t
  pub section : byte_at t p ≤ 1
  pub kind_least : 1 ≤ byte_at t (p + 1)
  pub kind_most : byte_at t (p + 1) ≤ greatest_kind (byte_at t p)
  pub even : word_at t (p + 2) % 2 ≡ 0
  pub whole : word_at t (p + 2) + 2 ≤ section_size t (byte_at t p)
  pub rises : least ≤ key_at t p

pub reloc-given : (t : List ℕ) (p least : ℕ) → field_fault t (reloc_field t p least) ≡ None → RelocNumbers t p least
unfolding reloc_field
reloc-given t p least e =
    let h = field-given t (reloc_field t p least) e in
    record {
      there = h.0;
      section = leb-true (byte_at t p) 1 h.1.0;
      kind_least = leb-true 1 (byte_at t (p + 1)) h.1.1.0;
      kind_most = leb-true (byte_at t (p + 1)) (greatest_kind (byte_at t p)) h.1.1.1.0;
      even = eqb-true (word_at t (p + 2) % 2) 0 h.1.1.1.1.0;
      whole = leb-true (word_at t (p + 2) + 2) (section_size t (byte_at t p)) h.1.1.1.1.1.0;
      rises = leb-true least (key_at t p) h.1.1.1.1.1.1.0;
    }

pub reloc-holds : (t : List ℕ) (p least : ℕ) → RelocNumbers t p least → field_fault t (reloc_field t p least) ≡ None
unfolding reloc_field
reloc-holds t p least h =
    field-holds t (reloc_field t p least) (h.there, (le-leb (byte_at t p) 1 h.section, (le-leb 1 (byte_at t (p + 1)) h.kind_least, (le-leb (byte_at t (p + 1)) (greatest_kind (byte_at t p)) h.kind_most, (eq-eqb (word_at t (p + 2) % 2) 0 h.even, (le-leb (word_at t (p + 2) + 2) (section_size t (byte_at t p)) h.whole, (le-leb least (key_at t p) h.rises, tt)))))))

pub record ExportNumbers (t : List ℕ) (p least : ℕ) : Type 0 where
  pub there : p + 4 ≤ length t
  pub number_most : byte_at t p ≤ 63
  pub rises : least ≤ byte_at t p
  pub zero_byte : byte_at t (p + 1) ≡ 0
  pub even : word_at t (p + 2) % 2 ≡ 0
  pub below : word_at t (p + 2) < 2 * word_at t 6

pub export-given : (t : List ℕ) (p least : ℕ) → field_fault t (export_field t p least) ≡ None → ExportNumbers t p least
unfolding export_field
export-given t p least e =
    let h = field-given t (export_field t p least) e in
    record {
      there = h.0;
      number_most = leb-true (byte_at t p) 63 h.1.0;
      rises = leb-true least (byte_at t p) h.1.1.0;
      zero_byte = eqb-true (byte_at t (p + 1)) 0 h.1.1.1.0;
      even = eqb-true (word_at t (p + 2) % 2) 0 h.1.1.1.1.0;
      below = ltb-true (word_at t (p + 2)) (2 * word_at t 6) h.1.1.1.1.1.0;
    }

pub export-holds : (t : List ℕ) (p least : ℕ) → ExportNumbers t p least → field_fault t (export_field t p least) ≡ None
unfolding export_field
export-holds t p least h =
    field-holds t (export_field t p least) (h.there, (le-leb (byte_at t p) 63 h.number_most, (le-leb least (byte_at t p) h.rises, (eq-eqb (byte_at t (p + 1)) 0 h.zero_byte, (eq-eqb (word_at t (p + 2) % 2) 0 h.even, (lt-ltb (word_at t (p + 2)) (2 * word_at t 6) h.below, tt))))))

-- a number from 1 to 4 is that of the kind that it gives
pub kind_code-of : (n : ℕ) → 1 ≤ n → n ≤ 4 → kind_code (rel_kind_of n) ≡ n
kind_code-of zero p q = absurd (omega arith)
kind_code-of (suc zero) p q = refl
kind_code-of (suc (suc zero)) p q = refl
kind_code-of (suc (suc (suc zero))) p q = refl
kind_code-of (suc (suc (suc (suc zero)))) p q = refl
kind_code-of (suc (suc (suc (suc (suc n))))) p q = absurd (omega arith)

key-by_section : (b w : ℕ) → b ≤ 1 → cond (eqb b 0) w (w + 65536) ≡ 65536 * b + w
key-by_section zero w le = omega arith
key-by_section (suc zero) w le = omega arith
key-by_section (suc (suc b)) w le = absurd (omega arith)

pub key-reloc_at : (t : List ℕ) (p : ℕ) → byte_at t p ≤ 1 → key (reloc_at t p) ≡ key_at t p
key-reloc_at t p le = key-by_section (byte_at t p) (word_at t (p + 2)) le

at_most_four : (c : Bool) → cond c 4 2 ≤ 4
at_most_four true = lit≤ tt
at_most_four false = lit≤ tt

pub greatest_kind-most : (b : ℕ) → greatest_kind b ≤ 4
greatest_kind-most b = at_most_four (eqb b 0)

pub reloc-fits : (t code init : List ℕ) (p least : ℕ) → length code ≡ word_at t 6 → length init ≡ word_at t 8 → RelocNumbers t p least → RelocFits code init (reloc_at t p)
reloc-fits t code init p least code-is init-is h = record {
  even = h.even;
  in_code = λ e.
      let size : section_size t (byte_at t p) ≡ 2 * word_at t 6 = ap (λ (b : Bool). cond b (2 * word_at t 6) (word_at t 8)) e in
      omega (arith, size, code-is, h.whole);
  in_init = λ e.
      let size : section_size t (byte_at t p) ≡ word_at t 8 = ap (λ (b : Bool). cond b (2 * word_at t 6) (word_at t 8)) e in
      omega (arith, size, init-is, h.whole);
  init_kind = λ e.
      let most : greatest_kind (byte_at t p) ≡ 2 = ap (λ (b : Bool). cond b 4 2) e in
      omega (arith, most, h.kind_most, kind_code-of (byte_at t (p + 1)) h.kind_least (omega (arith, greatest_kind-most (byte_at t p), h.kind_most)));
}
