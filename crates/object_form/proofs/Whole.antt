-- A text has no fault exactly where its head, its sections, each relocation, each export and its end are right; and then its fields
-- meet the form.
use Rattle.std.proofs.Common.{◌≡◌, ℕ, zero, suc, ◌+◌, ◌*◌, ◌<◌, ◌≤◌, Bool, true, false, cond, List, ◌++◌, length, get_or, Option, Some, None, refl, ap, sym, subst, ◌∙◌, arith, inl, inr}
use Rattle.std.specs.Prelude.{nat_le}
use Rattle.std.proofs.lemmas.Bool.{leb-true, le-leb, cases_lt}
use Rattle.code_model.specs.declared.parts.Reloc.{Reloc}
use Rattle.code_model.specs.declared.parts.Export.{Export}
use Rattle.object_form.specs.declared.fault.FormKind.TheVariants as kinds
use Rattle.code_model.specs.Form.{key, InOrder, NumbersRise}
use Rattle.object_form.specs.Reading.{byte_at, word_at, listed, reloc_at, export_at, init_start, relocs_start, exports_start, text_end, relocs_from, exports_from}
use Rattle.object_form.specs.Faults.{Reason, reason, or_else, first_fault, head_fields, part_fields, key_at, least_key, least_number, reloc_field, reloc_fields, export_field, export_fields, fields_of_text, trailing, first_form_fault}
use Rattle.object_form.proofs.Tables.{or_else-parts, or_else-both, fields-given, fields-hold}
use Rattle.object_form.proofs.FaultLemmas.{or_else-assoc, first_fault-append, listed-given, listed-holds}
use Rattle.object_form.proofs.Blocks.{length-listed, get_or-listed}
use Rattle.object_form.proofs.HeadTable.{HeadNumbers, head-given, head-holds}
use Rattle.object_form.proofs.EntryTable.{RelocNumbers, reloc-given, reloc-holds, ExportNumbers, export-given, export-holds, key-reloc_at}

abbrev relocs_fault : List ℕ → Option Reason
relocs_fault t = first_fault t (reloc_fields t (relocs_start t) (word_at t 18))

abbrev exports_fault : List ℕ → Option Reason
exports_fault t = first_fault t (export_fields t (exports_start t) (byte_at t 15))

-- the parts in order, head first
pub whole-in_parts : (t : List ℕ) → first_form_fault t ≡ or_else (first_fault t (head_fields t)) (or_else (first_fault t (part_fields t)) (or_else (relocs_fault t) (or_else (exports_fault t) (trailing t))))
unfolding first_form_fault fields_of_text
whole-in_parts t =
    let h = head_fields t in
    let p = part_fields t in
    let r = reloc_fields t (relocs_start t) (word_at t 18) in
    let x = export_fields t (exports_start t) (byte_at t 15) in
    let e1 : first_fault t (h ++ (p ++ (r ++ x))) ≡ or_else (first_fault t h) (first_fault t (p ++ (r ++ x))) = first_fault-append t h (p ++ (r ++ x)) in
    let e2 : first_fault t (p ++ (r ++ x)) ≡ or_else (first_fault t p) (first_fault t (r ++ x)) = first_fault-append t p (r ++ x) in
    let e3 : first_fault t (r ++ x) ≡ or_else (first_fault t r) (first_fault t x) = first_fault-append t r x in
    ap (λ (a : Option Reason). or_else a (trailing t)) (e1 ∙ ap (or_else (first_fault t h)) (e2 ∙ ap (or_else (first_fault t p)) e3))
    ∙ or_else-assoc (first_fault t h) (or_else (first_fault t p) (or_else (first_fault t r) (first_fault t x))) (trailing t)
    ∙ ap (or_else (first_fault t h)) (or_else-assoc (first_fault t p) (or_else (first_fault t r) (first_fault t x)) (trailing t) ∙ ap (or_else (first_fault t p)) (or_else-assoc (first_fault t r) (first_fault t x) (trailing t)))

pub record WholeNumbers (t : List ℕ) : Type 0 where
  pub head : HeadNumbers t
  pub code_there : init_start t ≤ length t
  pub init_there : relocs_start t ≤ length t
  pub relocs : (k : ℕ) → k < word_at t 18 → RelocNumbers t (relocs_start t + 4 * k) (least_key t (relocs_start t) k)
  pub exports : (k : ℕ) → k < byte_at t 15 → ExportNumbers t (exports_start t + 4 * k) (least_number t (exports_start t) k)
  pub ended : length t ≤ text_end t

trailing-given : (b : Bool) (r : Reason) → cond b None (Some r) ≡ None → b ≡ true
trailing-given true r e = refl
trailing-given false r e = absurd cc

pub whole-given : (t : List ℕ) → first_form_fault t ≡ None → WholeNumbers t
whole-given t e =
    let p0 = or_else-parts (first_fault t (head_fields t)) _ (sym (whole-in_parts t) ∙ e) in
    let p1 = or_else-parts (first_fault t (part_fields t)) _ p0.1 in
    let p2 = or_else-parts (relocs_fault t) _ p1.1 in
    let p3 = or_else-parts (exports_fault t) (trailing t) p2.1 in
    let parts = fields-given t (part_fields t) p1.0 in
    record {
      head = head-given t p0.0;
      code_there = parts.0.0;
      init_there = parts.1.0.0;
      relocs = λ k lt. reloc-given t (relocs_start t + 4 * k) (least_key t (relocs_start t) k) (listed-given t (word_at t 18) (λ j. reloc_field t (relocs_start t + 4 * j) (least_key t (relocs_start t) j)) p2.0 k lt);
      exports = λ k lt. export-given t (exports_start t + 4 * k) (least_number t (exports_start t) k) (listed-given t (byte_at t 15) (λ j. export_field t (exports_start t + 4 * j) (least_number t (exports_start t) j)) p3.0 k lt);
      ended = leb-true (length t) (text_end t) (trailing-given (nat_le (length t) (text_end t)) (record { kind = kinds.Trailing; offset = text_end t }) p3.1);
    }

pub whole-holds : (t : List ℕ) → WholeNumbers t → first_form_fault t ≡ None
whole-holds t h =
    let parts : first_fault t (part_fields t) ≡ None = fields-hold t (part_fields t) ((h.code_there, tt), ((h.init_there, tt), tt)) in
    let relocs : relocs_fault t ≡ None = listed-holds t (word_at t 18) (λ j. reloc_field t (relocs_start t + 4 * j) (least_key t (relocs_start t) j)) (λ k lt. reloc-holds t (relocs_start t + 4 * k) (least_key t (relocs_start t) k) (h.relocs k lt)) in
    let exports : exports_fault t ≡ None = listed-holds t (byte_at t 15) (λ j. export_field t (exports_start t + 4 * j) (least_number t (exports_start t) j)) (λ k lt. export-holds t (exports_start t + 4 * k) (least_number t (exports_start t) k) (h.exports k lt)) in
    let ended : trailing t ≡ None = ap (λ (b : Bool). cond b None (reason kinds.Trailing (text_end t))) (le-leb (length t) (text_end t) h.ended) in
    whole-in_parts t ∙ or_else-both (first_fault t (head_fields t)) _ (head-holds t h.head) (or_else-both (first_fault t (part_fields t)) _ parts (or_else-both (relocs_fault t) _ relocs (or_else-both (exports_fault t) (trailing t) exports ended)))

-- ---- the fields of a text without fault meet the form

-- keys that each pass the one before rise
rising : (f : ℕ → ℕ) (n : ℕ) → ((j : ℕ) → suc j < n → f j < f (suc j)) → (j k : ℕ) → j < k → k < n → f j < f k
rising f n step j zero lt below = absurd (omega arith)
rising f n step j (suc k) lt below =
    elim (cases_lt j k) [
      | inl less ↦ omega (arith, rising f n step j k less (omega arith), step k below)
      | inr past ↦
          let here : j ≡ k = omega arith in
          subst (λ (m : ℕ). f m < f (suc k)) (sym here) (step k below)
    ]

keys-rise : (t : List ℕ) (h : WholeNumbers t) → (j k : ℕ) → j < k → k < word_at t 18 → key_at t (relocs_start t + 4 * j) < key_at t (relocs_start t + 4 * k)
unfolding least_key
keys-rise t h = rising (λ j. key_at t (relocs_start t + 4 * j)) (word_at t 18) (λ j lt. omega (arith, (h.relocs (suc j) lt).rises))

numbers-rise : (t : List ℕ) (h : WholeNumbers t) → (j k : ℕ) → j < k → k < byte_at t 15 → byte_at t (exports_start t + 4 * j) < byte_at t (exports_start t + 4 * k)
unfolding least_number
numbers-rise t h = rising (λ j. byte_at t (exports_start t + 4 * j)) (byte_at t 15) (λ j lt. omega (arith, (h.exports (suc j) lt).rises))

pub in_order-read : (t : List ℕ) (h : WholeNumbers t) → InOrder (relocs_from t (relocs_start t) (word_at t 18))
in_order-read t h j k d lt below =
    let n = word_at t 18 in
    let f : ℕ → Reloc = λ i. reloc_at t (relocs_start t + 4 * i) in
    let count = length-listed n f in
    let k-below : k < n = omega (arith, count) in
    let j-below : j < n = omega arith in
    let first : key (get_or (listed n f) j d) ≡ key_at t (relocs_start t + 4 * j) = ap key (get_or-listed n f j d j-below) ∙ key-reloc_at t (relocs_start t + 4 * j) (h.relocs j j-below).section in
    let second : key (get_or (listed n f) k d) ≡ key_at t (relocs_start t + 4 * k) = ap key (get_or-listed n f k d k-below) ∙ key-reloc_at t (relocs_start t + 4 * k) (h.relocs k k-below).section in
    omega (arith, first, second, keys-rise t h j k lt k-below)

pub numbers_rise-read : (t : List ℕ) (h : WholeNumbers t) → NumbersRise (exports_from t (exports_start t) (byte_at t 15))
numbers_rise-read t h j k d lt below =
    let n = byte_at t 15 in
    let f : ℕ → Export = λ i. export_at t (exports_start t + 4 * i) in
    let count = length-listed n f in
    let k-below : k < n = omega (arith, count) in
    let j-below : j < n = omega arith in
    let first : (get_or (listed n f) j d).number ≡ byte_at t (exports_start t + 4 * j) = ap (λ (x : Export). x.number) (get_or-listed n f j d j-below) in
    let second : (get_or (listed n f) k d).number ≡ byte_at t (exports_start t + 4 * k) = ap (λ (x : Export). x.number) (get_or-listed n f k d k-below) in
    omega (arith, first, second, numbers-rise t h j k lt k-below)
