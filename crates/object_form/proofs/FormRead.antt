-- The fields of a text without fault meet the form, and the text is theirs.
use Rattle.std.proofs.Common.{◌≡◌, ℕ, ◌+◌, ◌*◌, ◌<◌, ◌≤◌, List, length, get_or, None, sym, subst, ◌∙◌, arith, lit<, inl, inr}
use Rattle.std.proofs.lemmas.Bool.{cases_lt}
use Rattle.std.proofs.lemmas.List.{get_or_past}
use Rattle.kernel_model.specs.declared.kinds.Kind.{Kind}
use Rattle.kernel_model.specs.declared.kinds.Kind.TheVariants.{App, Module}
use Rattle.code_model.specs.declared.parts.Reloc.{Reloc}
use Rattle.code_model.specs.declared.parts.Export.{Export}
use Rattle.code_model.specs.Form.{IsInCode, RelocFits, AppForm, ModuleForm}
use Rattle.code_model.specs.Fields.{Meets}
use Rattle.object_form.specs.Reading.{byte_at, word_at, kind_of, listed, reloc_at, export_at, init_start, relocs_start, exports_start, fields_in}
use Rattle.object_form.specs.Faults.{first_form_fault}
use Rattle.object_form.proofs.Blocks.{length-listed, get_or-listed}
use Rattle.object_form.proofs.HeadTable.{KindNumbers}
use Rattle.object_form.proofs.EntryTable.{reloc-fits}
use Rattle.object_form.proofs.Whole.{whole-given, in_order-read, numbers_rise-read}

-- each element is a byte
abbrev pub AreBytes : List ℕ → Type 0
AreBytes t = (k : ℕ) → get_or t k 0 < 256

-- where each value is below a limit, so is each element of the list, and 0 past its end
listed-small : (limit n : ℕ) (f : ℕ → ℕ) → 0 < limit → ((k : ℕ) → f k < limit) → (k : ℕ) → get_or (listed n f) k 0 < limit
listed-small limit n f least small k =
    elim (cases_lt k n) [
      | inl below ↦ subst (λ (m : ℕ). m < limit) (sym (get_or-listed n f k 0 below)) (small k)
      | inr past ↦ subst (λ (m : ℕ). m < limit) (sym (get_or_past (listed n f) k 0 (omega (arith, length-listed n f)))) least
    ]

word-small : (t : List ℕ) (p : ℕ) → AreBytes t → word_at t p < 65536
word-small t p small = omega (arith, small p, small (p + 1))

app-form : (t : List ℕ) (code : List ℕ) (exports : List Export) (k : Kind) → length code ≡ word_at t 6 → length exports ≡ byte_at t 15 → k ≡ App
    → KindNumbers k (word_at t 6) (word_at t 12) (byte_at t 14) (byte_at t 15) (word_at t 16) → AppForm code (word_at t 12) (byte_at t 14) (word_at t 16) exports
app-form t code exports App code-is exports-is e h = record {
  stack_even = h.stack_even;
  stack_least = h.stack_least;
  stack_most = h.stack_most;
  threads_least = h.threads_least;
  threads_most = h.threads_most;
  no_exports = exports-is ∙ h.no_exports;
  entry_in_code = record { even = h.entry_even; below = omega (arith, code-is, h.entry_below) };
}
app-form t code exports Module code-is exports-is e h = absurd cc

module-form : (t : List ℕ) (exports : List Export) (k : Kind) → length exports ≡ byte_at t 15 → k ≡ Module
    → KindNumbers k (word_at t 6) (word_at t 12) (byte_at t 14) (byte_at t 15) (word_at t 16) → ModuleForm (word_at t 12) (byte_at t 14) (word_at t 16) exports
module-form t exports App exports-is e h = absurd cc
module-form t exports Module exports-is e h = record {
  no_stack = h.no_stack;
  no_threads = h.no_threads;
  entry_zero = h.entry_zero;
  exports_least = omega (arith, exports-is, h.exports_least);
  exports_most = omega (arith, exports-is, h.exports_most);
}

pub meets-read : (t : List ℕ) → AreBytes t → first_form_fault t ≡ None → Meets (fields_in t)
unfolding fields_in
meets-read t small none =
    let h = whole-given t none in
    let words : ℕ → ℕ = λ k. word_at t (20 + 2 * k) in
    let bytes : ℕ → ℕ = λ k. byte_at t (init_start t + k) in
    let relocs : ℕ → Reloc = λ k. reloc_at t (relocs_start t + 4 * k) in
    let exports : ℕ → Export = λ k. export_at t (exports_start t + 4 * k) in
    let code-is : length (listed (word_at t 6) words) ≡ word_at t 6 = length-listed (word_at t 6) words in
    let init-is : length (listed (word_at t 8) bytes) ≡ word_at t 8 = length-listed (word_at t 8) bytes in
    let relocs-are : length (listed (word_at t 18) relocs) ≡ word_at t 18 = length-listed (word_at t 18) relocs in
    let exports-are : length (listed (byte_at t 15) exports) ≡ byte_at t 15 = length-listed (byte_at t 15) exports in
    record {
      version_least = h.head.version_least;
      version_most = h.head.version_most;
      code_least = omega (arith, code-is, h.head.code_least);
      code_most = omega (arith, code-is, h.head.code_most);
      static_most = omega (arith, init-is, h.head.static_most);
      app = λ e. app-form t (listed (word_at t 6) words) (listed (byte_at t 15) exports) (kind_of (byte_at t 5)) code-is exports-are e h.head.by_kind;
      of_module = λ e. module-form t (listed (byte_at t 15) exports) (kind_of (byte_at t 5)) exports-are e h.head.by_kind;
      relocs_most = omega (arith, relocs-are, h.head.relocs_most);
      relocs_fit = λ k d lt.
          let below : k < word_at t 18 = omega (arith, relocs-are) in
          subst (λ (r : Reloc). RelocFits (listed (word_at t 6) words) (listed (word_at t 8) bytes) r) (sym (get_or-listed (word_at t 18) relocs k d below)) (reloc-fits t _ _ (relocs_start t + 4 * k) _ code-is init-is (h.relocs k below));
      relocs_rise = in_order-read t h;
      exports_fit = λ k d lt.
          let below : k < byte_at t 15 = omega (arith, exports-are) in
          subst (λ (x : Export). IsInCode (listed (word_at t 6) words) x.offset) (sym (get_or-listed (byte_at t 15) exports k d below)) (record { even = (h.exports k below).even; below = omega (arith, code-is, (h.exports k below).below) });
      exports_small = λ k d lt.
          let below : k < byte_at t 15 = omega (arith, exports-are) in
          subst (λ (x : Export). x.number ≤ 63) (sym (get_or-listed (byte_at t 15) exports k d below)) (h.exports k below).number_most;
      exports_rise = numbers_rise-read t h;
      words_small = listed-small 65536 (word_at t 6) words (lit< tt) (λ k. word-small t (20 + 2 * k) small);
      bytes_small = listed-small 256 (word_at t 8) bytes (lit< tt) (λ k. small (init_start t + k));
    }
