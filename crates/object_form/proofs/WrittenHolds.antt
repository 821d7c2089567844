-- The text of fields that meet the form has no fault, and these fields are read in it.
use Rattle.std.proofs.Common.{◌≡◌, ℕ, zero, suc, ◌+◌, ◌*◌, ◌%◌, ◌<◌, ◌≤◌, Bool, true, false, cond, eqb, List, length, get_or, None, refl, ap, sym, subst, ◌∙◌, arith, lit≤}
use Rattle.std.proofs.Math.Seq.{take-length}
use Rattle.kernel_model.specs.declared.kinds.Kind.{Kind}
use Rattle.kernel_model.specs.declared.kinds.Kind.TheVariants.{App, Module}
use Rattle.code_model.specs.declared.parts.RelKind.{RelKind}
use Rattle.code_model.specs.declared.parts.RelKind.TheVariants.{Code, Data, Lo, Hi}
use Rattle.code_model.specs.declared.parts.Reloc.{Reloc}
use Rattle.code_model.specs.declared.parts.Export.{Export}
use Rattle.code_model.specs.Form.{kind_code, key, RelocFits, AppForm, ModuleForm}
use Rattle.object_form.specs.Spelling.{kind_number, section_number, text_of}
use Rattle.code_model.specs.Fields.{Fields, fields_by, Meets}
use Rattle.object_form.specs.Reading.{byte_at, word_at, kind_of, rel_kind_of, listed, reloc_at, export_at, init_start, relocs_start, exports_start, fields_in}
use Rattle.object_form.specs.Faults.{first_form_fault, key_at, least_key, least_number, greatest_kind, section_size}
use Rattle.object_form.proofs.Blocks.{listed-take}
use Rattle.object_form.proofs.HeadTable.{HeadNumbers, KindNumbers}
use Rattle.object_form.proofs.EntryTable.{RelocNumbers}
use Rattle.object_form.proofs.Whole.{WholeNumbers, whole-holds}
use Rattle.object_form.proofs.TextWritten.{code_count-written, init_count-written, zeroed-written, stack-written, entry-written, reloc_count-written, length-text_of, word-written, init-written, RelocWritten, reloc-written, ExportWritten, export-written}

-- ---- one relocation

kind_code-least : (k : RelKind) → 1 ≤ kind_code k
kind_code-least Code = lit≤ tt
kind_code-least Data = lit≤ tt
kind_code-least Lo = lit≤ tt
kind_code-least Hi = lit≤ tt

kind_code-most : (k : RelKind) → kind_code k ≤ 4
kind_code-most Code = lit≤ tt
kind_code-most Data = lit≤ tt
kind_code-most Lo = lit≤ tt
kind_code-most Hi = lit≤ tt

rel_kind_of-code : (k : RelKind) → rel_kind_of (kind_code k) ≡ k
rel_kind_of-code Code = refl
rel_kind_of-code Data = refl
rel_kind_of-code Lo = refl
rel_kind_of-code Hi = refl

section_is : (b : Bool) → eqb (section_number b) 0 ≡ b
section_is true = refl
section_is false = refl

section_number-most : (b : Bool) → section_number b ≤ 1
section_number-most true = lit≤ tt
section_number-most false = lit≤ tt

kind-most : (b : Bool) (k : RelKind) → (b ≡ false → kind_code k ≤ 2) → kind_code k ≤ greatest_kind (section_number b)
kind-most true k few = kind_code-most k
kind-most false k few = few refl

whole-in : (t : List ℕ) (b : Bool) (offset code init : ℕ) → code ≡ word_at t 6 → init ≡ word_at t 8 → offset % 2 ≡ 0 → (b ≡ true → offset < 2 * code) → (b ≡ false → offset + 2 ≤ init) → offset + 2 ≤ section_size t (section_number b)
whole-in t true offset code init code-is init-is even in_code in_init = omega (arith, in_code refl)
whole-in t false offset code init code-is init-is even in_code in_init = omega (arith, in_init refl)

key-by : (b : Bool) (offset : ℕ) → cond b offset (offset + 65536) ≡ 65536 * section_number b + offset
key-by true offset = omega arith
key-by false offset = omega arith

key-written : (t : List ℕ) (p : ℕ) (r : Reloc) → RelocWritten t p r → key r ≡ key_at t p
key-written t p r h = key-by r.in_code r.offset ∙ omega (arith, h.section, h.offset)

reloc-numbers : (t : List ℕ) (p least : ℕ) (code init : List ℕ) (r : Reloc) → p + 4 ≤ length t → length code ≡ word_at t 6 → length init ≡ word_at t 8
    → RelocWritten t p r → RelocFits code init r → least ≤ key r → RelocNumbers t p least
reloc-numbers t p least code init r there code-is init-is h fits rises =
    let most : kind_code r.kind ≤ greatest_kind (section_number r.in_code) = kind-most r.in_code r.kind fits.init_kind in
    let whole : r.offset + 2 ≤ section_size t (section_number r.in_code) = whole-in t r.in_code r.offset (length code) (length init) code-is init-is fits.even fits.in_code fits.in_init in
    record {
      there = there;
      section = omega (arith, h.section, section_number-most r.in_code);
      kind_least = omega (arith, h.kind, kind_code-least r.kind);
      kind_most = subst (λ (b : ℕ). byte_at t (p + 1) ≤ greatest_kind b) (sym h.section) (omega (arith, most, h.kind));
      even = ap (λ n. n % 2) h.offset ∙ fits.even;
      whole = subst (λ (b : ℕ). word_at t (p + 2) + 2 ≤ section_size t b) (sym h.section) (omega (arith, whole, h.offset));
      rises = omega (arith, rises, key-written t p r h);
    }

reloc-read : (t : List ℕ) (p : ℕ) (r : Reloc) → RelocWritten t p r → reloc_at t p ≡ r
reloc-read t p r h =
    let section : eqb (byte_at t p) 0 ≡ r.in_code = ap (λ b. eqb b 0) h.section ∙ section_is r.in_code in
    let kind : rel_kind_of (byte_at t (p + 1)) ≡ r.kind = ap rel_kind_of h.kind ∙ rel_kind_of-code r.kind in
    let make : Bool → RelKind → ℕ → Reloc = λ b k o. record { in_code = b; kind = k; offset = o } in
    ap (λ (b : Bool). make b (rel_kind_of (byte_at t (p + 1))) (word_at t (p + 2))) section ∙ ap (λ (k : RelKind). make r.in_code k (word_at t (p + 2))) kind ∙ ap (make r.in_code r.kind) h.offset

export-read : (t : List ℕ) (p : ℕ) (x : Export) → ExportWritten t p x → export_at t p ≡ x
export-read t p x h =
    let make : ℕ → ℕ → Export = λ n o. record { number = n; offset = o } in
    ap (λ (n : ℕ). make n (word_at t (p + 2))) h.number ∙ ap (make x.number) h.offset

-- ---- the head

kind_of-number : (k : Kind) → kind_of (kind_number k) ≡ k
kind_of-number App = refl
kind_of-number Module = refl

kind_number-least : (k : Kind) → 1 ≤ kind_number k
kind_number-least App = lit≤ tt
kind_number-least Module = lit≤ tt

kind_number-most : (k : Kind) → kind_number k ≤ 2
kind_number-most App = lit≤ tt
kind_number-most Module = lit≤ tt

kind-numbers : (k : Kind) (code : List ℕ) (stack threads entry : ℕ) (exports : List Export) → (k ≡ App → AppForm code stack threads entry exports) → (k ≡ Module → ModuleForm stack threads entry exports) → KindNumbers k (length code) stack threads (length exports) entry
kind-numbers App code stack threads entry exports app of_module =
    let h = app refl in
    record {
      stack_even = h.stack_even;
      stack_least = h.stack_least;
      stack_most = h.stack_most;
      threads_least = h.threads_least;
      threads_most = h.threads_most;
      no_exports = h.no_exports;
      entry_even = h.entry_in_code.even;
      entry_below = h.entry_in_code.below;
    }
kind-numbers Module code stack threads entry exports app of_module =
    let h = of_module refl in
    record {
      no_stack = h.no_stack;
      no_threads = h.no_threads;
      exports_least = h.exports_least;
      exports_most = h.exports_most;
      entry_zero = h.entry_zero;
    }

head-numbers : (f : Fields) → Meets f → HeadNumbers (text_of f)
head-numbers f m =
    let by : KindNumbers f.kind (length f.code) f.stack f.threads (length f.exports) f.entry = kind-numbers f.kind f.code f.stack f.threads f.entry f.exports m.app m.of_module in
    let by1 = subst (λ (k : Kind). KindNumbers k (length f.code) f.stack f.threads (length f.exports) f.entry) (sym (kind_of-number f.kind)) by in
    let by2 = subst (λ (n : ℕ). KindNumbers (kind_of (kind_number f.kind)) n f.stack f.threads (length f.exports) f.entry) (sym (code_count-written f)) by1 in
    let by3 = subst (λ (n : ℕ). KindNumbers (kind_of (kind_number f.kind)) (word_at (text_of f) 6) n f.threads (length f.exports) f.entry) (sym (stack-written f)) by2 in
    let by4 = subst (λ (n : ℕ). KindNumbers (kind_of (kind_number f.kind)) (word_at (text_of f) 6) (word_at (text_of f) 12) f.threads (length f.exports) n) (sym (entry-written f)) by3 in
    record {
      long = omega (arith, length-text_of f);
      byte_0 = refl;
      byte_1 = refl;
      byte_2 = refl;
      byte_3 = refl;
      version_least = m.version_least;
      version_most = m.version_most;
      kind_least = kind_number-least f.kind;
      kind_most = kind_number-most f.kind;
      code_least = omega (arith, code_count-written f, m.code_least);
      code_most = omega (arith, code_count-written f, m.code_most);
      init_most = omega (arith, init_count-written f, m.static_most);
      static_most = omega (arith, init_count-written f, zeroed-written f, m.static_most);
      by_kind = by4;
      relocs_most = omega (arith, reloc_count-written f, m.relocs_most);
    }

-- ---- the whole

init_start-written : (f : Fields) → init_start (text_of f) ≡ 20 + 2 * length f.code
init_start-written f = ap (λ n. 20 + 2 * n) (code_count-written f)

relocs_start-written : (f : Fields) → relocs_start (text_of f) ≡ 20 + 2 * length f.code + length f.init
relocs_start-written f = omega (arith, init_start-written f, init_count-written f)

exports_start-written : (f : Fields) → exports_start (text_of f) ≡ 20 + 2 * length f.code + length f.init + 4 * length f.relocs
exports_start-written f = omega (arith, relocs_start-written f, reloc_count-written f)

reloc-at : (f : Fields) (k : ℕ) (d : Reloc) → k < length f.relocs → RelocWritten (text_of f) (relocs_start (text_of f) + 4 * k) (get_or f.relocs k d)
reloc-at f k d lt = reloc-written f k (relocs_start (text_of f) + 4 * k) d lt (ap (λ n. n + 4 * k) (relocs_start-written f))

export-at : (f : Fields) (k : ℕ) (d : Export) → k < length f.exports → ExportWritten (text_of f) (exports_start (text_of f) + 4 * k) (get_or f.exports k d)
export-at f k d lt = export-written f k (exports_start (text_of f) + 4 * k) d lt (ap (λ n. n + 4 * k) (exports_start-written f))

some_reloc : Reloc
some_reloc = record { in_code = true; kind = Code; offset = 0 }

some_export : Export
some_export = record { number = 0; offset = 0 }

least_key-written : (f : Fields) → Meets f → (k : ℕ) → k < length f.relocs → least_key (text_of f) (relocs_start (text_of f)) k ≤ key (get_or f.relocs k some_reloc)
unfolding least_key
least_key-written f m zero lt = omega arith
least_key-written f m (suc j) lt =
    let before = key-written (text_of f) (relocs_start (text_of f) + 4 * j) (get_or f.relocs j some_reloc) (reloc-at f j some_reloc (omega arith)) in
    let rises = m.relocs_rise j (suc j) some_reloc (omega arith) lt in
    omega (arith, before, rises)

least_number-written : (f : Fields) → Meets f → (k : ℕ) → k < length f.exports → least_number (text_of f) (exports_start (text_of f)) k ≤ (get_or f.exports k some_export).number
unfolding least_number
least_number-written f m zero lt = omega arith
least_number-written f m (suc j) lt =
    let before = (export-at f j some_export (omega arith)).number in
    let rises = m.exports_rise j (suc j) some_export (omega arith) lt in
    omega (arith, before, rises)

whole-numbers : (f : Fields) → Meets f → WholeNumbers (text_of f)
whole-numbers f m =
    let t = text_of f in
    let relocs = relocs_start-written f in
    let exports = exports_start-written f in
    let long = length-text_of f in
    record {
      head = head-numbers f m;
      code_there = omega (arith, init_start-written f, long);
      init_there = omega (arith, relocs, long);
      relocs = λ k below.
          let lt : k < length f.relocs = omega (arith, reloc_count-written f) in
          reloc-numbers t (relocs_start t + 4 * k) (least_key t (relocs_start t) k) f.code f.init (get_or f.relocs k some_reloc) (omega (arith, relocs, long)) (sym (code_count-written f)) (sym (init_count-written f))
          (reloc-at f k some_reloc lt) (m.relocs_fit k some_reloc lt) (least_key-written f m k lt);
      exports = λ k below.
          let lt : k < length f.exports = below in
          let h = export-at f k some_export lt in
          let fit = m.exports_fit k some_export lt in
          record {
            there = omega (arith, exports, long);
            number_most = omega (arith, h.number, m.exports_small k some_export lt);
            rises = omega (arith, h.number, least_number-written f m k lt);
            zero_byte = h.zero_byte;
            even = ap (λ n. n % 2) h.offset ∙ fit.even;
            below = omega (arith, h.offset, code_count-written f, fit.below);
          };
      ended = omega (arith, exports, long);
    }

pub written-has_no_fault : (f : Fields) → Meets f → first_form_fault (text_of f) ≡ None
written-has_no_fault f m = whole-holds (text_of f) (whole-numbers f m)

-- fields that are equal one by one
same-by : (kind kind' : Kind) (version version' : ℕ) (code code' init init' : List ℕ) (z z' stack stack' threads threads' entry entry' : ℕ) (relocs relocs' : List Reloc) (exports exports' : List Export)
    → kind ≡ kind' → version ≡ version' → code ≡ code' → init ≡ init' → z ≡ z' → stack ≡ stack' → threads ≡ threads' → entry ≡ entry' → relocs ≡ relocs' → exports ≡ exports'
    → fields_by kind version code init z stack threads entry relocs exports ≡ fields_by kind' version' code' init' z' stack' threads' entry' relocs' exports'
same-by kind kind' version version' code code' init init' z z' stack stack' threads threads' entry entry' relocs relocs' exports exports' e0 e1 e2 e3 e4 e5 e6 e7 e8 e9 = cc

pub fields-same : (f : Fields) (kind : Kind) (version : ℕ) (code init : List ℕ) (z stack threads entry : ℕ) (relocs : List Reloc) (exports : List Export)
    → kind ≡ f.kind → version ≡ f.version → code ≡ f.code → init ≡ f.init → z ≡ f.zeroed → stack ≡ f.stack → threads ≡ f.threads → entry ≡ f.entry → relocs ≡ f.relocs → exports ≡ f.exports
    → fields_by kind version code init z stack threads entry relocs exports ≡ f
fields-same f kind version code init z stack threads entry relocs exports e0 e1 e2 e3 e4 e5 e6 e7 e8 e9 =
    same-by kind f.kind version f.version code f.code init f.init z f.zeroed stack f.stack threads f.threads entry f.entry relocs f.relocs exports f.exports e0 e1 e2 e3 e4 e5 e6 e7 e8 e9

pub fields-written : (f : Fields) → fields_in (text_of f) ≡ f
unfolding fields_in
fields-written f =
    let t = text_of f in
    let code : listed (word_at t 6) (λ k. word_at t (20 + 2 * k)) ≡ f.code =
    ap (λ n. listed n (λ k. word_at t (20 + 2 * k))) (code_count-written f) ∙ listed-take (length f.code) (λ k. word_at t (20 + 2 * k)) f.code 0 (omega arith) (λ k lt. word-written f k (20 + 2 * k) lt refl) ∙ take-length f.code in
    let init : listed (word_at t 8) (λ k. byte_at t (init_start t + k)) ≡ f.init =
    ap (λ n. listed n (λ k. byte_at t (init_start t + k))) (init_count-written f) ∙ listed-take (length f.init) (λ k. byte_at t (init_start t + k)) f.init 0 (omega arith) (λ k lt. init-written f k (init_start t + k) lt (ap (λ n. n + k) (init_start-written f))) ∙ take-length f.init in
    let relocs : listed (word_at t 18) (λ k. reloc_at t (relocs_start t + 4 * k)) ≡ f.relocs =
    ap (λ n. listed n (λ k. reloc_at t (relocs_start t + 4 * k))) (reloc_count-written f) ∙ listed-take (length f.relocs) (λ k. reloc_at t (relocs_start t + 4 * k)) f.relocs some_reloc (omega arith) (λ k lt. reloc-read t (relocs_start t + 4 * k) (get_or f.relocs k some_reloc) (reloc-at f k some_reloc lt)) ∙ take-length f.relocs in
    let exports : listed (byte_at t 15) (λ k. export_at t (exports_start t + 4 * k)) ≡ f.exports =
    listed-take (length f.exports) (λ k. export_at t (exports_start t + 4 * k)) f.exports some_export (omega arith) (λ k lt. export-read t (exports_start t + 4 * k) (get_or f.exports k some_export) (export-at f k some_export lt)) ∙ take-length f.exports in
    let kind = kind_of-number f.kind in
    fields-same f (kind_of (byte_at t 5)) (byte_at t 4) _ _ (word_at t 10) (word_at t 12) (byte_at t 14) (word_at t 16) _ _ kind refl code init (zeroed-written f) (stack-written f) refl (entry-written f) relocs exports
