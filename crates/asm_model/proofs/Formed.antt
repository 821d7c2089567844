-- What a source assembles to meets the form of objects.
use Rattle.std.proofs.Common.{◌≡◌, ◌≢◌, ℕ, ◌+◌, ◌*◌, ◌%◌, ◌<◌, ◌≤◌, ◌==◌, Bool, true, false, not, ◌&&◌, List, [], ◌∷◌, ◌++◌, length, slice_index, slice_index_or, Option, Some, None, Result, Ok, Err, refl, sym, ◌∙◌, subst, arith, length-append}
use Rattle.std.proofs.lemmas.Bool.Decides.{nat_tests}
use Rattle.code_model.specs.declared.object.TheConstants.{RELOCS_MAX}
use Rattle.code_model.specs.declared.parts.Export.{Export}
use Rattle.code_model.specs.Form.{IsInCode}
use Rattle.code_model.specs.Fields.{Fields, Meets}
use Rattle.asm_model.specs.declared.fault.AsmKind.TheVariants as kind
use Rattle.asm_model.specs.declared.progress.Header.{Header}
use Rattle.asm_model.specs.declared.progress.Header.TheVariants as header
use Rattle.asm_model.specs.declared.progress.Version.{Version}
use Rattle.asm_model.specs.declared.progress.Version.TheVariants as version
use Rattle.asm_model.specs.declared.progress.Progress.{Progress}
use Rattle.asm_model.specs.Lines.{lines_of}
use Rattle.asm_model.specs.Drafts.{Draft, empty_draft}
use Rattle.asm_model.specs.FirstPass.{Fault, fault, first_pass}
use Rattle.asm_model.specs.SecondPass.{Output, known_by, empty_output, second_pass}
use Rattle.asm_model.specs.Assembled.{has_starts, is_whole, version_number, fields_for, with_output, with_draft, assembled}
use Rattle.asm_model.specs.Sound.{entry_total, export_total, StartsSuit, IsHeader, IsSound}
use Rattle.asm_model.specs.Laws.{ResultsMeetTheForm}
use Rattle.asm_model.proofs.Choices.{if_true, both_of}
use Rattle.asm_model.proofs.Rising.{rising_count, AllFit, data_fit, code_fit, fit_at, fit_rises, Leads, ExportsRise, exports_count, export_leads, exports_rise}
use Rattle.asm_model.proofs.SecondSound.{Passed, OkPassed, pass_is, empty_is}
use Rattle.asm_model.proofs.LinesSound.{OkAll, pass_sound, empty_sound}

version_least : (v : Version) → 1 ≤ version_number v
version_least version.One = omega arith
version_least version.Two = omega arith

version_most : (v : Version) → version_number v ≤ 2
version_most version.One = omega arith
version_most version.Two = omega arith

-- the facts that do not ask for the header
record Common (d : Draft) (o : Output) : Type 0 where
  code_is : length o.code ≡ d.progress.code
  initialised_is : length o.initialised ≡ d.progress.initialised
  relocs_fit : AllFit o.code o.initialised 0 (o.code_relocs ++ o.data_relocs)
  relocs_most : length (o.code_relocs ++ o.data_relocs) ≤ RELOCS_MAX
  exports_rise : ExportsRise d.progress.code 0 d.progress.least_export o.exports
  exports_are : length o.exports ≡ export_total d.pieces
  entry_even : o.entry % 2 ≡ 0
  entry_below : o.entry < 2 * length o.code
  entry_is : entry_total d.pieces ≡ 0 → o.entry ≡ 0

common : (d : Draft) (o : Output) → IsSound d → Passed d.progress.code 0 empty_output o d.pieces → Common d o
common d o h p =
    let code_is : length o.code ≡ d.progress.code = omega (arith, p.code_is, h.code_is) in
    let initialised_is : length o.initialised ≡ d.progress.initialised = omega (arith, p.initialised_is, h.initialised_is) in
    let code_count : 0 + 2 * length o.code_relocs ≤ 2 * length o.code = rising_count true o.code_relocs 0 (2 * length o.code) p.is_output.code_rises in
    let data_count : 0 + 2 * length o.data_relocs ≤ length o.initialised = rising_count false o.data_relocs 0 (length o.initialised) p.is_output.data_rises in
    let whole : length (o.code_relocs ++ o.data_relocs) ≡ length o.code_relocs + length o.data_relocs = length-append o.code_relocs o.data_relocs in
    let of_data : AllFit o.code o.initialised 65536 o.data_relocs = data_fit o.code o.initialised o.data_relocs 0 (length o.initialised) p.is_output.data_rises (omega arith) in
    record {
      code_is = code_is;
      initialised_is = initialised_is;
      relocs_fit = code_fit o.code o.initialised o.code_relocs o.data_relocs 0 (2 * length o.code) p.is_output.code_rises (omega arith) (omega (arith, code_is, h.code_most)) of_data;
      relocs_most = omega (arith, whole, code_count, data_count, code_is, initialised_is, h.code_most, h.static_most);
      exports_rise = subst (λ (n : ℕ). ExportsRise d.progress.code 0 n o.exports) h.least_is p.is_output.exports_rise;
      exports_are = omega (arith, p.exports_are);
      entry_even = p.is_output.entry_even;
      entry_below = omega (arith, p.is_output.entry_below, code_is);
      entry_is = λ e. p.entry_is e;
    }

some_exports : (code high : ℕ) (es : List Export) → ExportsRise code 0 high es → high ≢ 0 → 1 ≤ length es
some_exports code high [] h n = absurd (n (sym h))
some_exports code high (e ∷ es) h n = omega arith

not_zero : (n : ℕ) → not (n == 0) ≡ true → n ≢ 0
not_zero n h e = grind (arith, nat_tests)

least_of : (n : ℕ) → not (n == 0) ≡ true → 1 ≤ n
least_of n h = grind (arith, nat_tests)

in_code : (d : Draft) (o : Output) → Common d o → (k : ℕ) (e : Export) → k < length o.exports → IsInCode o.code (slice_index_or o.exports k e).offset
in_code d o c k e below =
    let leads : Leads d.progress.code 0 (slice_index_or o.exports k e) = export_leads d.progress.code o.exports 0 d.progress.least_export k e c.exports_rise below in
    record { even = leads.even; below = omega (arith, leads.below, c.code_is) }

small_number : (d : Draft) (o : Output) → Common d o → (k : ℕ) (e : Export) → k < length o.exports → (slice_index_or o.exports k e).number ≤ 63
small_number d o c k e below =
    let leads : Leads d.progress.code 0 (slice_index_or o.exports k e) = export_leads d.progress.code o.exports 0 d.progress.least_export k e c.exports_rise below in
    leads.most

-- words have 16 bits, and bytes 8
record IsSmall (code initialised : List ℕ) : Type 0 where
  words : (k : ℕ) → slice_index code k < 65536
  bytes : (k : ℕ) → slice_index initialised k < 256

form_of : (d : Draft) (o : Output) (h : Option Header) → d.progress.header ≡ h → IsSound d → Common d o → has_starts d.progress h ≡ true → 1 ≤ d.progress.code → IsSmall o.code o.initialised → Meets (fields_for d.progress o h)
form_of d o None e s c starts least small = absurd cc
form_of d o (Some (header.App stack threads)) e s c starts least small =
    let head : IsHeader (Some (header.App stack threads)) = subst (λ (q : Option Header). IsHeader q) e s.header in
    let suits : StartsSuit (Some (header.App stack threads)) (entry_total d.pieces) (export_total d.pieces) = subst (λ (q : Option Header). StartsSuit q (entry_total d.pieces) (export_total d.pieces)) e s.starts in
    record {
      version_least = version_least d.progress.version;
      version_most = version_most d.progress.version;
      code_least = omega (arith, c.code_is, least);
      code_most = omega (arith, c.code_is, s.code_most);
      static_most = omega (arith, c.initialised_is, s.static_most);
      app = λ same. record { stack_even = head.0; stack_least = head.1; stack_most = head.2; threads_least = head.3; threads_most = head.4; no_exports = c.exports_are ∙ suits; entry_in_code = record { even = c.entry_even; below = c.entry_below } };
      of_module = λ same. absurd cc;
      relocs_most = c.relocs_most;
      relocs_fit = λ k r below. fit_at o.code o.initialised (o.code_relocs ++ o.data_relocs) 0 k r c.relocs_fit below;
      relocs_rise = fit_rises o.code o.initialised (o.code_relocs ++ o.data_relocs) 0 c.relocs_fit;
      exports_fit = in_code d o c;
      exports_small = small_number d o c;
      exports_rise = exports_rise d.progress.code o.exports 0 d.progress.least_export c.exports_rise;
      words_small = small.words;
      bytes_small = small.bytes;
    }
form_of d o (Some header.Module) e s c starts least small =
    let suits : StartsSuit (Some header.Module) (entry_total d.pieces) (export_total d.pieces) = subst (λ (q : Option Header). StartsSuit q (entry_total d.pieces) (export_total d.pieces)) e s.starts in
    let count : 0 + length o.exports ≤ 64 = exports_count d.progress.code o.exports 0 d.progress.least_export (omega arith) c.exports_rise in
    record {
      version_least = version_least d.progress.version;
      version_most = version_most d.progress.version;
      code_least = omega (arith, c.code_is, least);
      code_most = omega (arith, c.code_is, s.code_most);
      static_most = omega (arith, c.initialised_is, s.static_most);
      app = λ same. absurd cc;
      of_module = λ same. record { no_stack = refl; no_threads = refl; entry_zero = c.entry_is suits; exports_least = some_exports d.progress.code d.progress.least_export o.exports c.exports_rise (not_zero d.progress.least_export starts); exports_most = omega (arith, count) };
      relocs_most = c.relocs_most;
      relocs_fit = λ k r below. fit_at o.code o.initialised (o.code_relocs ++ o.data_relocs) 0 k r c.relocs_fit below;
      relocs_rise = fit_rises o.code o.initialised (o.code_relocs ++ o.data_relocs) 0 c.relocs_fit;
      exports_fit = in_code d o c;
      exports_small = small_number d o c;
      exports_rise = exports_rise d.progress.code o.exports 0 d.progress.least_export c.exports_rise;
      words_small = small.words;
      bytes_small = small.bytes;
    }

-- ---- the whole

abbrev OkForm : Result Fields Fault → Type 0
OkForm (Ok f) = IsSmall f.code f.init → Meets f
OkForm (Err e) = Unit {0}

same_parts : (p : Progress) (o : Output) (h : Option Header) → IsSmall (fields_for p o h).code (fields_for p o h).init → IsSmall o.code o.initialised
same_parts p o None s = s
same_parts p o (Some (header.App stack threads)) s = s
same_parts p o (Some header.Module) s = s

output_form : (d : Draft) (r : Result Output Fault) → IsSound d → has_starts d.progress d.progress.header ≡ true → 1 ≤ d.progress.code → OkPassed d.progress.code 0 empty_output d.pieces r → OkForm (with_output d.progress r)
output_form d (Err f) s starts least p = tt
output_form d (Ok o) s starts least p = λ small. form_of d o d.progress.header refl s (common d o s p) starts least (same_parts d.progress o d.progress.header small)

draft_form : (r : Result Draft Fault) → OkAll r → OkForm (with_draft r)
unfolding is_whole
draft_form (Err f) s = tt
draft_form (Ok d) s =
    let starts : Bool = has_starts d.progress d.progress.header in
    let some : Bool = not (d.progress.code == 0) in
    if_true OkForm (starts && some) (with_output d.progress (second_pass (known_by d) d.pieces empty_output)) (Err (fault 0 kind.BadDirective))
    (λ h.
    let w = both_of starts some h in
    let least : 1 ≤ d.progress.code = least_of d.progress.code w.1 in
    output_form d (second_pass (known_by d) d.pieces empty_output) s w.0 least (pass_is (known_by d) d.pieces 0 empty_output (empty_is d.progress.code least) s.pieces))
    (λ h. tt)

pub results_meet_the_form : ResultsMeetTheForm
unfolding assembled
results_meet_the_form source f e words bytes =
    let all : OkForm (assembled source) = draft_form (first_pass 1 (lines_of source) empty_draft) (pass_sound (lines_of source) 1 empty_draft empty_sound) in
    let here : OkForm (Ok f) = subst OkForm e all in
    here (record { words = words; bytes = bytes })
