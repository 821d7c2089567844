-- The fault of a part, where the parts before it have none, is that of the whole text.
use Rattle.std.proofs.Common.{◌≡◌, ℕ, ◌<◌, ◌≤◌, Bool, cond, List, length, Option, None, ap, sym, subst, ◌∙◌, arith}
use Rattle.std.proofs.lemmas.Bool.{le-leb, lt-leb}
use Rattle.object_form.specs.declared.fault.FormKind.TheVariants as kinds
use Rattle.object_form.specs.declared.fault.FormFault.{FormFault}
use Rattle.object_form.specs.declared.fault.FormFault.TheVariants.{At, Memory}
use Rattle.object_form.specs.declared.reading.Parts.{Parts}
use Rattle.object_form.specs.Spelling.{text_of}
use Rattle.code_model.specs.Fields.{Fields, Meets}
use Rattle.object_form.specs.Reading.{byte_at, word_at, init_start, relocs_start, exports_start, text_end, words_from, bytes_from, relocs_from, exports_from, fields_in}
use Rattle.object_form.specs.Faults.{Reason, reason, or_else, first_fault, head_fields, part_fields, reloc_fields, export_fields, trailing, first_form_fault, Names}
use Rattle.object_form.specs.Given.{IsHead, fields_read, AreRead}
use Rattle.object_form.proofs.Tables.{or_else-both}
use Rattle.object_form.proofs.Whole.{whole-in_parts}
use Rattle.object_form.proofs.FormRead.{AreBytes, meets-read}
use Rattle.object_form.proofs.TextRead.{text-read}
use Rattle.object_form.proofs.WrittenHolds.{fields-same}

names-first : (e : FormFault) (a b : Option Reason) → Names e a → Names e (or_else a b)
names-first Memory a b named = tt
names-first (At k offset) a b named = ap (λ x. or_else x b) named

names-second : (e : FormFault) (a b : Option Reason) → a ≡ None → Names e b → Names e (or_else a b)
names-second e a b none named = subst (λ (x : Option Reason). Names e (or_else x b)) (sym none) named

names-whole : (t : List ℕ) (e : FormFault) → Names e (or_else (first_fault t (head_fields t)) (or_else (first_fault t (part_fields t)) (or_else (first_fault t (reloc_fields t (relocs_start t) (word_at t 18))) (or_else (first_fault t (export_fields t (exports_start t) (byte_at t 15))) (trailing t))))) → Names e (first_form_fault t)
names-whole t e named = subst (λ (x : Option Reason). Names e x) (sym (whole-in_parts t)) named

pub names-head : (t : List ℕ) (e : FormFault) → Names e (first_fault t (head_fields t)) → Names e (first_form_fault t)
names-head t e named = names-whole t e (names-first e _ _ named)

pub names-sections : (t : List ℕ) (e : FormFault) → first_fault t (head_fields t) ≡ None → Names e (first_fault t (part_fields t)) → Names e (first_form_fault t)
names-sections t e head named = names-whole t e (names-second e _ _ head (names-first e _ _ named))

pub names-relocs : (t : List ℕ) (e : FormFault) (start n : ℕ) → start ≡ relocs_start t → n ≡ word_at t 18 → first_fault t (head_fields t) ≡ None → first_fault t (part_fields t) ≡ None
    → Names e (first_fault t (reloc_fields t start n)) → Names e (first_form_fault t)
names-relocs t e start n start-is n-is head parts named =
    let here : Names e (first_fault t (reloc_fields t (relocs_start t) n)) = subst (λ (s : ℕ). Names e (first_fault t (reloc_fields t s n))) start-is named in
    let all = subst (λ (m : ℕ). Names e (first_fault t (reloc_fields t (relocs_start t) m))) n-is here in
    names-whole t e (names-second e _ _ head (names-second e _ _ parts (names-first e _ _ all)))

pub relocs-none : (t : List ℕ) (start n : ℕ) → start ≡ relocs_start t → n ≡ word_at t 18 → first_fault t (reloc_fields t start n) ≡ None → first_fault t (reloc_fields t (relocs_start t) (word_at t 18)) ≡ None
relocs-none t start n start-is n-is none =
    subst (λ (m : ℕ). first_fault t (reloc_fields t (relocs_start t) m) ≡ None) n-is (subst (λ (s : ℕ). first_fault t (reloc_fields t s n) ≡ None) start-is none)

pub exports-none : (t : List ℕ) (start n : ℕ) → start ≡ exports_start t → n ≡ byte_at t 15 → first_fault t (export_fields t start n) ≡ None → first_fault t (export_fields t (exports_start t) (byte_at t 15)) ≡ None
exports-none t start n start-is n-is none =
    subst (λ (m : ℕ). first_fault t (export_fields t (exports_start t) m) ≡ None) n-is (subst (λ (s : ℕ). first_fault t (export_fields t s n) ≡ None) start-is none)

pub names-exports : (t : List ℕ) (e : FormFault) (start n : ℕ) → start ≡ exports_start t → n ≡ byte_at t 15 → first_fault t (head_fields t) ≡ None → first_fault t (part_fields t) ≡ None → first_fault t (reloc_fields t (relocs_start t) (word_at t 18)) ≡ None
    → Names e (first_fault t (export_fields t start n)) → Names e (first_form_fault t)
names-exports t e start n start-is n-is head parts relocs named =
    let here : Names e (first_fault t (export_fields t (exports_start t) n)) = subst (λ (s : ℕ). Names e (first_fault t (export_fields t s n))) start-is named in
    let all = subst (λ (m : ℕ). Names e (first_fault t (export_fields t (exports_start t) m))) n-is here in
    names-whole t e (names-second e _ _ head (names-second e _ _ parts (names-second e _ _ relocs (names-first e _ _ all))))

-- the parts of a text have no fault
pub record PartsNone (t : List ℕ) : Type 0 where
  pub head : first_fault t (head_fields t) ≡ None
  pub parts : first_fault t (part_fields t) ≡ None
  pub relocs : first_fault t (reloc_fields t (relocs_start t) (word_at t 18)) ≡ None
  pub exports : first_fault t (export_fields t (exports_start t) (byte_at t 15)) ≡ None

pub names-end : (t : List ℕ) (end : ℕ) → end ≡ text_end t → PartsNone t → end < length t → Names (At kinds.Trailing end) (first_form_fault t)
names-end t end end-is h lt =
    let past : trailing t ≡ reason kinds.Trailing (text_end t) = ap (λ (b : Bool). cond b None (reason kinds.Trailing (text_end t))) (lt-leb (length t) (text_end t) (omega arith)) in
    let named : Names (At kinds.Trailing end) (trailing t) = past ∙ ap (reason kinds.Trailing) (sym end-is) in
    let e = At kinds.Trailing end in
    names-whole t e (names-second e _ _ h.head (names-second e _ _ h.parts (names-second e _ _ h.relocs (names-second e _ _ h.exports named))))

pub whole-none : (t : List ℕ) (end : ℕ) → end ≡ text_end t → PartsNone t → length t ≤ end → first_form_fault t ≡ None
whole-none t end end-is h le =
    let ended : trailing t ≡ None = ap (λ (b : Bool). cond b None (reason kinds.Trailing (text_end t))) (le-leb (length t) (text_end t) (omega arith)) in
    whole-in_parts t ∙ or_else-both _ _ h.head (or_else-both _ _ h.parts (or_else-both _ _ h.relocs (or_else-both _ _ h.exports ended)))

-- what was read, part by part, is the fields of the text
pub parts-read : (t : List ℕ) (p : Parts) (start end : ℕ)
    → IsHead t p.head → p.code ≡ words_from t 20 p.head.code → p.init ≡ bytes_from t (init_start t) p.head.init
    → start ≡ relocs_start t → p.relocs ≡ relocs_from t start p.head.relocs → end ≡ exports_start t → p.exports ≡ exports_from t end p.head.exports
    → fields_read p ≡ fields_in t
unfolding fields_in
parts-read t p start end h code-is init-is start-is relocs-is end-is exports-is =
    fields-same (fields_in t) p.head.kind p.head.version p.code p.init p.head.zeroed p.head.stack p.head.threads p.head.entry p.relocs p.exports h.kind_is h.version_is
    (code-is ∙ ap (λ n. words_from t 20 n) h.code_is)
    (init-is ∙ ap (λ n. bytes_from t (init_start t) n) h.init_is)
    h.zeroed_is h.stack_is h.threads_is h.entry_is
    (relocs-is ∙ ap (λ s. relocs_from t s p.head.relocs) start-is ∙ ap (λ n. relocs_from t (relocs_start t) n) h.relocs_is)
    (exports-is ∙ ap (λ s. exports_from t s p.head.exports) end-is ∙ ap (λ n. exports_from t (exports_start t) n) h.exports_is)

pub read-meets : (t : List ℕ) (p : Parts) → AreBytes t → AreRead t p → Meets (fields_read p)
read-meets t p small h = subst (λ (f : Fields). Meets f) (sym h.same) (meets-read t small h.none)

pub read-text : (t : List ℕ) (p : Parts) → AreBytes t → AreRead t p → t ≡ text_of (fields_read p)
read-text t p small h = sym (ap text_of h.same ∙ text-read t small h.none)
