-- A text without fault is the text of the fields that are read in it.
use Rattle.std.proofs.Common.{◌≡◌, ℕ, zero, suc, ◌+◌, ◌*◌, ◌%◌, ◌/◌, ◌<◌, ◌≤◌, eqb, List, [], ◌∷◌, ◌++◌, get_or, take, drop, None, refl, ap, sym, ◌∙◌, arith, length-drop}
use Rattle.std.proofs.lemmas.List.{take-append-drop, drop-drop, get_or-drop, nil_from_length, append-nil}
use Rattle.std.specs.List.{flat_map}
use Rattle.object_form.specs.Spelling.{word_bytes, kind_number, section_number, reloc_bytes, export_bytes, head_bytes, text_of}
use Rattle.object_form.specs.Reading.{byte_at, word_at, kind_of, listed, reloc_at, export_at, init_start, relocs_start, exports_start, text_end, words_from, bytes_from, relocs_from, exports_from, fields_in}
use Rattle.object_form.specs.Faults.{first_form_fault}
use Rattle.object_form.proofs.Blocks.{length-listed, listed-take, blocks-stand, two-from, four-from}
use Rattle.object_form.proofs.HeadTable.{HeadNumbers}
use Rattle.object_form.proofs.EntryTable.{RelocNumbers, ExportNumbers, kind_code-of, greatest_kind-most}
use Rattle.object_form.proofs.Whole.{whole-given}
use Rattle.object_form.proofs.FormRead.{AreBytes}

low-byte : (n a b : ℕ) → n ≡ a + 256 * b → a < 256 → n % 256 ≡ a
low-byte n a b e lt = omega arith

high-byte : (n a b : ℕ) → n ≡ a + 256 * b → a < 256 → n / 256 ≡ b
high-byte n a b e lt = omega arith

word_bytes-at : (t : List ℕ) (p : ℕ) → AreBytes t → word_bytes (word_at t p) ≡ get_or t p 0 ∷ get_or t (p + 1) 0 ∷ []
word_bytes-at t p small =
    let low : word_at t p % 256 ≡ get_or t p 0 = low-byte (word_at t p) (get_or t p 0) (get_or t (p + 1) 0) refl (small p) in
    let high : word_at t p / 256 ≡ get_or t (p + 1) 0 = high-byte (word_at t p) (get_or t p 0) (get_or t (p + 1) 0) refl (small p) in
    cc

section_number-of : (b : ℕ) → b ≤ 1 → section_number (eqb b 0) ≡ b
section_number-of zero le = refl
section_number-of (suc zero) le = refl
section_number-of (suc (suc b)) le = absurd (omega arith)

kind_number-of : (b : ℕ) → 1 ≤ b → b ≤ 2 → kind_number (kind_of b) ≡ b
kind_number-of zero p q = absurd (omega arith)
kind_number-of (suc zero) p q = refl
kind_number-of (suc (suc zero)) p q = refl
kind_number-of (suc (suc (suc b))) p q = absurd (omega arith)

reloc-stands : (t : List ℕ) (p least : ℕ) → AreBytes t → RelocNumbers t p least → reloc_bytes (reloc_at t p) ≡ take 4 (drop p t)
reloc-stands t p least small h =
    let section = section_number-of (byte_at t p) h.section in
    let kind = kind_code-of (byte_at t (p + 1)) h.kind_least (omega (arith, greatest_kind-most (byte_at t p), h.kind_most)) in
    let offset = word_bytes-at t (p + 2) small in
    let there = four-from t p h.there in
    cc (section, kind, offset, there)

export-stands : (t : List ℕ) (p least : ℕ) → AreBytes t → ExportNumbers t p least → export_bytes (export_at t p) ≡ take 4 (drop p t)
export-stands t p least small h =
    let second : 0 ≡ get_or t (p + 1) 0 = sym h.zero_byte in
    let offset = word_bytes-at t (p + 2) small in
    let there = four-from t p h.there in
    cc (second, offset, there)

head-stands : (t : List ℕ) → AreBytes t → HeadNumbers t → head_bytes (fields_in t) ≡ take 20 t
unfolding fields_in listed
head-stands t small h =
    let front : listed 20 (λ k. get_or t k 0) ≡ take 20 t = listed-take 20 (λ k. get_or t k 0) t 0 h.long (λ k lt. refl) in
    let kind = kind_number-of (byte_at t 5) h.kind_least h.kind_most in
    let code = length-listed (word_at t 6) (λ k. word_at t (20 + 2 * k)) in
    let init = length-listed (word_at t 8) (λ k. byte_at t (init_start t + k)) in
    let exports = length-listed (byte_at t 15) (λ k. export_at t (exports_start t + 4 * k)) in
    let relocs = length-listed (word_at t 18) (λ k. reloc_at t (relocs_start t + 4 * k)) in
    let at_6 = ap word_bytes code ∙ word_bytes-at t 6 small in
    let at_8 = ap word_bytes init ∙ word_bytes-at t 8 small in
    let at_18 = ap word_bytes relocs ∙ word_bytes-at t 18 small in
    cc (front, h.byte_0, h.byte_1, h.byte_2, h.byte_3, kind, exports, at_6, at_8, word_bytes-at t 10 small, word_bytes-at t 12 small, word_bytes-at t 16 small, at_18)

-- a part of a text, then what is behind it
part-then : (t : List ℕ) (start size next : ℕ) (part rest : List ℕ) → next ≡ start + size → part ≡ take size (drop start t) → rest ≡ drop next t → part ++ rest ≡ drop start t
part-then t start size next part rest e p r =
    let behind : drop next t ≡ drop size (drop start t) = ap (λ n. drop n t) e ∙ sym (drop-drop size start t) in
    ap (λ l. l ++ rest) p ∙ ap (λ l. take size (drop start t) ++ l) (r ∙ behind) ∙ take-append-drop size (drop start t)

pub text-read : (t : List ℕ) → AreBytes t → first_form_fault t ≡ None → text_of (fields_in t) ≡ t
unfolding fields_in
text-read t small none =
    let h = whole-given t none in
    let code : flat_map word_bytes (words_from t 20 (word_at t 6)) ≡ take (2 * word_at t 6) (drop 20 t) =
    blocks-stand word_bytes (λ k. word_at t (20 + 2 * k)) 2 20 t (word_at t 6) (λ k lt. word_bytes-at t (20 + 2 * k) small ∙ sym (two-from t (20 + 2 * k) (omega (arith, h.code_there)))) in
    let init : bytes_from t (init_start t) (word_at t 8) ≡ take (word_at t 8) (drop (init_start t) t) =
    listed-take (word_at t 8) (λ k. byte_at t (init_start t + k)) (drop (init_start t) t) 0 (omega (arith, length-drop (init_start t) t, h.init_there)) (λ k lt. sym (get_or-drop (init_start t) t k 0)) in
    let relocs : flat_map reloc_bytes (relocs_from t (relocs_start t) (word_at t 18)) ≡ take (4 * word_at t 18) (drop (relocs_start t) t) =
    blocks-stand reloc_bytes (λ k. reloc_at t (relocs_start t + 4 * k)) 4 (relocs_start t) t (word_at t 18) (λ k lt. reloc-stands t (relocs_start t + 4 * k) _ small (h.relocs k lt)) in
    let exports : flat_map export_bytes (exports_from t (exports_start t) (byte_at t 15)) ≡ take (4 * byte_at t 15) (drop (exports_start t) t) =
    blocks-stand export_bytes (λ k. export_at t (exports_start t + 4 * k)) 4 (exports_start t) t (byte_at t 15) (λ k lt. export-stands t (exports_start t + 4 * k) _ small (h.exports k lt)) in
    let ended : drop (text_end t) t ≡ [] = nil_from_length (drop (text_end t) t) (omega (arith, length-drop (text_end t) t, h.ended)) in
    let e4 = part-then t (exports_start t) (4 * byte_at t 15) (text_end t) _ [] refl exports (sym ended) in
    let e3 = part-then t (relocs_start t) (4 * word_at t 18) (exports_start t) _ _ refl relocs (sym (append-nil (flat_map export_bytes (exports_from t (exports_start t) (byte_at t 15)))) ∙ e4) in
    let e2 = part-then t (init_start t) (word_at t 8) (relocs_start t) _ _ refl init e3 in
    let e1 = part-then t 20 (2 * word_at t 6) (init_start t) _ _ refl code e2 in
    ap (λ l. head_bytes (fields_in t) ++ l) e1 ∙ ap (λ l. l ++ drop 20 t) (head-stands t small h.head) ∙ take-append-drop 20 t
