-- What stands in the text of fields that meet the form: each number at its place.
use Rattle.std.proofs.Common.{◌≡◌, ℕ, ◌+◌, ◌*◌, ◌%◌, ◌/◌, ◌<◌, List, [], ◌++◌, length, get_or, refl, ap, sym, ◌∙◌, arith, lit<, length-append}
use Rattle.std.proofs.lemmas.List.{get_or-append-add, get_or_append_left, append-nil}
use Rattle.std.specs.List.{flat_map}
use Rattle.code_model.specs.declared.parts.Reloc.{Reloc}
use Rattle.code_model.specs.declared.parts.Export.{Export}
use Rattle.code_model.specs.Form.{kind_code}
use Rattle.object_form.specs.Spelling.{word_bytes, section_number, reloc_bytes, export_bytes, head_bytes, text_of}
use Rattle.code_model.specs.Fields.{Fields}
use Rattle.object_form.specs.Reading.{byte_at, word_at}
use Rattle.object_form.proofs.Blocks.{block-byte, length-blocks}

halves : (n : ℕ) → n % 256 + 256 * (n / 256) ≡ n
halves n = omega arith

-- a place behind a front is a place of the rest
behind : (xs ys : List ℕ) (n p q : ℕ) → length xs ≡ n → q ≡ n + p → get_or (xs ++ ys) q 0 ≡ get_or ys p 0
behind xs ys n p q len e = ap (λ m. get_or (xs ++ ys) m 0) (omega arith) ∙ get_or-append-add xs ys p 0

pub code_count-written : (f : Fields) → word_at (text_of f) 6 ≡ length f.code
code_count-written f = halves (length f.code)

pub init_count-written : (f : Fields) → word_at (text_of f) 8 ≡ length f.init
init_count-written f = halves (length f.init)

pub zeroed-written : (f : Fields) → word_at (text_of f) 10 ≡ f.zeroed
zeroed-written f = halves f.zeroed

pub stack-written : (f : Fields) → word_at (text_of f) 12 ≡ f.stack
stack-written f = halves f.stack

pub entry-written : (f : Fields) → word_at (text_of f) 16 ≡ f.entry
entry-written f = halves f.entry

pub reloc_count-written : (f : Fields) → word_at (text_of f) 18 ≡ length f.relocs
reloc_count-written f = halves (length f.relocs)

pub length-text_of : (f : Fields) → length (text_of f) ≡ 20 + 2 * length f.code + length f.init + 4 * length f.relocs + 4 * length f.exports
length-text_of f =
    let code = length-blocks word_bytes 2 (λ w. refl) f.code in
    let relocs = length-blocks reloc_bytes 4 (λ r. refl) f.relocs in
    let exports = length-blocks export_bytes 4 (λ x. refl) f.exports in
    let e3 = length-append (flat_map reloc_bytes f.relocs) (flat_map export_bytes f.exports) in
    let e2 = length-append f.init (flat_map reloc_bytes f.relocs ++ flat_map export_bytes f.exports) in
    let e1 = length-append (flat_map word_bytes f.code) (f.init ++ (flat_map reloc_bytes f.relocs ++ flat_map export_bytes f.exports)) in
    let e0 = length-append (head_bytes f) (flat_map word_bytes f.code ++ (f.init ++ (flat_map reloc_bytes f.relocs ++ flat_map export_bytes f.exports))) in
    omega (arith, code, relocs, exports, e3, e2, e1, e0)

code_byte-written : (f : Fields) (k j q : ℕ) → k < length f.code → j < 2 → q ≡ 20 + (2 * k + j) → get_or (text_of f) q 0 ≡ get_or (word_bytes (get_or f.code k 0)) j 0
code_byte-written f k j q lt small e =
    behind (head_bytes f) (flat_map word_bytes f.code ++ (f.init ++ (flat_map reloc_bytes f.relocs ++ flat_map export_bytes f.exports))) 20 (2 * k + j) q refl e
    ∙ block-byte word_bytes 2 (λ w. refl) f.code (f.init ++ (flat_map reloc_bytes f.relocs ++ flat_map export_bytes f.exports)) k j 0 lt small

pub word-written : (f : Fields) (k q : ℕ) → k < length f.code → q ≡ 20 + 2 * k → word_at (text_of f) q ≡ get_or f.code k 0
word-written f k q lt e =
    let w = get_or f.code k 0 in
    let low : get_or (text_of f) q 0 ≡ w % 256 = code_byte-written f k 0 q lt (lit< tt) (omega arith) in
    let high : get_or (text_of f) (q + 1) 0 ≡ w / 256 = code_byte-written f k 1 (q + 1) lt (lit< tt) (omega arith) in
    omega (arith, low, high, halves w)

-- a place behind the code words
past_code : (f : Fields) (p q : ℕ) → q ≡ 20 + 2 * length f.code + p → get_or (text_of f) q 0 ≡ get_or (f.init ++ (flat_map reloc_bytes f.relocs ++ flat_map export_bytes f.exports)) p 0
past_code f p q e =
    let rest = f.init ++ (flat_map reloc_bytes f.relocs ++ flat_map export_bytes f.exports) in
    behind (head_bytes f) (flat_map word_bytes f.code ++ rest) 20 (2 * length f.code + p) q refl (omega arith)
    ∙ behind (flat_map word_bytes f.code) rest (2 * length f.code) p (2 * length f.code + p) (length-blocks word_bytes 2 (λ w. refl) f.code) refl

pub init-written : (f : Fields) (k q : ℕ) → k < length f.init → q ≡ 20 + 2 * length f.code + k → byte_at (text_of f) q ≡ get_or f.init k 0
init-written f k q lt e = past_code f k q e ∙ get_or_append_left f.init (flat_map reloc_bytes f.relocs ++ flat_map export_bytes f.exports) 0 k lt

-- a place behind the initialised bytes
past_init : (f : Fields) (p q : ℕ) → q ≡ 20 + 2 * length f.code + length f.init + p → get_or (text_of f) q 0 ≡ get_or (flat_map reloc_bytes f.relocs ++ flat_map export_bytes f.exports) p 0
past_init f p q e =
    past_code f (length f.init + p) q (omega arith)
    ∙ behind f.init (flat_map reloc_bytes f.relocs ++ flat_map export_bytes f.exports) (length f.init) p (length f.init + p) refl refl

-- the relocation stands at a place of the text
pub record RelocWritten (t : List ℕ) (p : ℕ) (r : Reloc) : Type 0 where
  pub section : byte_at t p ≡ section_number r.in_code
  pub kind : byte_at t (p + 1) ≡ kind_code r.kind
  pub offset : word_at t (p + 2) ≡ r.offset

pub reloc-written : (f : Fields) (k p : ℕ) (d : Reloc) → k < length f.relocs → p ≡ 20 + 2 * length f.code + length f.init + 4 * k → RelocWritten (text_of f) p (get_or f.relocs k d)
reloc-written f k p d lt e =
    let r = get_or f.relocs k d in
    let at : (j q : ℕ) → j < 4 → q ≡ p + j → get_or (text_of f) q 0 ≡ get_or (reloc_bytes r) j 0 = λ j q small place.
    past_init f (4 * k + j) q (omega arith) ∙ block-byte reloc_bytes 4 (λ x. refl) f.relocs (flat_map export_bytes f.exports) k j d lt small in
    let low : get_or (text_of f) (p + 2) 0 ≡ r.offset % 256 = at 2 (p + 2) (lit< tt) refl in
    let high : get_or (text_of f) (p + 2 + 1) 0 ≡ r.offset / 256 = at 3 (p + 2 + 1) (lit< tt) (omega arith) in
    record {
      section = at 0 p (lit< tt) (omega arith);
      kind = at 1 (p + 1) (lit< tt) refl;
      offset = omega (arith, low, high, halves r.offset);
    }

pub record ExportWritten (t : List ℕ) (p : ℕ) (x : Export) : Type 0 where
  pub number : byte_at t p ≡ x.number
  pub zero_byte : byte_at t (p + 1) ≡ 0
  pub offset : word_at t (p + 2) ≡ x.offset

pub export-written : (f : Fields) (k p : ℕ) (d : Export) → k < length f.exports → p ≡ 20 + 2 * length f.code + length f.init + 4 * length f.relocs + 4 * k → ExportWritten (text_of f) p (get_or f.exports k d)
export-written f k p d lt e =
    let x = get_or f.exports k d in
    let at : (j q : ℕ) → j < 4 → q ≡ p + j → get_or (text_of f) q 0 ≡ get_or (export_bytes x) j 0 = λ j q small place.
    past_init f (4 * length f.relocs + (4 * k + j)) q (omega arith)
    ∙ behind (flat_map reloc_bytes f.relocs) (flat_map export_bytes f.exports) (4 * length f.relocs) (4 * k + j) (4 * length f.relocs + (4 * k + j)) (length-blocks reloc_bytes 4 (λ r. refl) f.relocs) refl
    ∙ ap (λ l. get_or l (4 * k + j) 0) (sym (append-nil (flat_map export_bytes f.exports)))
    ∙ block-byte export_bytes 4 (λ y. refl) f.exports [] k j d lt small in
    let low : get_or (text_of f) (p + 2) 0 ≡ x.offset % 256 = at 2 (p + 2) (lit< tt) refl in
    let high : get_or (text_of f) (p + 2 + 1) 0 ≡ x.offset / 256 = at 3 (p + 2 + 1) (lit< tt) (omega arith) in
    record {
      number = at 0 p (lit< tt) (omega arith);
      zero_byte = at 1 (p + 1) (lit< tt) refl;
      offset = omega (arith, low, high, halves x.offset);
    }
