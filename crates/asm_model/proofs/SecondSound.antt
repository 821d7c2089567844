-- The second pass gives relocations and exports that rise, and as many words and bytes as were counted.
use Rattle.std.proofs.Common.{◌≡◌, ℕ, ◌+◌, ◌*◌, ◌%◌, ◌<◌, ◌≤◌, nat_lt, Bool, true, false, not, ◌&&◌, cond, List, [], ◌∷◌, ◌++◌, length, Option, Some, None, Result, Ok, Err, refl, sym, ◌∙◌, subst, arith, length-append}
use Rattle.msp_encode.specs.declared.instr.Cond.{Cond}
use Rattle.msp_encode.specs.declared.instr.Src.{Src}
use Rattle.msp_encode.specs.declared.instr.Src.TheVariants as src
use Rattle.msp_encode.specs.declared.instr.Dst.{Dst}
use Rattle.msp_encode.specs.declared.instr.Dst.TheVariants as dst
use Rattle.msp_encode.specs.declared.instr.Instr.{Instr}
use Rattle.msp_encode.specs.declared.instr.Instr.TheVariants as instr
use Rattle.msp_encode.specs.Spelling.{src_words, dst_words, words_after}
use Rattle.code_model.specs.declared.parts.RelKind.{RelKind}
use Rattle.code_model.specs.declared.parts.Reloc.{Reloc}
use Rattle.code_model.specs.declared.parts.Export.{Export}
use Rattle.code_model.specs.Form.{kind_code}
use Rattle.asm_model.specs.declared.fault.AsmKind.{AsmKind}
use Rattle.asm_model.specs.declared.fault.AsmKind.TheVariants as kind
use Rattle.asm_model.specs.declared.name.Name.{Name}
use Rattle.asm_model.specs.declared.name.Value.{Value}
use Rattle.asm_model.specs.declared.name.Value.TheVariants as value
use Rattle.asm_model.specs.declared.expression.Base.{Base}
use Rattle.asm_model.specs.declared.expression.Base.TheVariants as base
use Rattle.asm_model.specs.declared.operand.Use.TheVariants as uses
use Rattle.asm_model.specs.declared.piece.Piece.{Piece}
use Rattle.asm_model.specs.declared.piece.Piece.TheVariants as piece
use Rattle.asm_model.specs.declared.piece.Placed.{Placed}
use Rattle.asm_model.specs.Names.{value_of}
use Rattle.asm_model.specs.Expressions.{is_plain}
use Rattle.asm_model.specs.Drafts.{code_words, initialised_bytes}
use Rattle.asm_model.specs.FirstPass.{Fault, behind_line}
use Rattle.msp_encode.specs.Spelled.{spelling}
use Rattle.asm_model.specs.SecondPass.{Known, source_use, destination_use, is_known, is_place_of_code, place_relocation, relocation, relocation_at, source_with, destination_with, placed_source, placed_destination, placed_word, behind_source, Settled, settled, settle, instr_suits, in_reach, jump_offset, Output, empty_output, code_end, with_instr, with_data, bytes_of, put_operation, code_place, put_jump_to, put_jump, put_word, below_end, start_of, enter_at, export_at, put_piece, second_pass}
use Rattle.asm_model.specs.Sound.{code_total, initialised_total, entry_count, export_count, entry_total, export_total, least_total, least_behind, IsSoundPiece, ArePieces}
use Rattle.asm_model.proofs.Choices.{if_true, if_not, lt_of}
use Rattle.asm_model.proofs.Rising.{Rising, rising_from, rising_append, rising_one, ExportsRise, exports_append}

-- what holds of an output, where the least number of a next export is this
pub record IsOutput (code least : ℕ) (o : Output) : Type 0 where
  pub code_rises : Rising true 0 (2 * length o.code) o.code_relocs
  pub data_rises : Rising false 0 (length o.initialised) o.data_relocs
  pub exports_rise : ExportsRise code 0 least o.exports
  pub entry_even : o.entry % 2 ≡ 0
  pub entry_below : o.entry < 2 * code

-- what a piece does to an output
pub record Stepped (code least : ℕ) (o next : Output) (p : Piece) : Type 0 where
  pub is_output : IsOutput code (least_behind least p) next
  pub code_is : length next.code ≡ length o.code + code_words p
  pub initialised_is : length next.initialised ≡ length o.initialised + initialised_bytes p
  pub entry_is : entry_count p ≡ 0 → next.entry ≡ o.entry
  pub exports_are : length next.exports ≡ length o.exports + export_count p

abbrev pub OkStep : (code least : ℕ) → Output → Piece → Result Output AsmKind → Type 0
OkStep code least o p (Ok next) = Stepped code least o next p
OkStep code least o p (Err k) = Unit {0}

-- ---- relocations of instructions

no_kinds : (k : RelKind) → true ≡ false → kind_code k ≤ 2
no_kinds k e = absurd cc

one_word : (at : ℕ) (o : Option RelKind) → at % 2 ≡ 0 → Rising true at (at + 2 * 1) (relocation_at true at o)
one_word at o even = rising_one true at (at + 2 * 1) o even (omega arith) (λ k e f. no_kinds k f)

no_word : (at : ℕ) → Rising true at (at + 2 * 0) []
no_word at = omega arith

source_rises : (names : List (Name × Value)) (at : ℕ) (b : Base) (s : Src) → at % 2 ≡ 0 → Rising true at (at + 2 * length (src_words s)) (relocation_at true at (relocation names (source_use s) b))
source_rises names at b (src.Reg r) even = no_word at
source_rises names at b (src.Indexed r x) even = one_word at (relocation names uses.Address b) even
source_rises names at b (src.Symbolic x) even = one_word at (relocation names uses.Distance b) even
source_rises names at b (src.Absolute x) even = one_word at (relocation names uses.Address b) even
source_rises names at b (src.Indirect r) even = no_word at
source_rises names at b (src.AutoInc r) even = no_word at
source_rises names at b (src.Immediate x) even = one_word at (relocation names uses.Immediate b) even
source_rises names at b (src.Const c) even = no_word at

destination_rises : (names : List (Name × Value)) (at : ℕ) (b : Base) (d : Dst) → at % 2 ≡ 0 → Rising true at (at + 2 * length (dst_words d)) (relocation_at true at (relocation names (destination_use d) b))
destination_rises names at b (dst.Reg r) even = no_word at
destination_rises names at b (dst.Indexed r x) even = one_word at (relocation names uses.Address b) even
destination_rises names at b (dst.Symbolic x) even = one_word at (relocation names uses.Distance b) even
destination_rises names at b (dst.Absolute x) even = one_word at (relocation names uses.Address b) even

source_length : (s : Src) (w : ℕ) → length (src_words (source_with s w)) ≡ length (src_words s)
source_length (src.Reg r) w = refl
source_length (src.Indexed r x) w = refl
source_length (src.Symbolic x) w = refl
source_length (src.Absolute x) w = refl
source_length (src.Indirect r) w = refl
source_length (src.AutoInc r) w = refl
source_length (src.Immediate x) w = refl
source_length (src.Const c) w = refl

destination_length : (d : Dst) (w : ℕ) → length (dst_words (destination_with d w)) ≡ length (dst_words d)
destination_length (dst.Reg r) w = refl
destination_length (dst.Indexed r x) w = refl
destination_length (dst.Symbolic x) w = refl
destination_length (dst.Absolute x) w = refl

rising_to : (low high more : ℕ) (rs : List Reloc) → high ≡ more → Rising true low high rs → Rising true low more rs
rising_to low high more rs e h = subst (λ (n : ℕ). Rising true low n rs) e h

-- an instruction that is settled at an even offset
record IsSettled (at : ℕ) (i : Instr) (s : Settled) : Type 0 where
  size : length (spelling s.instr) ≡ 1 + length (words_after i)
  rises : Rising true at (at + 2 * (1 + length (words_after i))) s.relocs

settle_is : (k : Known) (at : ℕ) (s d : Base) (i : Instr) → at % 2 ≡ 0 → IsSettled at i (settle k at s d i)
unfolding settle spelling
settle_is k at s d (instr.Two op width source destination) even =
    let first : Rising true (at + 2) ((at + 2) + 2 * length (src_words source)) (relocation_at true (at + 2) (relocation k.names (source_use source) s)) = source_rises k.names (at + 2) s source (omega (arith, even)) in
    let middle : (behind_source at source) % 2 ≡ 0 = omega (arith, even) in
    let second : Rising true (behind_source at source) (behind_source at source + 2 * length (dst_words destination)) (relocation_at true (behind_source at source) (relocation k.names (destination_use destination) d)) = destination_rises k.names (behind_source at source) d destination middle in
    let both : length (src_words source ++ dst_words destination) ≡ length (src_words source) + length (dst_words destination) = length-append (src_words source) (dst_words destination) in
    let a : length (src_words (placed_source k (at + 2) s source)) ≡ length (src_words source) = source_length source _ in
    let b : length (dst_words (placed_destination k (behind_source at source) d destination)) ≡ length (dst_words destination) = destination_length destination _ in
    let after : length (src_words (placed_source k (at + 2) s source) ++ dst_words (placed_destination k (behind_source at source) d destination)) ≡ length (src_words (placed_source k (at + 2) s source)) + length (dst_words (placed_destination k (behind_source at source) d destination)) = length-append (src_words (placed_source k (at + 2) s source)) (dst_words (placed_destination k (behind_source at source) d destination)) in
    record {
      size = omega (arith, both, a, b, after);
      rises = rising_from true at (at + 2) _ _ (omega arith) (rising_to (at + 2) (behind_source at source + 2 * length (dst_words destination)) (at + 2 * (1 + length (src_words source ++ dst_words destination))) _ (omega (arith, both)) (rising_append true _ _ (at + 2) (behind_source at source) (behind_source at source + 2 * length (dst_words destination)) first second));
    }
settle_is k at s d (instr.One op width source) even =
    let first : Rising true (at + 2) ((at + 2) + 2 * length (src_words source)) (relocation_at true (at + 2) (relocation k.names (source_use source) s)) = source_rises k.names (at + 2) s source (omega (arith, even)) in
    let a : length (src_words (placed_source k (at + 2) s source)) ≡ length (src_words source) = source_length source _ in
    record {
      size = omega (arith, a);
      rises = rising_from true at (at + 2) _ _ (omega arith) (rising_to (at + 2) ((at + 2) + 2 * length (src_words source)) (at + 2 * (1 + length (src_words source))) _ (omega arith) first);
    }
settle_is k at s d instr.Reti even = record { size = refl; rises = omega arith }
settle_is k at s d (instr.Jump condition offset) even = record { size = refl; rises = omega arith }

-- ---- steps

instr_step : (code least : ℕ) (o : Output) (p : Piece) (n : ℕ) (s : Settled) → IsOutput code least o → least_behind least p ≡ least → code_words p ≡ n → initialised_bytes p ≡ 0 → export_count p ≡ 0 → length (spelling s.instr) ≡ n → Rising true (2 * length o.code) (2 * length o.code + 2 * n) s.relocs → Stepped code least o (with_instr o s) p
instr_step code least o p n s h l w z x size rises =
    let whole : length (o.code ++ spelling s.instr) ≡ length o.code + length (spelling s.instr) = length-append o.code (spelling s.instr) in
    record {
      is_output = record {
        code_rises = rising_append true o.code_relocs s.relocs 0 (2 * length o.code) (2 * length (o.code ++ spelling s.instr)) h.code_rises (rising_to (2 * length o.code) (2 * length o.code + 2 * n) (2 * length (o.code ++ spelling s.instr)) s.relocs (omega (arith, whole, size)) rises);
        data_rises = h.data_rises;
        exports_rise = subst (λ (m : ℕ). ExportsRise code 0 m o.exports) (sym l) h.exports_rise;
        entry_even = h.entry_even;
        entry_below = h.entry_below;
      };
      code_is = omega (arith, whole, size, w);
      initialised_is = omega (arith, z);
      entry_is = λ e. refl;
      exports_are = omega (arith, x);
    }

operation_step : (k : Known) (least : ℕ) (o : Output) (i : Instr) (s d : Base) → IsOutput k.code least o → OkStep k.code least o (piece.Operation i s d) (put_operation k o i s d)
unfolding put_operation
operation_step k least o i s d h =
    let Q : Result Output AsmKind → Type 0 = OkStep k.code least o (piece.Operation i s d) in
    let done : Result Output AsmKind = Ok (with_instr o (settle k (code_end o) s d i)) in
    let even : (2 * length o.code) % 2 ≡ 0 = omega arith in
    let settled_at : IsSettled (2 * length o.code) i (settle k (2 * length o.code) s d i) = settle_is k (2 * length o.code) s d i even in
    if_not Q (is_known k.names s && is_known k.names d) (Err kind.NoLabel) (cond (not (instr_suits k.names s d i)) (Err kind.BadOperand) done) (λ f. tt)
    (λ f. if_not Q (instr_suits k.names s d i) (Err kind.BadOperand) done (λ g. tt)
    (λ g. instr_step k.code least o (piece.Operation i s d) (1 + length (words_after i)) (settle k (2 * length o.code) s d i) h refl refl refl refl settled_at.size settled_at.rises))

jump_to_step : (code least : ℕ) (o : Output) (condition : Cond) (name : Name) (r : Result ℕ AsmKind) → IsOutput code least o → OkStep code least o (piece.Jump condition name) (put_jump_to o condition r)
unfolding spelling
jump_to_step code least o condition name (Err f) h = tt
jump_to_step code least o condition name (Ok target) h =
    let s : Settled = settled (instr.Jump condition (jump_offset (code_end o) target)) [] in
    let rises : Rising true (2 * length o.code) (2 * length o.code + 2 * 1) [] = omega arith in
    if_true (OkStep code least o (piece.Jump condition name)) (in_reach (code_end o) target) (Ok (with_instr o s)) (Err kind.JumpRange)
    (λ f. instr_step code least o (piece.Jump condition name) 1 s h refl refl refl refl refl rises)
    (λ f. tt)

data_step : (code least : ℕ) (o : Output) (p : Piece) (bytes : List ℕ) (rs : List Reloc) → IsOutput code least o → least_behind least p ≡ least → code_words p ≡ 0 → initialised_bytes p ≡ length bytes → export_count p ≡ 0 → Rising false (length o.initialised) (length o.initialised + length bytes) rs → Stepped code least o (with_data o bytes rs) p
data_step code least o p bytes rs h l w z x rises =
    let whole : length (o.initialised ++ bytes) ≡ length o.initialised + length bytes = length-append o.initialised bytes in
    record {
      is_output = record {
        code_rises = h.code_rises;
        data_rises = rising_append false o.data_relocs rs 0 (length o.initialised) (length (o.initialised ++ bytes)) h.data_rises (subst (λ (n : ℕ). Rising false (length o.initialised) n rs) (sym whole) rises);
        exports_rise = subst (λ (m : ℕ). ExportsRise code 0 m o.exports) (sym l) h.exports_rise;
        entry_even = h.entry_even;
        entry_below = h.entry_below;
      };
      code_is = omega (arith, w);
      initialised_is = omega (arith, whole, z);
      entry_is = λ e. refl;
      exports_are = omega (arith, x);
    }

place_small : (b : Bool) → kind_code (place_relocation b) ≤ 2
place_small true = omega arith
place_small false = omega arith

some_same : (a b : RelKind) → Some a ≡ Some b → a ≡ b
some_same a b e = cc

plain_kinds : (names : List (Name × Value)) (b : Base) (k : RelKind) → is_plain b ≡ true → relocation names uses.Immediate b ≡ Some k → kind_code k ≤ 2
plain_kinds names base.Number k h e = absurd cc
plain_kinds names base.Lo k h e = absurd cc
plain_kinds names base.Hi k h e = absurd cc
plain_kinds names (base.Label name) k h e =
    let same : place_relocation (is_place_of_code (value_of names name)) ≡ k = some_same (place_relocation (is_place_of_code (value_of names name))) k e in
    subst (λ (j : RelKind). kind_code j ≤ 2) same (place_small (is_place_of_code (value_of names name)))

word_step : (k : Known) (least : ℕ) (o : Output) (b : Base) (word : ℕ) → IsOutput k.code least o → length o.initialised % 2 ≡ 0 → is_plain b ≡ true → OkStep k.code least o (piece.Word b word) (put_word k o b word)
unfolding put_word
word_step k least o b word h even plain =
    let bytes : List ℕ = bytes_of (placed_word k uses.Immediate (length o.initialised) b word) in
    let rs : List Reloc = relocation_at false (length o.initialised) (relocation k.names uses.Immediate b) in
    if_true (OkStep k.code least o (piece.Word b word)) (is_known k.names b) (Ok (with_data o bytes rs)) (Err kind.NoLabel)
    (λ f. data_step k.code least o (piece.Word b word) bytes rs h refl refl refl refl (rising_one false (length o.initialised) (length o.initialised + 2) (relocation k.names uses.Immediate b) even (omega arith) (λ j e g. plain_kinds k.names b j plain e)))
    (λ f. tt)

-- an offset where an entry or an export may lead
abbrev OkStart : ℕ → Result ℕ AsmKind → Type 0
OkStart code (Ok at) = (at % 2 ≡ 0) × (at < 2 * code)
OkStart code (Err f) = Unit {0}

abbrev OkEven : Result ℕ AsmKind → Type 0
OkEven (Ok at) = at % 2 ≡ 0
OkEven (Err f) = Unit {0}

place_even : (v : Option Value) → OkEven (code_place v)
place_even None = tt
place_even (Some (value.Number n)) = tt
place_even (Some (value.Code word)) = omega arith
place_even (Some (value.Initialised at)) = tt
place_even (Some (value.Zeroed at)) = tt

below_start : (code : ℕ) (r : Result ℕ AsmKind) → OkEven r → OkStart code (below_end code r)
below_start code (Err f) h = tt
below_start code (Ok at) h = if_true (OkStart code) (nat_lt at (2 * code)) (Ok at) (Err kind.BadOperand) (λ k. (h, lt_of at (2 * code) k)) (λ k. tt)

start_is : (k : Known) (label : Name) → OkStart k.code (start_of k label)
unfolding start_of
start_is k label = below_start k.code (code_place (value_of k.names label)) (place_even (value_of k.names label))

enter_step : (code least : ℕ) (o : Output) (label : Name) (r : Result ℕ AsmKind) → IsOutput code least o → OkStart code r → OkStep code least o (piece.Entry label) (enter_at o r)
enter_step code least o label (Err f) h s = tt
enter_step code least o label (Ok at) h s = record { is_output = record { code_rises = h.code_rises; data_rises = h.data_rises; exports_rise = h.exports_rise; entry_even = s.0; entry_below = s.1 }; code_is = omega arith; initialised_is = omega arith; entry_is = λ e. absurd (omega (arith, e)); exports_are = omega arith }

export_step : (code least : ℕ) (o : Output) (number : ℕ) (label : Name) (r : Result ℕ AsmKind) → IsOutput code least o → least ≤ number → number ≤ 63 → OkStart code r → OkStep code least o (piece.Export number label) (export_at o number r)
export_step code least o number label (Err f) h low high s = tt
export_step code least o number label (Ok at) h low high s =
    let new : List Export = record { number = number; offset = at } ∷ [] in
    record {
      is_output = record { code_rises = h.code_rises; data_rises = h.data_rises; exports_rise = exports_append code o.exports new 0 least (number + 1) h.exports_rise (record { least = low; most = high; even = s.0; below = s.1 }, refl); entry_even = h.entry_even; entry_below = h.entry_below };
      code_is = omega arith;
      initialised_is = omega arith;
      entry_is = λ e. refl;
      exports_are = length-append o.exports new;
    }

piece_step : (k : Known) (least : ℕ) (o : Output) (p : Piece) → IsOutput k.code least o → IsSoundPiece (length o.initialised) least p → OkStep k.code least o p (put_piece k o p)
unfolding put_piece put_jump
piece_step k least o (piece.Operation i s d) h f = operation_step k least o i s d h
piece_step k least o (piece.Jump condition target) h f = jump_to_step k.code least o condition target (code_place (value_of k.names target)) h
piece_step k least o (piece.Word b word) h f = word_step k least o b word h f.0 f.1
piece_step k least o (piece.Byte b) h f = data_step k.code least o (piece.Byte b) (b ∷ []) [] h refl refl refl refl (omega arith)
piece_step k least o (piece.Entry label) h f = enter_step k.code least o label (start_of k label) h (start_is k label)
piece_step k least o (piece.Export number label) h f = export_step k.code least o number label (start_of k label) h f.0 f.1 (start_is k label)

-- ---- all pieces

pub record Passed (code least : ℕ) (o last : Output) (ps : List Placed) : Type 0 where
  pub is_output : IsOutput code (least_total least ps) last
  pub code_is : length last.code ≡ length o.code + code_total ps
  pub initialised_is : length last.initialised ≡ length o.initialised + initialised_total ps
  pub entry_is : entry_total ps ≡ 0 → last.entry ≡ o.entry
  pub exports_are : length last.exports ≡ length o.exports + export_total ps

abbrev pub OkPassed : (code least : ℕ) → Output → List Placed → Result Output Fault → Type 0
OkPassed code least o ps (Ok last) = Passed code least o last ps
OkPassed code least o ps (Err f) = Unit {0}

one_more : (code least : ℕ) (o next : Output) (p : Placed) (ps : List Placed) (r : Result Output Fault) → Stepped code least o next p.piece → OkPassed code (least_behind least p.piece) next ps r → OkPassed code least o (p ∷ ps) r
one_more code least o next p ps (Err f) s h = tt
one_more code least o next p ps (Ok last) s h =
    record {
      is_output = h.is_output;
      code_is = omega (arith, h.code_is, s.code_is);
      initialised_is = omega (arith, h.initialised_is, s.initialised_is);
      entry_is = λ e. h.entry_is (omega (arith, e)) ∙ s.entry_is (omega (arith, e));
      exports_are = omega (arith, h.exports_are, s.exports_are);
    }

behind_step : (code least : ℕ) (o : Output) (p : Placed) (ps : List Placed) (r : Result Output AsmKind) (next : Output → Result Output Fault) → OkStep code least o p.piece r → ((q : Output) → Stepped code least o q p.piece → OkPassed code (least_behind least p.piece) q ps (next q)) → OkPassed code least o (p ∷ ps) (behind_line p.line r next)
behind_step code least o p ps (Err f) next s h = tt
behind_step code least o p ps (Ok q) next s h = one_more code least o q p ps (next q) s (h q s)

pub pass_is : (k : Known) (ps : List Placed) (least : ℕ) (o : Output) → IsOutput k.code least o → ArePieces (length o.initialised) least ps → OkPassed k.code least o ps (second_pass k ps o)
pass_is k [] least o h f = record { is_output = h; code_is = omega arith; initialised_is = omega arith; entry_is = λ e. refl; exports_are = omega arith }
pass_is k (p ∷ ps) least o h f =
    behind_step k.code least o p ps (put_piece k o p.piece) (λ next. second_pass k ps next) (piece_step k least o p.piece h f.0)
    (λ q s. pass_is k ps (least_behind least p.piece) q s.is_output (subst (λ (n : ℕ). ArePieces n (least_behind least p.piece) ps) (sym s.initialised_is) f.1))

pub empty_is : (code : ℕ) → 1 ≤ code → IsOutput code 0 empty_output
empty_is code h = record { code_rises = omega arith; data_rises = omega arith; exports_rise = refl; entry_even = refl; entry_below = omega (arith, h) }
