-- The first pass keeps drafts sound: statements and lines.
use Rattle.std.proofs.Common.{◌≡◌, ℕ, ◌+◌, ◌*◌, ◌%◌, ◌≤◌, ◌==◌, nat_le, Bool, true, not, ◌&&◌, ◌||◌, cond, List, [], ◌∷◌, ◌++◌, length, Option, Some, None, is_some, Result, Ok, Err, refl, ◌∙◌, subst, arith}
use Rattle.std.proofs.lemmas.Bool.Decides.{nat_tests}
use Rattle.std.specs.List.{list_all}
use Rattle.msp_encode.specs.declared.instr.Width.{Width}
use Rattle.asm_model.specs.declared.fault.AsmKind.{AsmKind}
use Rattle.asm_model.specs.declared.fault.AsmKind.TheVariants as kind
use Rattle.asm_model.specs.declared.name.Name.{Name}
use Rattle.asm_model.specs.declared.name.Value.{Value}
use Rattle.asm_model.specs.declared.expression.Numeral.{Numeral}
use Rattle.asm_model.specs.declared.mnemonic.MnemonicForm.{MnemonicForm}
use Rattle.asm_model.specs.declared.mnemonic.Directive.{Directive}
use Rattle.asm_model.specs.declared.mnemonic.Directive.TheVariants as directive
use Rattle.asm_model.specs.declared.mnemonic.Keyword.{Keyword}
use Rattle.asm_model.specs.declared.mnemonic.Keyword.TheVariants as keyword
use Rattle.asm_model.specs.declared.piece.DataUnit.{DataUnit}
use Rattle.asm_model.specs.declared.piece.DataUnit.TheVariants as unit
use Rattle.asm_model.specs.declared.piece.Piece.{Piece}
use Rattle.asm_model.specs.declared.piece.Piece.TheVariants as piece
use Rattle.asm_model.specs.declared.piece.Placed.{Placed}
use Rattle.asm_model.specs.declared.progress.Section.{Section}
use Rattle.asm_model.specs.declared.progress.Section.TheVariants as section
use Rattle.asm_model.specs.declared.progress.Header.{Header}
use Rattle.asm_model.specs.declared.progress.Header.TheVariants as header
use Rattle.asm_model.specs.declared.progress.Version.{Version}
use Rattle.asm_model.specs.declared.progress.Version.TheVariants as version
use Rattle.asm_model.specs.declared.progress.Progress.{Progress}
use Rattle.asm_model.specs.Lines.{lines_of, is_text_byte, is_nil}
use Rattle.asm_model.specs.Words.{body_of, has_colon, before_colon, behind_colon, first_word, behind_word, operands_of}
use Rattle.asm_model.specs.Numbers.{numeral_of, is_between}
use Rattle.asm_model.specs.Names.{has_name_form, name_of, is_taken}
use Rattle.asm_model.specs.Mnemonics.{keyword_of}
use Rattle.asm_model.specs.Instructions.{instruction_of, label_of}
use Rattle.asm_model.specs.Drafts.{Draft, empty_draft, first_progress, with_progress, with_name, with_pieces, placed, code_words, by_progress, grown, grown_draft}
use Rattle.asm_model.specs.Directives.{application, application_of, module_of, only_header, with_version, is_two, version_of, equate, is_application, is_module, entry_by, entry_of, export_by, export_of, told, section_from, is_code, is_data, is_zero, is_aligned, are_data, data_fit, data_pieces, data_room, unit_size, space_by, space_of}
use Rattle.asm_model.specs.FirstPass.{put_code, take_instruction, go_on, define, tell, take_data, take_directive, take_keyword, take_statement, with_label, take_labelled, take_body, take_line, Fault, behind_line, first_pass}
use Rattle.asm_model.specs.Sound.{entry_total, export_total, least_total, StartsSuit, IsHeader, IsSound}
use Rattle.asm_model.specs.Laws.{DraftsAreSound}
use Rattle.asm_model.proofs.Choices.{if_true, if_not, le_of, both_of}
use Rattle.asm_model.proofs.Appended.{code_append, initialised_append, entry_append, export_append, least_append, pieces_append}
use Rattle.asm_model.proofs.FirstSound.{OkSound, OkCode, instruction_code, grown_grows}
use Rattle.asm_model.proofs.AddedSound.{added_sound, spaced_sound, code_adds, data_adds}
use Rattle.code_model.specs.declared.object.TheConstants.{STATIC_BYTES_MAX}

-- ---- instructions

put_sound : (line : ℕ) (d : Draft) (r : Result Piece AsmKind) → IsSound d → OkCode r → OkSound (put_code line d r)
put_sound line d (Err k) h c = tt
put_sound line d (Ok p) h c = added_sound d line (p ∷ []) (code_words p) 0 (grown d.progress (code_words p) 0 0) h (code_adds d.progress.initialised line p c) (grown_grows d.progress (code_words p) 0 0)

take_instruction_sound : (line : ℕ) (d : Draft) (f : MnemonicForm) (width : Width) (rest : List ℕ) → IsSound d → OkSound (take_instruction line d f width rest)
unfolding take_instruction
take_instruction_sound line d f width rest h =
    if_true OkSound (is_some d.progress.header && is_code d.progress.section) (put_code line d (instruction_of d.names f width (operands_of rest))) (Err kind.BadDirective)
    (λ k. put_sound line d (instruction_of d.names f width (operands_of rest)) h (instruction_code d.names f width (operands_of rest)))
    (λ k. tt)

-- ---- headers

abbrev OkHeader : Result Header AsmKind → Type 0
OkHeader (Ok h) = IsHeader (Some h)
OkHeader (Err k) = Unit {0}

record Between (least most n : ℕ) : Type 0 where
  low : least ≤ n
  high : n ≤ most

between_of : (least most : ℕ) (n : Numeral) → is_between least most n ≡ true → Between least most n.size
unfolding is_between
between_of least most n h =
    let k = both_of ((not n.negative || n.size == 0) && nat_le least n.size) (nat_le n.size most) h in
    let j = both_of (not n.negative || n.size == 0) (nat_le least n.size) k.0 in
    record { low = le_of least n.size j.1; high = le_of n.size most k.1 }

equal_of : (a b : ℕ) → (a == b) ≡ true → a ≡ b
equal_of a b h = grind (arith, nat_tests)

application_header : (stack threads : Option Numeral) → OkHeader (application stack threads)
application_header None threads = tt
application_header (Some stack) None = tt
application_header (Some stack) (Some threads) =
    let even : Bool = stack.size % 2 == 0 in
    if_true OkHeader ((is_between 16 1024 stack && even) && is_between 1 4 threads) (Ok (header.App stack.size threads.size)) (Err kind.NumberRange)
    (λ h.
    let k = both_of (is_between 16 1024 stack && even) (is_between 1 4 threads) h in
    let j = both_of (is_between 16 1024 stack) even k.0 in
    let s = between_of 16 1024 stack j.0 in
    let t = between_of 1 4 threads k.1 in
    (equal_of (stack.size % 2) 0 j.1, s.low, s.high, t.low, t.high))
    (λ h. tt)

application_of_header : (rest : List ℕ) → OkHeader (application_of rest)
unfolding application_of
application_of_header rest = application_header (numeral_of (first_word rest)) (numeral_of (behind_word rest))

module_of_header : (rest : List ℕ) → OkHeader (module_of rest)
unfolding module_of
module_of_header rest = if_true OkHeader (is_nil rest) (Ok header.Module) (Err kind.BadDirective) (λ h. tt) (λ h. tt)

any_starts : (h : Header) (e x : ℕ) → StartsSuit None e x → StartsSuit (Some h) e x
any_starts (header.App stack threads) e x s = s.1
any_starts header.Module e x s = s.0

headed_sound : (d : Draft) (o : Option Header) (r : Result Header AsmKind) → d.progress.header ≡ o → IsSound d → OkHeader r → OkSound (go_on d (only_header d.progress o r))
headed_sound d (Some other) r e h k = tt
headed_sound d None (Err f) e h k = tt
headed_sound d None (Ok new) e h k =
    let none : StartsSuit None (entry_total d.pieces) (export_total d.pieces) = subst (λ (o : Option Header). StartsSuit o (entry_total d.pieces) (export_total d.pieces)) e h.starts in
    record { pieces = h.pieces; code_is = h.code_is; initialised_is = h.initialised_is; least_is = h.least_is; header = k; starts = any_starts new (entry_total d.pieces) (export_total d.pieces) none; code_most = h.code_most; static_most = h.static_most }

-- ---- names and sections

named_sound : (d : Draft) (name : Name) (v : Value) → IsSound d → IsSound (with_name d name v)
named_sound d name v h = record { pieces = h.pieces; code_is = h.code_is; initialised_is = h.initialised_is; least_is = h.least_is; header = h.header; starts = h.starts; code_most = h.code_most; static_most = h.static_most }

versioned_sound : (d : Draft) (v : Version) → IsSound d → IsSound (with_progress d (with_version d.progress v))
versioned_sound d v h = record { pieces = h.pieces; code_is = h.code_is; initialised_is = h.initialised_is; least_is = h.least_is; header = h.header; starts = h.starts; code_most = h.code_most; static_most = h.static_most }

version_sound : (d : Draft) (rest : List ℕ) → IsSound d → OkSound (go_on d (version_of d.progress rest))
unfolding version_of
version_sound d rest h =
    let p = d.progress in
    if_true (λ (r : Result Progress AsmKind). OkSound (go_on d r)) ((is_some p.header && not p.named) && (not p.begun && is_two (numeral_of rest))) (Ok (with_version p version.Two)) (Err kind.BadDirective)
    (λ k. versioned_sound d version.Two h)
    (λ k. tt)

define_sound : (d : Draft) (r : Result (Name × Value) AsmKind) → IsSound d → OkSound (define d r)
define_sound d (Err k) h = tt
define_sound d (Ok entry) h = named_sound (with_progress d (with_version d.progress d.progress.version)) entry.0 entry.1 (versioned_sound d d.progress.version h)

section_sound : (d : Draft) (s : Section) (rest : List ℕ) → IsSound d → OkSound (go_on d (section_from d.progress s rest))
unfolding section_from
section_sound d s rest h =
    let p = d.progress in
    if_true (λ (r : Result Progress AsmKind). OkSound (go_on d r)) (is_some p.header && is_nil rest) (Ok (by_progress p true s p.entered p.least_export p.code p.initialised p.zeroed)) (Err kind.BadDirective)
    (λ k. record { pieces = h.pieces; code_is = h.code_is; initialised_is = h.initialised_is; least_is = h.least_is; header = h.header; starts = h.starts; code_most = h.code_most; static_most = h.static_most })
    (λ k. tt)

-- ---- static data

space_by_grows : (p : Progress) (d : Draft) (n : Option Numeral) → d.progress ≡ p → IsSound d → OkSound (go_on d (space_by d.progress n))
space_by_grows p d None e h = tt
space_by_grows p d (Some n) e h =
    if_true (λ (r : Result Progress AsmKind). OkSound (go_on d r)) (is_between 0 STATIC_BYTES_MAX n) (grown d.progress 0 0 n.size) (Err kind.NumberRange)
    (λ k. spaced_sound d n.size (grown d.progress 0 0 n.size) h (grown_grows d.progress 0 0 n.size))
    (λ k. tt)

space_sound : (d : Draft) (rest : List ℕ) → IsSound d → OkSound (go_on d (space_of d.progress rest))
unfolding space_of
space_sound d rest h =
    if_true (λ (r : Result Progress AsmKind). OkSound (go_on d r)) (is_zero d.progress.section) (space_by d.progress (numeral_of rest)) (Err kind.BadDirective)
    (λ k. space_by_grows d.progress d (numeral_of rest) refl h)
    (λ k. tt)

data_sound : (line : ℕ) (d : Draft) (u : DataUnit) (os : List (List ℕ)) → IsSound d → OkSound (take_data line d u os)
unfolding take_data data_room
data_sound line d u os h =
    let p = d.progress in
    let Q : Result Progress AsmKind → Type 0 = λ r. OkSound (grown_draft d line (data_pieces u d.names os) r) in
    let fit : Bool = data_fit u d.names os in
    let full : Result Progress AsmKind = grown p 0 (unit_size u * length os) 0 in
    if_not Q ((is_data p.section && is_aligned u p.initialised) && are_data u d.names os) (Err kind.BadDirective) (cond (not fit) (Err kind.NumberRange) full)
    (λ k. tt)
    (λ k. if_not Q fit (Err kind.NumberRange) full (λ j. tt)
    (λ j.
    let a = both_of (is_data p.section && is_aligned u p.initialised) (are_data u d.names os) k in
    let b = both_of (is_data p.section) (is_aligned u p.initialised) a.0 in
    added_sound d line (data_pieces u d.names os) 0 (unit_size u * length os) full h (data_adds u d.names line p.initialised os b.1) (grown_grows p 0 (unit_size u * length os) 0)))

-- ---- entry and exports

abbrev IsStart : Progress → Piece → Type 0
IsStart p (piece.Entry label) = is_application p.header ≡ true
IsStart p (piece.Export number label) = (is_module p.header ≡ true) × (p.least_export ≤ number) × (number ≤ 63)
IsStart p (piece.Operation i s d) = ⊥
IsStart p (piece.Jump condition target) = ⊥
IsStart p (piece.Word b w) = ⊥
IsStart p (piece.Byte b) = ⊥

abbrev OkStart : Progress → Result Piece AsmKind → Type 0
OkStart p (Ok q) = IsStart p q
OkStart p (Err k) = Unit {0}

entry_by_start : (p : Progress) (label : Option Name) → is_application p.header ≡ true → OkStart p (entry_by label)
entry_by_start p None h = tt
entry_by_start p (Some label) h = h

entry_start : (names : List (Name × Value)) (p : Progress) (rest : List ℕ) → OkStart p (entry_of names p rest)
unfolding entry_of
entry_start names p rest =
    if_true (OkStart p) (is_application p.header && not p.entered) (entry_by (label_of names rest)) (Err kind.BadDirective)
    (λ h. entry_by_start p (label_of names rest) (both_of (is_application p.header) (not p.entered) h).0)
    (λ h. tt)

export_by_start : (p : Progress) (n : Option Numeral) (label : Option Name) → is_module p.header ≡ true → OkStart p (export_by p.least_export n label)
export_by_start p None label h = tt
export_by_start p (Some n) None h = tt
export_by_start p (Some n) (Some label) h =
    if_true (OkStart p) (is_between p.least_export 63 n) (Ok (piece.Export n.size label)) (Err kind.NumberRange)
    (λ k. let b = between_of p.least_export 63 n k in (h, b.low, b.high))
    (λ k. tt)

export_start : (names : List (Name × Value)) (p : Progress) (rest : List ℕ) → OkStart p (export_of names p rest)
unfolding export_of
export_start names p rest =
    if_true (OkStart p) (is_module p.header) (export_by p.least_export (numeral_of (first_word rest)) (label_of names (behind_word rest))) (Err kind.BadDirective)
    (λ h. export_by_start p (numeral_of (first_word rest)) (label_of names (behind_word rest)) h)
    (λ h. tt)

entry_suits : (o : Option Header) (e x e' x' : ℕ) → is_application o ≡ true → StartsSuit o e x → x' ≡ x → StartsSuit o e' x'
entry_suits None e x e' x' h s k = absurd cc
entry_suits (Some (header.App stack threads)) e x e' x' h s k = k ∙ s
entry_suits (Some header.Module) e x e' x' h s k = absurd cc

export_suits : (o : Option Header) (e x e' x' : ℕ) → is_module o ≡ true → StartsSuit o e x → e' ≡ e → StartsSuit o e' x'
export_suits None e x e' x' h s k = absurd cc
export_suits (Some (header.App stack threads)) e x e' x' h s k = absurd cc
export_suits (Some header.Module) e x e' x' h s k = k ∙ s

told_sound : (line : ℕ) (d : Draft) (q : Piece) → IsSound d → IsStart d.progress q → IsSound (with_pieces (with_progress d (told d.progress q)) line (q ∷ []))
told_sound line d (piece.Entry label) h s =
    let new : List Placed = placed line (piece.Entry label) ∷ [] in
    record {
      pieces = pieces_append d.pieces new 0 0 h.pieces (tt, tt);
      code_is = omega (arith, code_append d.pieces new, h.code_is);
      initialised_is = omega (arith, initialised_append d.pieces new, h.initialised_is);
      least_is = least_append d.pieces new 0 ∙ h.least_is;
      header = h.header;
      starts = entry_suits d.progress.header (entry_total d.pieces) (export_total d.pieces) (entry_total (d.pieces ++ new)) (export_total (d.pieces ++ new)) s h.starts (omega (arith, export_append d.pieces new));
      code_most = h.code_most;
      static_most = h.static_most;
    }
told_sound line d (piece.Export number label) h s =
    let new : List Placed = placed line (piece.Export number label) ∷ [] in
    let least : least_total 0 d.pieces ≤ number = omega (arith, h.least_is, s.1) in
    record {
      pieces = pieces_append d.pieces new 0 0 h.pieces ((least, s.2), tt);
      code_is = omega (arith, code_append d.pieces new, h.code_is);
      initialised_is = omega (arith, initialised_append d.pieces new, h.initialised_is);
      least_is = least_append d.pieces new 0;
      header = h.header;
      starts = export_suits d.progress.header (entry_total d.pieces) (export_total d.pieces) (entry_total (d.pieces ++ new)) (export_total (d.pieces ++ new)) s.0 h.starts (omega (arith, entry_append d.pieces new));
      code_most = h.code_most;
      static_most = h.static_most;
    }
told_sound line d (piece.Operation i a b) h s = absurd s
told_sound line d (piece.Jump condition target) h s = absurd s
told_sound line d (piece.Word b w) h s = absurd s
told_sound line d (piece.Byte b) h s = absurd s

tell_sound : (line : ℕ) (d : Draft) (r : Result Piece AsmKind) → IsSound d → OkStart d.progress r → OkSound (tell line d r)
tell_sound line d (Err k) h s = tt
tell_sound line d (Ok q) h s = told_sound line d q h s

-- ---- statements and lines

directive_sound : (line : ℕ) (d : Draft) (w : Directive) (rest : List ℕ) → IsSound d → OkSound (take_directive line d w rest)
unfolding take_directive
directive_sound line d directive.App rest h = headed_sound d d.progress.header (application_of rest) refl h (application_of_header rest)
directive_sound line d directive.Module rest h = headed_sound d d.progress.header (module_of rest) refl h (module_of_header rest)
directive_sound line d directive.Version rest h = version_sound d rest h
directive_sound line d directive.Equ rest h = define_sound d (equate d.names (is_some d.progress.header && not d.progress.begun) rest) h
directive_sound line d directive.Entry rest h = tell_sound line d (entry_of d.names d.progress rest) h (entry_start d.names d.progress rest)
directive_sound line d directive.Export rest h = tell_sound line d (export_of d.names d.progress rest) h (export_start d.names d.progress rest)
directive_sound line d directive.Code rest h = section_sound d section.Code rest h
directive_sound line d directive.Data rest h = section_sound d section.Data rest h
directive_sound line d directive.Zero rest h = section_sound d section.Zero rest h
directive_sound line d directive.Word rest h = data_sound line d unit.Word (operands_of rest) h
directive_sound line d directive.Byte rest h = data_sound line d unit.Byte (operands_of rest) h
directive_sound line d directive.Space rest h = space_sound d rest h

keyword_sound : (line : ℕ) (d : Draft) (k : Option Keyword) (rest : List ℕ) → IsSound d → OkSound (take_keyword line d k rest)
keyword_sound line d None rest h = tt
keyword_sound line d (Some (keyword.Directive w)) rest h = directive_sound line d w rest h
keyword_sound line d (Some (keyword.Mnemonic f width)) rest h = take_instruction_sound line d f width rest h

statement_sound : (line : ℕ) (d : Draft) (text : List ℕ) → IsSound d → OkSound (take_statement line d text)
unfolding take_statement
statement_sound line d text h =
    if_true OkSound (is_nil text) (Ok d) (take_keyword line d (keyword_of (first_word text)) (behind_word text)) (λ k. h) (λ k. keyword_sound line d (keyword_of (first_word text)) (behind_word text) h)

labelled_sound : (line : ℕ) (d : Draft) (word rest : List ℕ) → IsSound d → OkSound (take_labelled line d word rest)
unfolding take_labelled
labelled_sound line d word rest h =
    if_true OkSound (is_taken d.names word) (Err kind.DoubleLabel) (cond (has_name_form word) (take_statement line (with_label d word) rest) (Err kind.UnknownWord)) (λ k. tt)
    (λ k. if_true OkSound (has_name_form word) (take_statement line (with_label d word) rest) (Err kind.UnknownWord) (λ j. statement_sound line (with_label d word) rest (named_sound d (name_of word) _ h)) (λ j. tt))

body_sound : (line : ℕ) (d : Draft) (body : List ℕ) → IsSound d → OkSound (take_body line d body)
unfolding take_body
body_sound line d body h =
    if_true OkSound (has_colon body) (take_labelled line d (before_colon body) (behind_colon body)) (take_statement line d body) (λ k. labelled_sound line d (before_colon body) (behind_colon body) h) (λ k. statement_sound line d body h)

line_sound : (line : ℕ) (d : Draft) (bytes : List ℕ) → IsSound d → OkSound (take_line line d bytes)
unfolding take_line
line_sound line d bytes h = if_true OkSound (list_all is_text_byte bytes) (take_body line d (body_of bytes)) (Err kind.NotText) (λ k. body_sound line d (body_of bytes) h) (λ k. tt)

-- ---- all lines

abbrev pub OkAll : Result Draft Fault → Type 0
OkAll (Ok d) = IsSound d
OkAll (Err f) = Unit {0}

behind_sound : (line : ℕ) (r : Result Draft AsmKind) (next : Draft → Result Draft Fault) → OkSound r → ((d : Draft) → IsSound d → OkAll (next d)) → OkAll (behind_line line r next)
behind_sound line (Err k) next h f = tt
behind_sound line (Ok d) next h f = f d h

pub pass_sound : (lines : List (List ℕ)) (line : ℕ) (d : Draft) → IsSound d → OkAll (first_pass line lines d)
pass_sound [] line d h = h
pass_sound (bytes ∷ lines) line d h = behind_sound line (take_line line d bytes) (λ next. first_pass (line + 1) lines next) (line_sound line d bytes h) (λ next k. pass_sound lines (line + 1) next k)

pub empty_sound : IsSound empty_draft
unfolding first_progress
empty_sound = record { pieces = tt; code_is = refl; initialised_is = refl; least_is = refl; header = tt; starts = (refl, refl); code_most = omega arith; static_most = omega arith }

pub drafts_are_sound : DraftsAreSound
drafts_are_sound source d e = subst OkAll e (pass_sound (lines_of source) 1 empty_draft empty_sound)
