-- The first pass keeps drafts sound: pieces that are added.
use Rattle.std.proofs.Common.{◌≡◌, ℕ, ◌+◌, ◌*◌, ◌%◌, ◌==◌, Bool, true, false, List, [], ◌∷◌, ◌++◌, length, map, Option, Some, None, Result, Ok, Err, refl, ap, sym, ◌∙◌, subst, arith}
use Rattle.std.proofs.lemmas.Bool.Decides.{nat_tests}
use Rattle.asm_model.specs.declared.fault.AsmKind.{AsmKind}
use Rattle.asm_model.specs.declared.name.Name.{Name}
use Rattle.asm_model.specs.declared.name.Value.{Value}
use Rattle.asm_model.specs.declared.expression.Numeral.{Numeral}
use Rattle.asm_model.specs.declared.expression.Expression.{Expression}
use Rattle.asm_model.specs.declared.piece.DataUnit.{DataUnit}
use Rattle.asm_model.specs.declared.piece.DataUnit.TheVariants as unit
use Rattle.asm_model.specs.declared.piece.Piece.{Piece}
use Rattle.asm_model.specs.declared.piece.Piece.TheVariants as piece
use Rattle.asm_model.specs.declared.piece.Placed.{Placed}
use Rattle.asm_model.specs.declared.progress.Header.{Header}
use Rattle.asm_model.specs.declared.progress.Progress.{Progress}
use Rattle.asm_model.specs.Numbers.{numeral_of}
use Rattle.asm_model.specs.Expressions.{expression_of, is_plain}
use Rattle.asm_model.specs.Operands.{kept, plain_only, address_of}
use Rattle.asm_model.specs.Drafts.{Draft, placed, code_words, grown_draft}
use Rattle.asm_model.specs.Directives.{word_datum, byte_datum, datum_of, unit_size, is_aligned, datum_piece, data_pieces}
use Rattle.asm_model.specs.FirstPass.{go_on}
use Rattle.asm_model.specs.Sound.{initialised_total, entry_total, export_total, least_total, ArePieces, StartsSuit, IsHeader, IsSound}
use Rattle.asm_model.proofs.FirstSound.{OkSound, IsCodePiece, Adds, OkGrows}
use Rattle.asm_model.proofs.Appended.{code_append, initialised_append, entry_append, export_append, least_append, pieces_append}

no_more : (n m k : ℕ) → n ≡ m + k → k ≡ 0 → m ≡ n
no_more n m k e z = omega arith

-- with pieces that have room
pub added_sound : (d : Draft) (line : ℕ) (pieces : List Piece) (c i : ℕ) (r : Result Progress AsmKind) → IsSound d → Adds d.progress.initialised (map (placed line) pieces) c i → OkGrows d.progress c i 0 r → OkSound (grown_draft d line pieces r)
added_sound d line pieces c i (Err k) h a g = tt
added_sound d line pieces c i (Ok q) h a g =
    let new : List Placed = map (placed line) pieces in
    let at_is : d.progress.initialised ≡ 0 + initialised_total d.pieces = omega (arith, h.initialised_is) in
    let P : ℕ → Type 0 = λ n. ArePieces n (least_total 0 d.pieces) new in
    let entries : entry_total d.pieces ≡ entry_total (d.pieces ++ new) = no_more _ _ _ (entry_append d.pieces new) a.no_entry in
    let exports : export_total d.pieces ≡ export_total (d.pieces ++ new) = no_more _ _ _ (export_append d.pieces new) a.no_export in
    let starts : StartsSuit q.header (entry_total d.pieces) (export_total d.pieces) = subst (λ (o : Option Header). StartsSuit o (entry_total d.pieces) (export_total d.pieces)) (sym g.header_is) h.starts in
    record {
      pieces = pieces_append d.pieces new 0 0 h.pieces (subst P at_is (a.fit (least_total 0 d.pieces)));
      code_is = omega (arith, code_append d.pieces new, a.code_is, h.code_is, g.code_is);
      initialised_is = omega (arith, initialised_append d.pieces new, a.initialised_is, h.initialised_is, g.initialised_is);
      least_is = least_append d.pieces new 0 ∙ a.same_least (least_total 0 d.pieces) ∙ h.least_is ∙ sym g.least_is;
      header = subst (λ (o : Option Header). IsHeader o) (sym g.header_is) h.header;
      starts = subst (λ (n : ℕ). StartsSuit q.header n (export_total (d.pieces ++ new))) entries (subst (λ (n : ℕ). StartsSuit q.header (entry_total d.pieces) n) exports starts);
      code_most = g.code_most;
      static_most = g.static_most;
    }

-- with zeroed bytes that have room
pub spaced_sound : (d : Draft) (z : ℕ) (r : Result Progress AsmKind) → IsSound d → OkGrows d.progress 0 0 z r → OkSound (go_on d r)
spaced_sound d z (Err k) h g = tt
spaced_sound d z (Ok q) h g =
    record {
      pieces = h.pieces;
      code_is = omega (arith, h.code_is, g.code_is);
      initialised_is = omega (arith, h.initialised_is, g.initialised_is);
      least_is = h.least_is ∙ sym g.least_is;
      header = subst (λ (o : Option Header). IsHeader o) (sym g.header_is) h.header;
      starts = subst (λ (o : Option Header). StartsSuit o (entry_total d.pieces) (export_total d.pieces)) (sym g.header_is) h.starts;
      code_most = g.code_most;
      static_most = g.static_most;
    }

-- a piece of code
pub code_adds : (at line : ℕ) (p : Piece) → IsCodePiece p → Adds at (placed line p ∷ []) (code_words p) 0
code_adds at line (piece.Operation i s d) h = record { code_is = omega arith; initialised_is = omega arith; no_entry = omega arith; no_export = omega arith; same_least = λ least. refl; fit = λ least. (h, tt) }
code_adds at line (piece.Jump condition target) h = record { code_is = omega arith; initialised_is = omega arith; no_entry = omega arith; no_export = omega arith; same_least = λ least. refl; fit = λ least. (tt, tt) }
code_adds at line (piece.Word b w) h = absurd h
code_adds at line (piece.Byte b) h = absurd h
code_adds at line (piece.Entry label) h = absurd h
code_adds at line (piece.Export number label) h = absurd h

-- ---- static data

abbrev pub IsUnitPiece : DataUnit → Piece → Type 0
IsUnitPiece unit.Word (piece.Operation i s d) = ⊥
IsUnitPiece unit.Word (piece.Jump condition target) = ⊥
IsUnitPiece unit.Word (piece.Word b w) = is_plain b ≡ true
IsUnitPiece unit.Word (piece.Byte b) = ⊥
IsUnitPiece unit.Word (piece.Entry label) = ⊥
IsUnitPiece unit.Word (piece.Export number label) = ⊥
IsUnitPiece unit.Byte (piece.Operation i s d) = ⊥
IsUnitPiece unit.Byte (piece.Jump condition target) = ⊥
IsUnitPiece unit.Byte (piece.Word b w) = ⊥
IsUnitPiece unit.Byte (piece.Byte b) = Unit {0}
IsUnitPiece unit.Byte (piece.Entry label) = ⊥
IsUnitPiece unit.Byte (piece.Export number label) = ⊥

abbrev AreUnits : DataUnit → List Piece → Type 0
AreUnits u [] = Unit {0}
AreUnits u (p ∷ ps) = IsUnitPiece u p × AreUnits u ps

words_add : (line : ℕ) (ps : List Piece) (at : ℕ) → AreUnits unit.Word ps → at % 2 ≡ 0 → Adds at (map (placed line) ps) 0 (2 * length ps)
words_add line [] at h even = record { code_is = refl; initialised_is = omega arith; no_entry = refl; no_export = refl; same_least = λ least. refl; fit = λ least. tt }
words_add line (piece.Word b w ∷ ps) at h even =
    let next : (at + 2) % 2 ≡ 0 = omega (arith, even) in
    let r = words_add line ps (at + 2) h.1 next in
    record { code_is = omega (arith, r.code_is); initialised_is = omega (arith, r.initialised_is); no_entry = omega (arith, r.no_entry); no_export = omega (arith, r.no_export); same_least = λ least. r.same_least least; fit = λ least. ((even, h.0), r.fit least) }
words_add line (piece.Operation i s d ∷ ps) at h even = absurd h.0
words_add line (piece.Jump condition target ∷ ps) at h even = absurd h.0
words_add line (piece.Byte b ∷ ps) at h even = absurd h.0
words_add line (piece.Entry label ∷ ps) at h even = absurd h.0
words_add line (piece.Export number label ∷ ps) at h even = absurd h.0

bytes_add : (line : ℕ) (ps : List Piece) (at : ℕ) → AreUnits unit.Byte ps → Adds at (map (placed line) ps) 0 (1 * length ps)
bytes_add line [] at h = record { code_is = refl; initialised_is = omega arith; no_entry = refl; no_export = refl; same_least = λ least. refl; fit = λ least. tt }
bytes_add line (piece.Byte b ∷ ps) at h =
    let r = bytes_add line ps (at + 1) h.1 in
    record { code_is = omega (arith, r.code_is); initialised_is = omega (arith, r.initialised_is); no_entry = omega (arith, r.no_entry); no_export = omega (arith, r.no_export); same_least = λ least. r.same_least least; fit = λ least. (tt, r.fit least) }
bytes_add line (piece.Operation i s d ∷ ps) at h = absurd h.0
bytes_add line (piece.Jump condition target ∷ ps) at h = absurd h.0
bytes_add line (piece.Word b w ∷ ps) at h = absurd h.0
bytes_add line (piece.Entry label ∷ ps) at h = absurd h.0
bytes_add line (piece.Export number label ∷ ps) at h = absurd h.0

word_unit : (e : Option Expression) → IsUnitPiece unit.Word (datum_piece unit.Word (word_datum (plain_only e)))
word_unit None = refl
word_unit (Some e) =
    let P : Bool → Type 0 = λ b. is_plain e.base ≡ b → IsUnitPiece unit.Word (datum_piece unit.Word (word_datum (kept b e))) in
    let each : (b : Bool) → P b = λ b. elim b as P [ true ↦ λ k. k | false ↦ λ k. refl ] in
    each (is_plain e.base) refl

byte_unit : (n : Option Numeral) → IsUnitPiece unit.Byte (datum_piece unit.Byte (byte_datum n))
byte_unit None = tt
byte_unit (Some n) = tt

unit_piece : (u : DataUnit) (names : List (Name × Value)) (o : List ℕ) → IsUnitPiece u (datum_piece u (datum_of u names o))
unfolding datum_of address_of
unit_piece unit.Word names o = word_unit (expression_of names o)
unit_piece unit.Byte names o = byte_unit (numeral_of o)

unit_pieces : (u : DataUnit) (names : List (Name × Value)) (os : List (List ℕ)) → AreUnits u (data_pieces u names os)
unfolding data_pieces
unit_pieces u names [] = tt
unit_pieces u names (o ∷ os) = (unit_piece u names o, unit_pieces u names os)

length_pieces : (u : DataUnit) (names : List (Name × Value)) (os : List (List ℕ)) → length (data_pieces u names os) ≡ length os
unfolding data_pieces
length_pieces u names [] = refl
length_pieces u names (o ∷ os) = ap (λ n. Prim.Native.Nat.suc n) (length_pieces u names os)

even_of : (at : ℕ) → (at % 2 == 0) ≡ true → at % 2 ≡ 0
even_of at h = grind (arith, nat_tests)

pub data_adds : (u : DataUnit) (names : List (Name × Value)) (line at : ℕ) (os : List (List ℕ)) → is_aligned u at ≡ true → Adds at (map (placed line) (data_pieces u names os)) 0 (unit_size u * length os)
data_adds unit.Word names line at os h = subst (λ (n : ℕ). Adds at (map (placed line) (data_pieces unit.Word names os)) 0 (2 * n)) (length_pieces unit.Word names os) (words_add line (data_pieces unit.Word names os) at (unit_pieces unit.Word names os) (even_of at h))
data_adds unit.Byte names line at os h = subst (λ (n : ℕ). Adds at (map (placed line) (data_pieces unit.Byte names os)) 0 (1 * n)) (length_pieces unit.Byte names os) (bytes_add line (data_pieces unit.Byte names os) at (unit_pieces unit.Byte names os))
