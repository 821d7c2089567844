-- The code of an object with guards is the words of its pieces.
use Rattle.std.proofs.Common.{◌≡◌, ℕ, List, [], ◌∷◌, ◌++◌, map, refl, sym, subst, ap, ◌∙◌, rules}
use Rattle.std.proofs.lemmas.List.{map-append}
use Rattle.msp_encode.specs.declared.instr.Dst.TheVariants as dst
use Rattle.msp_encode.specs.declared.instr.Instr.{Instr}
use Rattle.msp_encode.specs.declared.instr.Instr.TheVariants as instr
use Rattle.msp_encode.specs.Spelling.{SrcFits, InstrFits}
use Rattle.code_model.specs.declared.object.Object.{Object}
use Rattle.code_model.specs.Fields.{Fields, fields}
use Rattle.code_model.specs.Starts.{Stands, Start}
use Rattle.insert_model.specs.declared.line.Line.{Line}
use Rattle.insert_model.specs.declared.piece.Piece.{Piece}
use Rattle.msp_encode.specs.Spelled.{count}
use Rattle.insert_model.specs.Words.{unit_words}
use Rattle.insert_model.specs.Source.{own}
use Rattle.insert_model.specs.Units.{static_bytes}
use Rattle.insert_model.specs.Groups.{Cell, cell, groups}
use Rattle.insert_model.specs.Layout.{difference_of, beside, place_map}
use Rattle.insert_model.specs.Inserted.{moved, with_guards, inserted}
use Rattle.insert_model.specs.Faults.{IsInserted}
use Rattle.insert_laws.specs.Pieces.{pieces, standing, size_of, PieceAt}
use Rattle.insert_laws.specs.Laws.{StartsArePieces}
use Rattle.insert_laws.proofs.Streams.{FitEach, words_of, Cut, start_cut, cut_start, cut_stands}
use Rattle.insert_laws.proofs.Standing.{unit_same, final_words}
use Rattle.insert_laws.proofs.UnitsFit.{AllFit, fit_append, wide_fits, unit_fits, standing_fit}
use Rattle.insert_laws.proofs.CleanGroups.{Premises, all_groups}
use Rattle.insert_laws.proofs.GroupUnits.{IsBeside, near_piece, beside_is, all_pieces}

pub code_words : (o q : Object) → IsInserted o q → q.code ≡ map (moved (place_map (fields o))) (unit_words (pieces (fields o)))
unfolding inserted with_guards
code_words o q i = ap (λ (f : Fields). f.code) i.is ∙ ap (map (moved (place_map (fields o)))) (final_words (fields o))

code_is : (o q : Object) → IsInserted o q → q.code ≡ words_of (map (standing (place_map (fields o))) (pieces (fields o)))
code_is o q i = code_words o q i ∙ unit_same (place_map (fields o)) (pieces (fields o))

-- ---- each piece is legal

near_fits : (o : Object) (most : ℕ) (c : Cell) (l : Line) → IsBeside o most c l → AllFit (beside c l ∷ [])
near_fits o most c l h =
    let f : InstrFits (instr.Two h.op h.width h.source (dst.Indexed h.base h.index)) = subst InstrFits h.line h.clean.fits in
    let s : SrcFits h.source = f.0 in
    let fits : AllFit (near_piece h.op h.width h.source (difference_of c (cell l)) (own l).source ∷ []) = search (rules, s) in
    subst (λ (p : Piece). AllFit (p ∷ [])) (sym (beside_is o most c l h)) fits

pieces_fit : Premises → (o q : Object) → IsInserted o q → AllFit (pieces (fields o))
unfolding pieces
pieces_fit h o q i =
    all_pieces o AllFit tt fit_append (λ l c. unit_fits (static_bytes (fields o)) l c.fits) (λ l c k e s. (h.short (fields o) l c k e s, tt))
    (λ r c f. wide_fits r c.base c.index c.kind f.0) (near_fits o) (groups (fields o)) (all_groups h o q i)

all_fit : Premises → (o q : Object) → IsInserted o q → FitEach (map (standing (place_map (fields o))) (pieces (fields o)))
all_fit h o q i = standing_fit (place_map (fields o)) (pieces (fields o)) (pieces_fit h o q i)

-- ---- starts

-- a cut of the instructions is a cut of the pieces
record Back (go : ℕ → ℕ) (ps : List Piece) (a : List Instr) (i : Instr) (b : List Instr) : Type 0 where
  before : List Piece
  piece : Piece
  after : List Piece
  are : ps ≡ before ++ piece ∷ after
  front : a ≡ map (standing go) before
  here : i ≡ standing go piece

cut_back : (go : ℕ → ℕ) (ps : List Piece) (a : List Instr) (i : Instr) (b : List Instr) → map (standing go) ps ≡ a ++ i ∷ b → Back go ps a i b
cut_back go [] [] i b e = absurd (cc)
cut_back go [] (x ∷ a) i b e = absurd (cc)
cut_back go (p ∷ ps) [] i b e = record { before = []; piece = p; after = ps; are = refl; front = refl; here = head i b e }
  where
    head : (i : Instr) (b : List Instr) → standing go p ∷ map (standing go) ps ≡ i ∷ b → i ≡ standing go p
    head i b e = cc
cut_back go (p ∷ ps) (x ∷ a) i b e =
    let t : map (standing go) ps ≡ a ++ i ∷ b = tail x (a ++ i ∷ b) e in
    let h : x ≡ standing go p = front x (a ++ i ∷ b) e in
    let r : Back go ps a i b = cut_back go ps a i b t in
    record { before = p ∷ r.before; piece = r.piece; after = r.after; are = ap (λ (qs : List Piece). p ∷ qs) r.are; front = λ j. h j ∷ r.front j; here = r.here }
  where
    tail : (x : Instr) (c : List Instr) → standing go p ∷ map (standing go) ps ≡ x ∷ c → map (standing go) ps ≡ c
    tail x c e = cc

    front : (x : Instr) (c : List Instr) → standing go p ∷ map (standing go) ps ≡ x ∷ c → x ≡ standing go p
    front x c e = cc

pub piece_of_cut : (f : Fields) (at : ℕ) → Cut (map (standing (place_map f)) (pieces f)) at → PieceAt f at
piece_of_cut f at c =
    let r : Back (place_map f) (pieces f) c.before c.instr c.after = cut_back (place_map f) (pieces f) c.before c.instr c.after c.are in
    record { before = r.before; piece = r.piece; after = r.after; are = r.are; place = c.place ∙ ap size_of r.front }

pub cut_of_piece : (f : Fields) (at : ℕ) → PieceAt f at → Cut (map (standing (place_map f)) (pieces f)) at
cut_of_piece f at p = record {
  before = map (standing (place_map f)) p.before;
  instr = standing (place_map f) p.piece;
  after = map (standing (place_map f)) p.after;
  are = ap (map (standing (place_map f))) p.are ∙ map-append (standing (place_map f)) p.before (p.piece ∷ p.after);
  place = p.place;
}

pub pieces_stand : Premises → StartsArePieces
unfolding standing cut_of_piece
pieces_stand h o q i =
    let code : q.code ≡ words_of (map (standing (place_map (fields o))) (pieces (fields o))) = code_is o q i in
    let fit : FitEach (map (standing (place_map (fields o))) (pieces (fields o))) = all_fit h o q i in
    let to : (at : ℕ) → Start q.code at → PieceAt (fields o) at =
    λ at s. piece_of_cut (fields o) at (start_cut h.one (map (standing (place_map (fields o))) (pieces (fields o))) at fit (subst (λ (ws : List ℕ). Start ws at) code s)) in
    let on : (at : ℕ) (p : PieceAt (fields o) at) → Stands q.code at (standing (place_map (fields o)) p.piece) (count (standing (place_map (fields o)) p.piece)) =
    λ at p. subst (λ (ws : List ℕ). Stands ws at (standing (place_map (fields o)) p.piece) (count (standing (place_map (fields o)) p.piece))) (sym code)
    (cut_stands (map (standing (place_map (fields o))) (pieces (fields o))) at fit (cut_of_piece (fields o) at p)) in
    record {
      starts = to;
      begins = λ at p. subst (λ (ws : List ℕ). Start ws at) (sym code) (cut_start (map (standing (place_map (fields o))) (pieces (fields o))) at fit (cut_of_piece (fields o) at p));
      stands = on;
      spelled = λ at s. let p = to at s in record { instr = standing (place_map (fields o)) p.piece; words = count (standing (place_map (fields o)) p.piece); stands = on at p };
    }
