-- Lists that grow piece by piece.
use Rattle.std.proofs.Common.{◌≡◌, ℕ, zero, suc, ◌+◌, ◌<◌, List, [], ◌∷◌, ◌++◌, length, take, get_or, sym, refl, ap, ◌∙◌, arith, Option, None, Some}
use Rattle.std.proofs.lemmas.List.{append_assoc, append-nil, take_more, length-take}
use Rattle.std.proofs.lemmas.List.Concat.{flat_map-append}
use Rattle.msp_encode.specs.Spelling.{InstrFits}
use Rattle.code_model.specs.declared.parts.Reloc.{Reloc}
use Rattle.code_model.specs.declared.parts.RelKind.{RelKind}
use Rattle.insert_model.specs.declared.piece.Piece.{Piece}
use Rattle.insert_model.specs.declared.piece.Word.{Word}
use Rattle.insert_model.specs.Words.{piece_words, unit_words}
use Rattle.insert_model.specs.Inserted.{with_reloc, relocs_from}
use Rattle.check_inserter.specs.Fitting.{AllFit}

-- ---- words of pieces

pub unit_words_none : (out : List Word) → out ≡ out ++ unit_words []
unfolding unit_words
unit_words_none out = sym (append-nil out)

pub unit_words_append : (xs ys : List Piece) → unit_words (xs ++ ys) ≡ unit_words xs ++ unit_words ys
unfolding unit_words
unit_words_append xs ys = flat_map-append piece_words xs ys

unit_words_one : (p : Piece) → unit_words (p ∷ []) ≡ piece_words p
unfolding unit_words
unit_words_one p = append-nil (piece_words p)

pub unit_words_more : (out a b : List Word) (ps : List Piece) (i : ℕ) (d : Piece) → i < length ps → a ≡ out ++ unit_words (take i ps) → b ≡ a ++ piece_words (get_or ps i d) → b ≡ out ++ unit_words (take (i + 1) ps)
unit_words_more out a b ps i d h ea eb =
    eb ∙ ap (λ (ws : List Word). ws ++ piece_words (get_or ps i d)) ea ∙ append_assoc out (unit_words (take i ps)) (piece_words (get_or ps i d))
    ∙ ap (λ (ws : List Word). out ++ ws)
    (ap (λ (ws : List Word). unit_words (take i ps) ++ ws) (sym (unit_words_one (get_or ps i d))) ∙ sym (unit_words_append (take i ps) (get_or ps i d ∷ []))
    ∙ ap unit_words (sym (take_more ps i d h)))

pub both_words : (out a b : List Word) (xs ys : List Piece) → a ≡ out ++ unit_words xs → b ≡ a ++ unit_words ys → b ≡ out ++ unit_words (xs ++ ys)
both_words out a b xs ys ea eb =
    eb ∙ ap (λ (ws : List Word). ws ++ unit_words ys) ea ∙ append_assoc out (unit_words xs) (unit_words ys) ∙ ap (λ (ws : List Word). out ++ ws) (sym (unit_words_append xs ys))

pub fit_at : (ps : List Piece) (i : ℕ) (d : Piece) → AllFit ps → i < length ps → InstrFits (get_or ps i d).instr
fit_at [] i d all h = absurd (omega arith)
fit_at (p ∷ ps) zero d all h = all.0
fit_at (p ∷ ps) (suc i) d all h = fit_at ps i d all.1 (omega arith)

-- ---- relocations

with_reloc_append : (at : ℕ) (k : Option RelKind) (rs qs : List Reloc) → with_reloc at k (rs ++ qs) ≡ with_reloc at k rs ++ qs
with_reloc_append at None rs qs = refl
with_reloc_append at (Some k) rs qs = refl

pub relocs_append : (at : ℕ) (xs ys : List Word) → relocs_from at (xs ++ ys) ≡ relocs_from at xs ++ relocs_from (at + length xs) ys
relocs_append at [] ys = let e : at + 0 ≡ at = omega arith in ap (λ (n : ℕ). relocs_from n ys) (sym e)
relocs_append at (x ∷ xs) ys =
    let e : at + 1 + length xs ≡ at + length (x ∷ xs) = omega arith in
    ap (with_reloc at x.kind) (relocs_append (at + 1) xs ys ∙ ap (λ (n : ℕ). relocs_from (at + 1) xs ++ relocs_from n ys) e)
    ∙ with_reloc_append at x.kind (relocs_from (at + 1) xs) (relocs_from (at + length (x ∷ xs)) ys)

pub relocs_more : (out a b : List Reloc) (ws : List Word) (i : ℕ) (d : Word) → i < length ws → a ≡ out ++ relocs_from 0 (take i ws) → b ≡ a ++ with_reloc i (get_or ws i d).kind [] → b ≡ out ++ relocs_from 0 (take (i + 1) ws)
relocs_more out a b ws i d h ea eb =
    let w : Word = get_or ws i d in
    let n : 0 + length (take i ws) ≡ i = taken_length in
    eb ∙ ap (λ (rs : List Reloc). rs ++ with_reloc i w.kind []) ea ∙ append_assoc out (relocs_from 0 (take i ws)) (with_reloc i w.kind [])
    ∙ ap (λ (rs : List Reloc). out ++ rs)
    (ap (λ (m : ℕ). relocs_from 0 (take i ws) ++ with_reloc m w.kind []) (sym n) ∙ sym (relocs_append 0 (take i ws) (w ∷ [])) ∙ ap (relocs_from 0) (sym (take_more ws i d h)))
  where
    taken_length : 0 + length (take i ws) ≡ i
    taken_length = omega (arith, length-take i ws)
