-- Totals of pieces behind others.
use Rattle.std.proofs.Common.{◌≡◌, ℕ, ◌+◌, List, [], ◌∷◌, ◌++◌, refl, arith, subst}
use Rattle.asm_model.specs.declared.piece.Placed.{Placed}
use Rattle.asm_model.specs.Drafts.{initialised_bytes}
use Rattle.asm_model.specs.Sound.{code_total, initialised_total, least_behind, ArePieces, least_total, entry_total, export_total}

pub code_append : (ps qs : List Placed) → code_total (ps ++ qs) ≡ code_total ps + code_total qs
code_append [] qs = omega arith
code_append (p ∷ ps) qs = let h : code_total (ps ++ qs) ≡ code_total ps + code_total qs = code_append ps qs in omega arith

pub initialised_append : (ps qs : List Placed) → initialised_total (ps ++ qs) ≡ initialised_total ps + initialised_total qs
initialised_append [] qs = omega arith
initialised_append (p ∷ ps) qs = let h : initialised_total (ps ++ qs) ≡ initialised_total ps + initialised_total qs = initialised_append ps qs in omega arith

pub entry_append : (ps qs : List Placed) → entry_total (ps ++ qs) ≡ entry_total ps + entry_total qs
entry_append [] qs = omega arith
entry_append (p ∷ ps) qs = let h : entry_total (ps ++ qs) ≡ entry_total ps + entry_total qs = entry_append ps qs in omega arith

pub export_append : (ps qs : List Placed) → export_total (ps ++ qs) ≡ export_total ps + export_total qs
export_append [] qs = omega arith
export_append (p ∷ ps) qs = let h : export_total (ps ++ qs) ≡ export_total ps + export_total qs = export_append ps qs in omega arith

pub least_append : (ps qs : List Placed) (least : ℕ) → least_total least (ps ++ qs) ≡ least_total (least_total least ps) qs
least_append [] qs least = refl
least_append (p ∷ ps) qs least = least_append ps qs (least_behind least p.piece)

pub pieces_append : (ps qs : List Placed) (at least : ℕ) → ArePieces at least ps → ArePieces (at + initialised_total ps) (least_total least ps) qs → ArePieces at least (ps ++ qs)
pieces_append [] qs at least h k =
    let same : at + 0 ≡ at = omega arith in
    let P : ℕ → Type 0 = λ n. ArePieces n least qs in
    subst P same k
pieces_append (p ∷ ps) qs at least h k =
    let same : at + (initialised_bytes p.piece + initialised_total ps) ≡ (at + initialised_bytes p.piece) + initialised_total ps = omega arith in
    let P : ℕ → Type 0 = λ n. ArePieces n (least_total (least_behind least p.piece) ps) qs in
    (h.0, pieces_append ps qs (at + initialised_bytes p.piece) (least_behind least p.piece) h.1 (subst P same k))
