-- The last instructions of a list of records, with one more record.
use Rattle.std.proofs.Common.{◌≡◌, ◌+◌, ◌-◌, List, [], ◌∷◌, ◌++◌, length, drop, IsTrue, IsFalse, sym, ap, ◌∙◌, arith}
use Rattle.std.specs.List.{filter}
use Rattle.std.proofs.lemmas.List.{drop-append-le, drop-drop, length-drop, length-append, append-nil}
use Rattle.std.proofs.lemmas.List.Elements.{filter-append}
use Rattle.trace_model.specs.declared.records.Record.{Record}
use Rattle.trace_model.specs.Texts.{is_instr, last_instrs, tail_length}
use Rattle.circular_buffer.specs.Buffer.{keep_last}

-- the last eight of a list with one more are the last eight of its last eight with one more
last_of_last : (xs : List Record) (r : Record) → keep_last 8 (keep_last 8 xs ++ r ∷ []) ≡ keep_last 8 (xs ++ r ∷ [])
last_of_last xs r =
    let n = length xs - 8 in
    let ys = xs ++ r ∷ [] in
    let size : length ys ≡ length xs + 1 = length-append xs (r ∷ []) in
    let places : n + (length (drop n ys) - 8) ≡ length ys - 8 = omega (arith, length-drop n ys, size) in
    ap (keep_last 8) (sym (drop-append-le n xs (r ∷ []) (omega arith))) ∙ drop-drop (length (drop n ys) - 8) n ys
    ∙ ap (λ k. drop k ys) places

alone_instr : (r : Record) → IsTrue (is_instr r) → filter is_instr (r ∷ []) ≡ r ∷ []
alone_instr r h = cc

alone_other : (r : Record) → IsFalse (is_instr r) → filter is_instr (r ∷ []) ≡ []
alone_other r h = cc

pub last_with_instr : (earlier kept : List Record) (r : Record) → IsTrue (is_instr r) → kept ≡ last_instrs earlier
    → keep_last tail_length (kept ++ r ∷ []) ≡ last_instrs (earlier ++ r ∷ [])
last_with_instr earlier kept r h e =
    ap (λ (ks : List Record). keep_last 8 (ks ++ r ∷ [])) e ∙ last_of_last (filter is_instr earlier) r
    ∙ ap (λ (ks : List Record). keep_last 8 (filter is_instr earlier ++ ks)) (sym (alone_instr r h))
    ∙ ap (keep_last 8) (sym (filter-append is_instr earlier (r ∷ [])))

pub last_with_other : (earlier kept : List Record) (r : Record) → IsFalse (is_instr r) → kept ≡ last_instrs earlier
    → kept ≡ last_instrs (earlier ++ r ∷ [])
last_with_other earlier kept r h e =
    e ∙ ap (keep_last 8) (sym (filter-append is_instr earlier (r ∷ [])
    ∙ ap (λ (ks : List Record). filter is_instr earlier ++ ks) (alone_other r h) ∙ append-nil (filter is_instr earlier)))
