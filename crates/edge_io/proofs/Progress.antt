-- Whole reads and writes, a turn further.
use Rattle.std.proofs.Common.{◌≡◌, ℕ, ◌+◌, ◌≤◌, ◌<◌, Bool, false, if◌then◌else◌, List, [], ◌++◌, length, take, drop, refl, sym, ◌∙◌, ap, subst, append_assoc, arith}
use Rattle.std.proofs.Math.Seq.{drop-append_seam}
use Rattle.std.proofs.lemmas.List.{take-append-drop, append-nil, nil_from_length}
use Rattle.std.specs.Prelude.{None, Some, Ok, Err}
use Rattle.std.specs.declared.option.Option.{Option}
use Rattle.edge_io.specs.declared.folder.ReadErr.TheVariants as read_err
use Rattle.edge_io.specs.declared.whole.InputFault.{InputFault}
use Rattle.edge_io.specs.declared.whole.InputFault.TheVariants as input
use Rattle.edge_io.specs.Known.{Files, FolderState, held, Gives, GivesOf, GotPrefix, FilePrefix, appended, put, extended}
use Rattle.edge_io.specs.Causes.{ReadLeaves}
use Rattle.edge_io.specs.Steps.{GotBefore, FileBefore, Begins, BeginsOf, TurnCalls}
use Rattle.edge_io.specs.Turns.{FolderCall, read_call, ReadEnds}
use Rattle.edge_io.proofs.Maps.{extended-put}

longer : (part rest all piece : List ℕ) (n : ℕ) → part ++ rest ≡ all → piece ≡ take n (drop (length part) all) → Begins (Some all) (part ++ piece)
longer part rest all piece n whole gives =
    let behind : drop (length part) all ≡ rest = ap (drop (length part)) (sym whole) ∙ drop-append_seam part rest in
    let first : piece ≡ take n rest = gives ∙ ap (take n) behind in
    (drop n rest, append_assoc part piece (drop n rest) ∙ ap (λ xs. part ++ xs) (ap (λ xs. xs ++ drop n rest) first ∙ take-append-drop n rest) ∙ whole)

-- what was got and what a read gives next are the first bytes
pub begins_more : (f : Option Files) (name part into new : List ℕ) (at n : ℕ) → BeginsOf f name part → GivesOf f name at into (Ok n) → at ≡ length part → new ≡ part ++ take n into → BeginsOf f name new
begins_more None name part into new at n begins gives is whole = tt
begins_more (Some m) name part into new at n begins gives is whole =
    subst (Begins (held m name)) (sym whole) (by (held m name) begins (subst (λ k. Gives (held m name) k into (Ok n)) is gives))
  where
    by : (o : Option (List ℕ)) → Begins o part → Gives o (length part) into (Ok n) → Begins o (part ++ take n into)
    by None begins gives = absurd gives
    by (Some all) begins gives = longer part begins.0 all (take n into) n begins.1 gives.0

-- nothing was got yet
pub begins_empty : (f : Option Files) (name got : List ℕ) → got ≡ [] → BeginsOf f name got
begins_empty None name got is = tt
begins_empty (Some m) name got is = by (held m name)
  where
    by : (o : Option (List ℕ)) → Begins o got
    by None = is
    by (Some all) = (all, ap (λ xs. xs ++ all) is)

-- no read yet
pub leaves_none : (s : FolderState) (name : List ℕ) → ReadLeaves s s name false
leaves_none s name = record {
  later = omega arith;
  rose = λ e. absurd (cc);
  last = refl;
  files = refl;
  writes = refl;
  created = refl;
}

-- a read that didn't fail, and then another
pub leaves_more : (s0 s1 s2 : FolderState) (name : List ℕ) (failed : Bool) → ReadLeaves s0 s1 name false → ReadLeaves s1 s2 name failed → ReadLeaves s0 s2 name failed
leaves_more s0 s1 s2 name failed first next = record {
  later = omega (arith, first.later, next.later);
  rose = λ e. omega (arith, first.later, next.rose e);
  last = next.last ∙ ap (λ o. if failed then Some name else o) first.last;
  files = next.files ∙ first.files;
  writes = next.writes ∙ first.writes;
  created = next.created ∙ first.created;
}

-- the read that ends a whole read by a fault
pub ends_in : {S : Type 0} (called : S → FolderCall → S → Type 0) (name : List ℕ) (mid to : S) (total at size : ℕ) (fault : InputFault) → TurnCalls called name at size mid to (Err fault) → at ≡ total → total + size ≤ 1048577 → ReadEnds called name mid to total (Err fault)
ends_in called name mid to total at size input.Absent call is room = subst (λ k. called mid (read_call name k (Err read_err.Absent)) to) is call
ends_in called name mid to total at size input.Failed call is room = subst (λ k. called mid (read_call name k (Err read_err.Failed)) to) is call
ends_in called name mid to total at size input.TooLong call is room = absurd call
ends_in called name mid to total at size input.Memory call is room =
    let small : call.0 ≤ size = call.1 in
    (call.0, omega arith, subst (λ k. called mid (read_call name k (Ok call.0)) to) is call.2)

pub got_start : (old : Option (List ℕ)) (whole : List ℕ) → GotBefore old old whole whole
got_start None whole = record { part = []; whole_is = refl; got = refl }
got_start (Some xs) whole = record { part = []; whole_is = refl; got = ap Some (sym (append-nil xs)) }

appended_more : (old : Option (List ℕ)) (xs ys : List ℕ) → appended (appended old xs) ys ≡ appended old (xs ++ ys)
appended_more None xs ys = refl
appended_more (Some bs) xs ys = ap Some (append_assoc bs xs ys)

pub got_more : (old mid new : Option (List ℕ)) (whole rest piece left : List ℕ) → GotBefore old mid whole rest → piece ++ left ≡ rest → new ≡ appended mid piece → GotBefore old new whole left
got_more old mid new whole rest piece left before parts got = record {
  part = before.part ++ piece;
  whole_is = append_assoc before.part piece left ∙ ap (λ xs. before.part ++ xs) parts ∙ before.whole_is;
  got = got ∙ ap (λ o. appended o piece) before.got ∙ appended_more old before.part piece;
}

no_rest : (part rest : List ℕ) → length rest ≡ 0 → part ++ rest ≡ part
no_rest part rest none = ap (λ xs. part ++ xs) (nil_from_length rest none) ∙ append-nil part

pub got_whole : (old new : Option (List ℕ)) (whole rest : List ℕ) → GotBefore old new whole rest → length rest ≡ 0 → new ≡ appended old whole
got_whole old new whole rest before none =
    before.got ∙ ap (appended old) (sym (no_rest before.part rest none) ∙ before.whole_is)

pub got_prefix : (old mid new : Option (List ℕ)) (whole rest : List ℕ) → GotBefore old mid whole rest → 0 < length rest → new ≡ mid → GotPrefix old new whole
got_prefix old mid new whole rest before short same = record {
  part = before.part;
  rest = rest;
  whole_is = before.whole_is;
  short = short;
  got = same ∙ before.got;
}

pub file_start : (before after : FolderState) (name whole : List ℕ) → after.files ≡ put before.files name [] → after.created ≡ Some name → FileBefore before after name whole whole
file_start before after name whole files created =
    record { part = []; whole_is = refl; files = files; created = created }

pub file_more : (s0 s1 s2 : FolderState) (name whole rest piece left : List ℕ) → FileBefore s0 s1 name whole rest → piece ++ left ≡ rest → s2.files ≡ extended s1.files name piece → s2.created ≡ s1.created → FileBefore s0 s2 name whole left
file_more s0 s1 s2 name whole rest piece left before parts files created = record {
  part = before.part ++ piece;
  whole_is = append_assoc before.part piece left ∙ ap (λ xs. before.part ++ xs) parts ∙ before.whole_is;
  files = files ∙ ap (λ f. extended f name piece) before.files ∙ extended-put s0.files name before.part piece;
  created = created ∙ before.created;
}

pub file_whole : (before after : FolderState) (name whole rest : List ℕ) → FileBefore before after name whole rest → length rest ≡ 0 → (after.files ≡ put before.files name whole) × (after.created ≡ Some name)
file_whole before after name whole rest so_far none =
    (so_far.files ∙ ap (put before.files name) (sym (no_rest so_far.part rest none) ∙ so_far.whole_is), so_far.created)

pub file_prefix : (s0 s1 s2 : FolderState) (name whole rest : List ℕ) → FileBefore s0 s1 name whole rest → 0 < length rest → s2.files ≡ s1.files → s2.created ≡ s1.created → FilePrefix s0 s2 name whole
file_prefix s0 s1 s2 name whole rest before short files created = record {
  part = before.part;
  rest = rest;
  whole_is = before.whole_is;
  short = short;
  files = files ∙ before.files;
  created = created ∙ before.created;
}
