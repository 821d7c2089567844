-- A generated object has no fault, and stays small.
use Rattle.std.proofs.Common.{◌≡◌, ℕ, zero, suc, ◌+◌, ◌≤◌, ◌<◌, inl, inr, true, false, List, [], ◌∷◌, ◌++◌, length, slice_index_or, Option, None, Some, refl, sym, ap, subst, ◌∙◌, length-append, arith}
use Rattle.std.proofs.lemmas.List.{append_assoc, length-map}
use Rattle.std.proofs.lemmas.List.Concat.{flat_map-append}
use Rattle.code_model.specs.declared.object.Object.{Object}
use Rattle.code_model.specs.declared.parts.RelKind.{RelKind}
use Rattle.code_model.specs.declared.parts.Reloc.{Reloc}
use Rattle.code_model.specs.declared.parts.Export.{Export}
use Rattle.code_model.specs.Fields.{Fields, fields}
use Rattle.code_model.specs.Starts.{IsSpelled}
use Rattle.code_laws.specs.Laws.{OneStands}
use Rattle.insert_model.specs.declared.fault.InsertKind.{InsertKind}
use Rattle.insert_model.specs.declared.fault.InsertKind.TheVariants.{NotDecoded, UsesCheckRegister, Forbidden, BadTarget, TooLarge}
use Rattle.insert_model.specs.declared.line.Line.{Line}
use Rattle.insert_model.specs.Words.{unit_words}
use Rattle.insert_model.specs.Source.{lines}
use Rattle.insert_model.specs.Units.{static_bytes}
use Rattle.insert_model.specs.Groups.{Group, groups}
use Rattle.insert_model.specs.Layout.{Jumps, unit_in, units, final, final_units, place_map}
use Rattle.insert_model.specs.Inserted.{moved, with_guards, inserted}
use Rattle.insert_model.specs.Faults.{IsStartOffset, LineHas, LinesHave, DataMiss, ExportsMiss, Hits, most_words, Passes, IsFault}
use Rattle.insert_model.specs.Laws.{LineLaw, line_units, StandsAlone, FirstVersionLaw}
use Rattle.insert_laws.specs.Shapes.{IsCleanLine}
use Rattle.insert_laws.proofs.CleanLines.{AllClean}
use Rattle.gen_model.specs.declared.block.Block.{Block}
use Rattle.gen_model.specs.Blocks.{words, second, second_at}
use Rattle.gen_model.specs.Generated.{blocks, relocs_from, generated}
use Rattle.gen_laws.specs.Laws.{NeverRefused, StaysSmall}
use Rattle.gen_laws.proofs.Suiting.{all_suit, all_closed}
use Rattle.gen_laws.proofs.MadeLines.{Made, spelled, lines_are, all_clean, first_offset}
use Rattle.gen_laws.proofs.Growth.{blocks_grown, all_growth}

-- ---- lines

clean_has : (o : Object) (l : Line) (k : InsertKind) → IsCleanLine o l → LineHas k o l → ⊥
clean_has o l NotDecoded c h = h
clean_has o l UsesCheckRegister c h = c.free h
clean_has o l Forbidden c h = c.allowed h
clean_has o l BadTarget c h = c.lands h
clean_has o l TooLarge c h = h

clean_at : (o : Object) (ls : List Line) (l : Line) (j : ℕ) → AllClean o ls → j < length ls → slice_index_or ls j l ≡ l → IsCleanLine o l
clean_at o [] l j c h e = absurd (omega arith)
clean_at o (x ∷ ls) l zero c h e = subst (IsCleanLine o) e c.0
clean_at o (x ∷ ls) l (suc j) c h e = clean_at o ls l j c.1 (omega arith) e

lines_have : (o : Object) (ls : List Line) (k : InsertKind) (x : ℕ) → AllClean o ls → LinesHave o ls k x → ⊥
unfolding LinesHave
lines_have o ls k x c (j, l, h, e, p) = clean_has o l k (clean_at o ls l j c h e) p.1

-- ---- relocations of code alone

abbrev pub InCode : List Reloc → Type 0
InCode [] = Unit {0}
InCode (r ∷ rs) = (r.in_code ≡ true) × InCode rs

with_second : (at : ℕ) (k : Option RelKind) (rs : List Reloc) → InCode rs → InCode (second_at at k ++ rs)
with_second at None rs h = h
with_second at (Some k) rs h = (refl, h)

pub all_in_code : (at : ℕ) (bs : List Block) → InCode (relocs_from at bs)
unfolding relocs_from
all_in_code at [] = tt
all_in_code at (b ∷ bs) = with_second at (second b) (relocs_from (at + length (words b)) bs) (all_in_code (at + length (words b)) bs)

in_code_at : (rs : List Reloc) (r : Reloc) (j : ℕ) → InCode rs → j < length rs → slice_index_or rs j r ≡ r → r.in_code ≡ true
in_code_at [] r j c h e = absurd (omega arith)
in_code_at (x ∷ rs) r zero c h e = subst (λ (y : Reloc). y.in_code ≡ true) e c.0
in_code_at (x ∷ rs) r (suc j) c h e = in_code_at rs r j c.1 (omega arith) e

not_both : (r : Reloc) → r.in_code ≡ true → r.in_code ≡ false → ⊥
not_both r h k = cc

data_miss : (o : Object) (rs : List Reloc) (x : ℕ) → InCode rs → DataMiss o rs x → ⊥
unfolding DataMiss
data_miss o rs x c (j, r, h, e, p) = not_both r (in_code_at rs r j c h e) p.0

exports_miss : (o : Object) (es : List Export) (x : ℕ) → es ≡ [] → ExportsMiss o es x → ⊥
unfolding ExportsMiss
exports_miss o es x e (j, m, h, f, p) = let none : length es ≡ 0 = ap length e in omega (arith, none, h)

-- ---- the object of a number

record IsMadeFrom (n : ℕ) (o : Object) : Type 0 where
  made : Made o (blocks n)
  first : o.version ≡ 1
  entry_is : o.entry ≡ 0
  no_exports : o.exports ≡ []

made_from : (n : ℕ) (o : Object) → fields o ≡ generated n → IsMadeFrom n o
unfolding generated
made_from n o e = record {
  made = record {
    code_is = ap (λ (f : Fields). f.code) e;
    relocs_are = ap (λ (f : Fields). f.relocs) e;
    app = ap (λ (f : Fields). f.kind) e;
    suit = all_suit n;
    closed = all_closed n;
  };
  first = ap (λ (f : Fields). f.version) e;
  entry_is = ap (λ (f : Fields). f.entry) e;
  no_exports = ap (λ (f : Fields). f.exports) e;
}

no_hit : LineLaw → (n : ℕ) (o : Object) → IsMadeFrom n o → (k : InsertKind) (x : ℕ) → Hits o k x → ⊥
no_hit line n o m k x (inl h) = lines_have o (lines (fields o)) k x (all_clean o (blocks n) m.made line) h
no_hit line n o m k x (inr (e, inl h)) = h.1 (subst (IsStartOffset o.code) (sym m.entry_is) (first_offset o (blocks n) m.made))
no_hit line n o m k x (inr (e, inr (inl h))) = exports_miss o o.exports x m.no_exports h
no_hit line n o m k x (inr (e, inr (inr h))) =
    data_miss o o.relocs x (subst InCode (sym m.made.relocs_are) (all_in_code 0 (blocks n))) h

-- ---- how many words

-- each line has its own unit, since the object has version 1
words_most : LineLaw → FirstVersionLaw → (n : ℕ) (o : Object) → IsMadeFrom n o → length (final_units (fields o)) ≤ 7664
words_most line first n o m =
    let alone : StandsAlone (fields o) = first (fields o) (omega (arith, m.first)) in
    omega (
      arith,
      ap length alone.are,
      ap (λ (ls : List Line). length (line_units (fields o) ls)) (lines_are o (blocks n) m.made line),
      blocks_grown (fields o) o.relocs 0 (blocks n) (all_suit n),
      all_growth n,
    )

part_less : (js : Jumps) (size : ℕ) (xs ys : List Group) → length (units js size xs) ≤ length (units js size (xs ++ ys))
unfolding units
part_less js size xs ys =
    omega (arith, ap length (flat_map-append (λ (g : Group). unit_words (unit_in js size g)) xs ys), length-append (units js size xs) (units js size ys))

never_passes : LineLaw → FirstVersionLaw → (n : ℕ) (o : Object) (x : ℕ) → IsMadeFrom n o → Passes o x → ⊥
unfolding most_words final_units
never_passes line first n o x m p =
    let js : Jumps = final (fields o) in
    let size : ℕ = static_bytes (fields o) in
    let split : groups (fields o) ≡ (p.before ++ p.group ∷ []) ++ p.after = p.are ∙ sym (append_assoc p.before (p.group ∷ []) p.after) in
    let less : length (units js size (p.before ++ p.group ∷ [])) ≤ length (units js size (groups (fields o))) =
    subst (λ (gs : List Group). length (units js size (p.before ++ p.group ∷ [])) ≤ length (units js size gs)) (sym split) (part_less js size (p.before ++ p.group ∷ []) p.after) in
    let most : length (units js size (groups (fields o))) ≤ 7664 = words_most line first n o m in
    let passes : most_words < length (units js size (p.before ++ p.group ∷ [])) = p.passes in
    omega (arith, less, most, passes)

-- ---- the laws

never : OneStands → LineLaw → FirstVersionLaw → (n : ℕ) (o : Object) → IsMadeFrom n o → (k : InsertKind) (x : ℕ) → IsFault o k x → ⊥
never one line first n o m NotDecoded x h = let s : IsSpelled o.code h.place = spelled o (blocks n) m.made one h.place h.bad.start in h.bad.none s.instr s.words s.stands
never one line first n o m UsesCheckRegister x h = no_hit line n o m UsesCheckRegister x h.first.hit
never one line first n o m Forbidden x h = no_hit line n o m Forbidden x h.first.hit
never one line first n o m BadTarget x h = no_hit line n o m BadTarget x h.first.hit
never one line first n o m TooLarge x h = never_passes line first n o x m h.passes

pub no_fault : OneStands → LineLaw → FirstVersionLaw → NeverRefused
no_fault one line first n o e k x h = never one line first n o (made_from n o e) k x h

guarded_long : (f : Fields) → length (with_guards f).code ≡ length (final_units f)
unfolding with_guards
guarded_long f = length-map (final_units f) (moved (place_map f))

pub few_words : LineLaw → FirstVersionLaw → StaysSmall
unfolding inserted
few_words line first n o q e i =
    let m : IsMadeFrom n o = made_from n o e in
    omega (arith, ap (λ (f : Fields). length f.code) i.is, guarded_long (fields o), words_most line first n o m)
