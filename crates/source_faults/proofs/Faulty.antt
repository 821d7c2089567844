-- The faults of the lines, the exports and the relocations so far.
use Rattle.std.proofs.Common.{◌≡◌, ◌↔◌, ℕ, ◌+◌, ◌*◌, ◌≤◌, ◌<◌, List, [], ◌⊎◌, inl, inr, length, take, get_or, Option, subst}
use Rattle.std.proofs.lemmas.List.{take_all}
use Rattle.code_model.specs.declared.object.Object.{Object}
use Rattle.code_model.specs.declared.parts.Export.{Export}
use Rattle.code_model.specs.declared.parts.Reloc.{Reloc}
use Rattle.code_model.specs.Fields.{fields}
use Rattle.insert_model.specs.declared.fault.InsertKind.{InsertKind}
use Rattle.insert_model.specs.declared.fault.InsertKind.TheVariants.{BadTarget}
use Rattle.insert_model.specs.declared.line.Line.{Line}
use Rattle.insert_model.specs.Source.{lines}
use Rattle.insert_model.specs.Faults.{LineHas, LinesHave, DatumMisses, DataMiss, EntryMisses, ExportMisses, ExportsMiss, Hits}
use Rattle.source_faults.specs.declared.faults.Fault.{Fault}
use Rattle.source_faults.specs.Found.{IsLeast, IsLesser}
use Rattle.source_faults.proofs.Anys.{any_more, any_none}
use Rattle.source_faults.proofs.Firsts.{least_of, least_same}

-- a fact of one element
abbrev pub LineHits : Object → Line → InsertKind → ℕ → Type 0
LineHits o l k x = (x ≡ 2 * l.at) × LineHas k o l

abbrev pub ExportHits : Object → Export → InsertKind → ℕ → Type 0
ExportHits o e k x = (k ≡ BadTarget) × ExportMisses o e x

abbrev pub DatumHits : Object → Reloc → InsertKind → ℕ → Type 0
DatumHits o r k x = (k ≡ BadTarget) × DatumMisses o r x

abbrev pub ExportsHit : Object → List Export → InsertKind → ℕ → Type 0
ExportsHit o es k x = (k ≡ BadTarget) × ExportsMiss o es x

abbrev pub DataHit : Object → List Reloc → InsertKind → ℕ → Type 0
DataHit o rs k x = (k ≡ BadTarget) × DataMiss o rs x

-- ---- none

pub no_lines : (o : Object) (k : InsertKind) (x : ℕ) → LinesHave o [] k x → ⊥
unfolding LinesHave
no_lines o k x h = any_none (λ (l : Line). (x ≡ 2 * l.at) × LineHas k o l) h

pub no_exports : (o : Object) (k : InsertKind) (x : ℕ) → ExportsHit o [] k x → ⊥
unfolding ExportsMiss
no_exports o k x h = any_none (λ (e : Export). ExportMisses o e x) h.1

pub no_data : (o : Object) (k : InsertKind) (x : ℕ) → DataHit o [] k x → ⊥
unfolding DataMiss
no_data o k x h = any_none (λ (r : Reloc). DatumMisses o r x) h.1

-- ---- one more

lines_more : (o : Object) (ls : List Line) (i : ℕ) (d : Line) (k : InsertKind) (x : ℕ) → i < length ls
    → (LinesHave o (take i ls) k x ⊎ LineHits o (get_or ls i d) k x) ↔ LinesHave o (take (i + 1) ls) k x
unfolding LinesHave
lines_more o ls i d k x h = any_more (λ (l : Line). (x ≡ 2 * l.at) × LineHas k o l) ls i d h

exports_miss : (o : Object) (es : List Export) (i : ℕ) (d : Export) (x : ℕ) → i < length es → (ExportsMiss o (take i es) x ⊎ ExportMisses o (get_or es i d) x) ↔ ExportsMiss o (take (i + 1) es) x
unfolding ExportsMiss
exports_miss o es i d x h = any_more (λ (e : Export). ExportMisses o e x) es i d h

data_miss : (o : Object) (rs : List Reloc) (i : ℕ) (d : Reloc) (x : ℕ) → i < length rs → (DataMiss o (take i rs) x ⊎ DatumMisses o (get_or rs i d) x) ↔ DataMiss o (take (i + 1) rs) x
unfolding DataMiss
data_miss o rs i d x h = any_more (λ (r : Reloc). DatumMisses o r x) rs i d h

under : (K P Q R : Type 0) → (P ⊎ Q) ↔ R → ((K × P) ⊎ (K × Q)) ↔ (K × R)
under K P Q R same = (go, back)
  where
    go : (K × P) ⊎ (K × Q) → K × R
    go (inl h) = (h.0, same.0 (inl h.1))
    go (inr h) = (h.0, same.0 (inr h.1))

    back : K × R → (K × P) ⊎ (K × Q)
    back h = elim (same.1 h.1) [ inl p ↦ inl (h.0, p) | inr q ↦ inr (h.0, q) ]

pub lines_step : (o : Object) (ls : List Line) (i : ℕ) (d : Line) (a b r : Option Fault) → i < length ls → IsLeast (LinesHave o (take i ls)) a → IsLeast (LineHits o (get_or ls i d)) b → IsLesser a b r
    → IsLeast (LinesHave o (take (i + 1) ls)) r
lines_step o ls i d a b r h ha hb is =
    least_same (λ k x. LinesHave o (take i ls) k x ⊎ LineHits o (get_or ls i d) k x) (LinesHave o (take (i + 1) ls)) r (λ k x. lines_more o ls i d k x h)
    (least_of (LinesHave o (take i ls)) (LineHits o (get_or ls i d)) a b r ha hb is)

pub exports_step : (o : Object) (es : List Export) (i : ℕ) (d : Export) (a b r : Option Fault) → i < length es → IsLeast (ExportsHit o (take i es)) a → IsLeast (ExportHits o (get_or es i d)) b → IsLesser a b r
    → IsLeast (ExportsHit o (take (i + 1) es)) r
exports_step o es i d a b r h ha hb is =
    least_same (λ k x. ExportsHit o (take i es) k x ⊎ ExportHits o (get_or es i d) k x) (ExportsHit o (take (i + 1) es)) r
    (λ k x. under (k ≡ BadTarget) (ExportsMiss o (take i es) x) (ExportMisses o (get_or es i d) x) (ExportsMiss o (take (i + 1) es) x) (exports_miss o es i d x h))
    (least_of (ExportsHit o (take i es)) (ExportHits o (get_or es i d)) a b r ha hb is)

pub data_step : (o : Object) (rs : List Reloc) (i : ℕ) (d : Reloc) (a b r : Option Fault) → i < length rs → IsLeast (DataHit o (take i rs)) a → IsLeast (DatumHits o (get_or rs i d)) b → IsLesser a b r
    → IsLeast (DataHit o (take (i + 1) rs)) r
data_step o rs i d a b r h ha hb is =
    least_same (λ k x. DataHit o (take i rs) k x ⊎ DatumHits o (get_or rs i d) k x) (DataHit o (take (i + 1) rs)) r
    (λ k x. under (k ≡ BadTarget) (DataMiss o (take i rs) x) (DatumMisses o (get_or rs i d) x) (DataMiss o (take (i + 1) rs) x) (data_miss o rs i d x h))
    (least_of (DataHit o (take i rs)) (DatumHits o (get_or rs i d)) a b r ha hb is)

-- ---- all

pub lines_end : (o : Object) (ls : List Line) (i : ℕ) (r : Option Fault) → length ls ≤ i → IsLeast (LinesHave o (take i ls)) r → IsLeast (LinesHave o ls) r
lines_end o ls i r past h = subst (λ (ms : List Line). IsLeast (LinesHave o ms) r) (take_all i ls past) h

pub exports_end : (o : Object) (es : List Export) (i : ℕ) (r : Option Fault) → length es ≤ i → IsLeast (ExportsHit o (take i es)) r → IsLeast (ExportsHit o es) r
exports_end o es i r past h = subst (λ (ms : List Export). IsLeast (ExportsHit o ms) r) (take_all i es past) h

pub data_end : (o : Object) (rs : List Reloc) (i : ℕ) (r : Option Fault) → length rs ≤ i → IsLeast (DataHit o (take i rs)) r → IsLeast (DataHit o rs) r
data_end o rs i r past h = subst (λ (ms : List Reloc). IsLeast (DataHit o ms) r) (take_all i rs past) h

-- ---- together

abbrev pub EntryHits : Object → InsertKind → ℕ → Type 0
EntryHits o k x = (k ≡ BadTarget) × EntryMisses o x

all_hits : (o : Object) (k : InsertKind) (x : ℕ)
    → (LinesHave o (lines (fields o)) k x ⊎ (EntryHits o k x ⊎ (ExportsHit o o.exports k x ⊎ DataHit o o.relocs k x))) ↔ Hits o k x
all_hits o k x = (go, back)
  where
    go : LinesHave o (lines (fields o)) k x ⊎ (EntryHits o k x ⊎ (ExportsHit o o.exports k x ⊎ DataHit o o.relocs k x)) → Hits o k x
    go (inl h) = inl h
    go (inr (inl h)) = inr (h.0, inl h.1)
    go (inr (inr (inl h))) = inr (h.0, inr (inl h.1))
    go (inr (inr (inr h))) = inr (h.0, inr (inr h.1))

    back : Hits o k x → LinesHave o (lines (fields o)) k x ⊎ (EntryHits o k x ⊎ (ExportsHit o o.exports k x ⊎ DataHit o o.relocs k x))
    back (inl h) = inl h
    back (inr (b, inl h)) = inr (inl (b, h))
    back (inr (b, inr (inl h))) = inr (inr (inl (b, h)))
    back (inr (b, inr (inr h))) = inr (inr (inr (b, h)))

pub first_of_all : (o : Object) (ls : List Line) (a b c d cd bcd r : Option Fault) → ls ≡ lines (fields o) → IsLeast (LinesHave o ls) a → IsLeast (EntryHits o) b → IsLeast (ExportsHit o o.exports) c
    → IsLeast (DataHit o o.relocs) d → IsLesser c d cd → IsLesser b cd bcd → IsLesser a bcd r → IsLeast (Hits o) r
first_of_all o ls a b c d cd bcd r are ha hb hc hd ecd ebcd er =
    let here : IsLeast (LinesHave o (lines (fields o))) a = subst (λ (ms : List Line). IsLeast (LinesHave o ms) a) are ha in
    least_same (λ k x. LinesHave o (lines (fields o)) k x ⊎ (EntryHits o k x ⊎ (ExportsHit o o.exports k x ⊎ DataHit o o.relocs k x))) (Hits o) r (all_hits o)
    (least_of (LinesHave o (lines (fields o))) (λ k x. EntryHits o k x ⊎ (ExportsHit o o.exports k x ⊎ DataHit o o.relocs k x)) a bcd r here
    (least_of (EntryHits o) (λ k x. ExportsHit o o.exports k x ⊎ DataHit o o.relocs k x) b cd bcd hb (least_of (ExportsHit o o.exports) (DataHit o o.relocs) c d cd hc hd ecd) ebcd) er)
