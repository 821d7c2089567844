-- The walk over the source instructions.
use Rattle.std.proofs.Common.{◌≡◌, ◌↔◌, ℕ, suc, ◌+◌, ◌≤◌, ◌<◌, List, [], ◌∷◌, ◌++◌, ◌⊎◌, inl, inr, length, drop, take, get_or, sym, subst, refl, ap, ◌∙◌, arith}
use Rattle.std.proofs.lemmas.Bool.{cases_order, cases_lt}
use Rattle.std.proofs.lemmas.List.{append_assoc, append-nil, drop_all, length_push, get_or_append_left, get_or_at}
use Rattle.msp_encode.specs.declared.instr.Instr.{Instr}
use Rattle.msp_encode.specs.Laws.{LegalByCases}
use Rattle.code_model.specs.declared.object.Object.{Object}
use Rattle.code_model.specs.Fields.{fields}
use Rattle.code_model.specs.Starts.{Stands, NoneStands, Reached, Start, IsSpelled, Bad}
use Rattle.code_laws.specs.Laws.{StartsApart}
use Rattle.static_checker.specs.declared.spot.Spot.{Spot}
use Rattle.static_checker.specs.Spots.{IsSpot}
use Rattle.insert_model.specs.declared.line.Line.{Line}
use Rattle.msp_encode.specs.Spelled.{count}
use Rattle.insert_model.specs.Source.{line_at, lines_from, lines}
use Rattle.insert_model.specs.Laws.{SizeLaw, LineLaw}
use Rattle.source_faults.specs.Read.{StartsIn, IsWhole, AreWhole, IsRow, IsSource}
use Rattle.source_faults.proofs.Anys.{any_push, any_none}

pub record StartsBefore (code : List ℕ) (at k : ℕ) : Type 0 where
  pub start : Start code k
  pub before : k < at

-- the walk has come to a place
pub record IsReadTo (o : Object) (ls : List Line) (at : ℕ) : Type 0 where
  pub reached : Reached o.code (length ls) at
  pub within : at ≤ length o.code
  pub rest : ls ++ lines_from o.relocs at 0 (drop at o.code) ≡ lines (fields o)
  pub starts : (k : ℕ) → StartsIn ls k ↔ StartsBefore o.code at k
  pub spelled : (k : ℕ) → Start o.code k → k < at → IsSpelled o.code k
  pub whole : AreWhole o ls
  pub row : IsRow 0 ls at

pub row_push : (ls : List Line) (l : Line) (from mid : ℕ) → IsRow from ls mid → l.at ≡ mid → IsRow from (ls ++ l ∷ []) (mid + count l.instr)
row_push [] l from mid r e = (e ∙ sym r, ap (λ (x : ℕ). x + count l.instr) r)
row_push (m ∷ ls) l from mid r e = (r.0, row_push ls l (from + count m.instr) mid r.1 e)

none_starts : (k : ℕ) → StartsIn [] k → ⊥
unfolding StartsIn
none_starts k h = any_none (λ (l : Line). l.at ≡ k) h

starts_push : (ls : List Line) (l : Line) (k : ℕ) → (StartsIn ls k ⊎ (l.at ≡ k)) ↔ StartsIn (ls ++ l ∷ []) k
unfolding StartsIn
starts_push ls l k = any_push (λ (m : Line). m.at ≡ k) ls l

all_lines : (o : Object) → [] ++ lines_from o.relocs 0 0 (drop 0 o.code) ≡ lines (fields o)
unfolding lines
all_lines o = refl

pub read_begins : (o : Object) → IsReadTo o [] 0
read_begins o = record {
  reached = refl;
  within = omega arith;
  rest = all_lines o;
  starts = λ k. ((λ h. absurd (none_starts k h)), (λ s. let b : k < 0 = s.before in absurd (omega arith)));
  spelled = λ k s b. absurd (omega arith);
  whole = record { each = λ k d h. let never : k < 0 = h in absurd (omega arith) };
  row = refl;
}

start_here : (o : Object) (ls : List Line) (at : ℕ) → IsReadTo o ls at → at < length o.code → Start o.code at
start_here o ls at r h = record { count = length ls; reached = r.reached; below = h }

whole_push : (o : Object) (ls : List Line) (l : Line) → AreWhole o ls → IsWhole o l → AreWhole o (ls ++ l ∷ [])
whole_push o ls l all here = record { each = each }
  where
    each : (k : ℕ) (d : Line) → k < length (ls ++ l ∷ []) → IsWhole o (get_or (ls ++ l ∷ []) k d)
    each k d h = elim (cases_lt k (length ls)) [
      | inl less ↦ subst (IsWhole o) (sym (get_or_append_left ls (l ∷ []) d k less)) (all.each k d less)
      | inr more ↦ let e : length ls ≡ k = omega (arith, length_push ls l) in subst (IsWhole o) (sym (get_or_at ls l [] d k e)) here
    ]

whole_line : (o : Object) (at : ℕ) (i : Instr) (n : ℕ) → LegalByCases → SizeLaw → at + n ≤ length o.code → Stands o.code at i n → IsWhole o (line_at o.relocs at i)
unfolding line_at
whole_line o at i n legal size inside h = record {
  fits = (legal i).0 (take n (drop at o.code), h.1);
  within = let e : n ≡ count i = size o.code at i n h in omega arith;
}

at_of : (o : Object) (at : ℕ) (i : Instr) → (line_at o.relocs at i).at ≡ at
unfolding line_at
at_of o at i = refl

instr_of : (o : Object) (at : ℕ) (i : Instr) → (line_at o.relocs at i).instr ≡ i
unfolding line_at
instr_of o at i = refl

-- a start before the next place is one before this, or this
earlier : (o : Object) (ls : List Line) (at k n : ℕ) → StartsApart → IsReadTo o ls at → at < length o.code
    → (s : Spot) → IsSpot o.code at s → n ≡ at + s.words → Start o.code k → k < n → (k < at) ⊎ (k ≡ at)
earlier o ls at k n apart r h s is e start less =
    elim (cases_order k at) [
      | inl same ↦ inr same
      | inr other ↦ elim other [
        | inl before ↦ inl before
        | inr after ↦ let t : at + s.words ≤ k = apart o.code at k s.instr s.words (start_here o ls at r h) is.stands start after in absurd (omega arith)
      ]
    ]

module _ (o : Object) (ls : List Line) (at n : ℕ) (l : Line) (s : Spot) (legal : LegalByCases) (size : SizeLaw) (line : LineLaw) (apart : StartsApart)
    (r : IsReadTo o ls at) (h : at < length o.code) (is : IsSpot o.code at s) (e : n ≡ at + s.words) (same : l ≡ line_at o.relocs at s.instr) where
  at_is : l.at ≡ at
  at_is = ap (λ (m : Line). m.at) same ∙ at_of o at s.instr

  to_start : (k : ℕ) → StartsIn (ls ++ l ∷ []) k → StartsBefore o.code n k
  to_start k m = elim ((starts_push ls l k).1 m) [
    | inl before ↦ let b : StartsBefore o.code at k = (r.starts k).0 before in record { start = b.start; before = omega (arith, b.before, is.least) }
    | inr here ↦ let f : at ≡ k = sym at_is ∙ here in record { start = subst (Start o.code) f (start_here o ls at r h); before = omega (arith, is.least) }
  ]

  from_start : (k : ℕ) → StartsBefore o.code n k → StartsIn (ls ++ l ∷ []) k
  from_start k b = elim (earlier o ls at k n apart r h s is e b.start b.before) [
    | inl less ↦ (starts_push ls l k).0 (inl ((r.starts k).1 (record { start = b.start; before = less })))
    | inr here ↦ (starts_push ls l k).0 (inr (at_is ∙ sym here))
  ]

  spelled_on : (k : ℕ) → Start o.code k → k < n → IsSpelled o.code k
  spelled_on k start less = elim (earlier o ls at k n apart r h s is e start less) [
    | inl before ↦ r.spelled k start before
    | inr here ↦ subst (IsSpelled o.code) (sym here) (record { instr = s.instr; words = s.words; stands = is.stands })
  ]

  rest_on : (ls ++ l ∷ []) ++ lines_from o.relocs n 0 (drop n o.code) ≡ lines (fields o)
  rest_on =
      let cut : lines_from o.relocs at 0 (drop at o.code) ≡ line_at o.relocs at s.instr ∷ lines_from o.relocs (at + s.words) 0 (drop (at + s.words) o.code) =
      line o.relocs o.code at s.instr s.words o.form.words_small h is.stands in
      let P : ℕ → Type 0 = λ x. lines_from o.relocs at 0 (drop at o.code) ≡ l ∷ lines_from o.relocs x 0 (drop x o.code) in
      let f : lines_from o.relocs at 0 (drop at o.code) ≡ l ∷ lines_from o.relocs n 0 (drop n o.code) =
      subst P (sym e) (cut ∙ ap (λ (m : Line). m ∷ lines_from o.relocs (at + s.words) 0 (drop (at + s.words) o.code)) (sym same)) in
      append_assoc ls (l ∷ []) (lines_from o.relocs n 0 (drop n o.code)) ∙ ap (λ (ms : List Line). ls ++ ms) (sym f) ∙ r.rest

  row_on : IsRow 0 (ls ++ l ∷ []) n
  row_on =
      let f : l.instr ≡ s.instr = ap (λ (m : Line). m.instr) same ∙ instr_of o at s.instr in
      let g : s.words ≡ count s.instr = size o.code at s.instr s.words is.stands in
      let k : at + count l.instr ≡ n = ap (λ (i : Instr). at + count i) f ∙ ap (λ (x : ℕ). at + x) (sym g) ∙ sym e in
      subst (IsRow 0 (ls ++ l ∷ [])) k (row_push ls l 0 at r.row at_is)

  pub read_steps : IsReadTo o (ls ++ l ∷ []) n
  read_steps = record {
    reached = subst (λ (x : ℕ). Reached o.code x n) (sym (length_push ls l ∙ (let g : length ls + 1 ≡ suc (length ls) = omega arith in g)))
        (at, r.reached, record { instr = s.instr; words = s.words; stands = is.stands; ends = e });
    within = omega (arith, is.within);
    rest = rest_on;
    starts = λ k. (to_start k, from_start k);
    spelled = spelled_on;
    whole = whole_push o ls l r.whole (subst (IsWhole o) (sym same) (whole_line o at s.instr s.words legal size is.within is.stands));
    row = row_on;
  }

nothing_behind : (o : Object) (at : ℕ) → length o.code ≤ at → lines_from o.relocs at 0 (drop at o.code) ≡ []
unfolding lines_from
nothing_behind o at past = ap (λ (ws : List ℕ). lines_from o.relocs at 0 ws) (drop_all at o.code past)

pub read_ends : (o : Object) (ls : List Line) (at : ℕ) → IsReadTo o ls at → length o.code ≤ at → IsSource o ls
read_ends o ls at r past = record {
  are = sym (append-nil ls) ∙ ap (λ (ms : List Line). ls ++ ms) (sym (nothing_behind o at past)) ∙ r.rest;
  spelled = λ k s. r.spelled k s (omega (arith, s.below));
  starts = λ k. ((λ s. (r.starts k).1 (record { start = s; before = omega (arith, s.below) })), (λ m. ((r.starts k).0 m).start));
  whole = r.whole;
  row = let e : at ≡ length o.code = omega (arith, r.within) in subst (IsRow 0 ls) e r.row;
}

pub read_stops : (o : Object) (ls : List Line) (at : ℕ) → IsReadTo o ls at → at < length o.code → NoneStands o.code at → Bad o.code at
read_stops o ls at r h none = record { start = start_here o ls at r h; none = none }
