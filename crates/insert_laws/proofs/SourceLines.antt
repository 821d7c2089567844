-- The lines of a source whose code is spelled: one behind another, each an instruction that stands at its place.
use Rattle.std.proofs.Common.{◌≡◌, ℕ, suc, ◌+◌, ◌≤◌, ◌<◌, List, [], ◌∷◌, ◌++◌, inl, inr, length, drop, refl, sym, subst, ap, ◌∙◌, arith}
use Rattle.std.specs.List.{AllByRecursion, Contains}
use Rattle.std.proofs.lemmas.Bool.{cases_lt}
use Rattle.std.proofs.lemmas.List.{drop_all, length-drop}
use Rattle.std.proofs.lemmas.List.Elements.{All-from_recursion}
use Rattle.msp_encode.specs.declared.instr.Instr.{Instr}
use Rattle.code_laws.specs.Laws.{StartsApart}
use Rattle.code_model.specs.declared.object.Object.{Object}
use Rattle.code_model.specs.Fields.{fields}
use Rattle.code_model.specs.Starts.{Stands, Reached, Start, IsSpelled}
use Rattle.code_model.specs.Verdicts.{AllSpelled}
use Rattle.insert_model.specs.declared.line.Line.{Line}
use Rattle.msp_encode.specs.Spelled.{count}
use Rattle.insert_model.specs.Source.{line_at, lines_from, lines}
use Rattle.insert_model.specs.Laws.{SizeLaw, LineLaw}
use Rattle.insert_laws.specs.Lines.{IsInstruction, LinesAreSpelled}

-- each line has its place just behind the words of the one before, and the last ends at a place
abbrev pub Consecutive : (from : ℕ) → List Line → (to : ℕ) → Type 0
Consecutive t [] end = t ≡ end
Consecutive t (l ∷ ls) end = (l.at ≡ t) × Consecutive (t + count l.instr) ls end

heads : (m n : Line) (xs ys : List Line) → m ∷ xs ≡ n ∷ ys → m ≡ n
heads m n xs ys e = cc

tails : (m n : Line) (xs ys : List Line) → m ∷ xs ≡ n ∷ ys → xs ≡ ys
tails m n xs ys e = cc

no_line : (m : Line) (ms : List Line) → [] ≡ m ∷ ms → ⊥
no_line m ms e = cc

-- the first line of those from a place on, which is reached over k instructions
record Cut (o : Object) (k t : ℕ) (l : Line) (ls : List Line) : Type 0 where
  place : l.at ≡ t
  is : IsInstruction o.code l
  reached : Reached o.code (suc k) (t + count l.instr)
  rest : lines_from o.relocs (t + count l.instr) 0 (drop (t + count l.instr) o.code) ≡ ls

module _ (size : SizeLaw) (line : LineLaw) (o : Object) (spelled : AllSpelled o) where
  from_end : (t : ℕ) → length o.code ≤ t → lines_from o.relocs t 0 (drop t o.code) ≡ []
  unfolding lines_from
  from_end t h = ap (lines_from o.relocs t 0) (drop_all t o.code h)

  -- the line that an instruction has
  line_is : (k t : ℕ) (i : Instr) (ls : List Line) → Reached o.code k t → Start o.code t → Stands o.code t i (count i)
      → lines_from o.relocs (t + count i) 0 (drop (t + count i) o.code) ≡ ls → Cut o k t (line_at o.relocs t i) ls
  unfolding line_at
  line_is k t i ls r start stands rest = record {
    place = refl;
    is = record { start = start; stands = stands };
    reached = (t, r, record { instr = i; words = count i; stands = stands; ends = refl });
    rest = rest;
  }

  cut_at : (k t : ℕ) (l : Line) (ls : List Line) → Reached o.code k t → t < length o.code → lines_from o.relocs t 0 (drop t o.code) ≡ l ∷ ls → Cut o k t l ls
  cut_at k t l ls r less e =
      let start : Start o.code t = record { count = k; reached = r; below = less } in
      let s : IsSpelled o.code t = spelled t start in
      let n : s.words ≡ count s.instr = size o.code t s.instr s.words s.stands in
      let stands : Stands o.code t s.instr (count s.instr) = subst (Stands o.code t s.instr) n s.stands in
      let next : List Line = lines_from o.relocs (t + count s.instr) 0 (drop (t + count s.instr) o.code) in
      let cut : line_at o.relocs t s.instr ∷ next ≡ l ∷ ls = sym (line o.relocs o.code t s.instr (count s.instr) o.form.words_small less stands) ∙ e in
      subst (λ (m : Line). Cut o k t m ls) (heads (line_at o.relocs t s.instr) l next ls cut)
      (line_is k t s.instr ls r start stands (tails (line_at o.relocs t s.instr) l next ls cut))

  -- no line begins at the code's end
  none_past : (t : ℕ) (l : Line) (ls : List Line) → length o.code ≤ t → lines_from o.relocs t 0 (drop t o.code) ≡ l ∷ ls → ⊥
  none_past t l ls h e = no_line l ls (sym (from_end t h) ∙ e)

  -- no line is left only at the code's end
  none_left : (k t : ℕ) → Reached o.code k t → t < length o.code → lines_from o.relocs t 0 (drop t o.code) ≡ [] → ⊥
  none_left k t r less e =
      let s : IsSpelled o.code t = spelled t (record { count = k; reached = r; below = less }) in
      no_line (line_at o.relocs t s.instr) (lines_from o.relocs (t + s.words) 0 (drop (t + s.words) o.code))
      (sym e ∙ line o.relocs o.code t s.instr s.words o.form.words_small less s.stands)

  within : (t : ℕ) (i : Instr) (n : ℕ) → Stands o.code t i n → t < length o.code → t + n ≤ length o.code
  within t i n s b = omega (arith, s.0, length-drop t o.code)

  consecutive : (ls : List Line) (k t : ℕ) → Reached o.code k t → t ≤ length o.code → lines_from o.relocs t 0 (drop t o.code) ≡ ls → Consecutive t ls (length o.code)
  consecutive [] k t r most e = elim (cases_lt t (length o.code)) [ inl less ↦ absurd (none_left k t r less e) | inr more ↦ omega arith ]
  consecutive (l ∷ ls) k t r most e = elim (cases_lt t (length o.code)) [
    | inl less ↦
        let c : Cut o k t l ls = cut_at k t l ls r less e in
        let stands : Stands o.code t l.instr (count l.instr) = subst (λ (x : ℕ). Stands o.code x l.instr (count l.instr)) c.place c.is.stands in
        (c.place, consecutive ls (suc k) (t + count l.instr) c.reached (within t l.instr (count l.instr) stands less) c.rest)
    | inr more ↦ absurd (none_past t l ls more e)
  ]

  pub source_consecutive : Consecutive 0 (lines (fields o)) (length o.code)
  unfolding lines
  source_consecutive = consecutive (lines_from o.relocs 0 0 o.code) 0 0 refl (omega arith) refl

  instructions : (ls : List Line) (k t : ℕ) → Reached o.code k t → lines_from o.relocs t 0 (drop t o.code) ≡ ls → AllByRecursion (IsInstruction o.code) ls
  instructions [] k t r e = tt
  instructions (l ∷ ls) k t r e = elim (cases_lt t (length o.code)) [
    | inl less ↦ let c : Cut o k t l ls = cut_at k t l ls r less e in (c.is, instructions ls (suc k) (t + count l.instr) c.reached c.rest)
    | inr more ↦ absurd (none_past t l ls more e)
  ]

  pub source_instructions : AllByRecursion (IsInstruction o.code) (lines (fields o))
  unfolding lines
  source_instructions = instructions (lines_from o.relocs 0 0 o.code) 0 0 refl refl

-- ---- each start has a line

abbrev LineOf : List Line → ℕ → Type 0
LineOf ls at = (l : Line) × Contains ls l × (l.at ≡ at)

later : (m : Line) (ls : List Line) (at : ℕ) → LineOf ls at → LineOf (m ∷ ls) at
later m ls at h = (h.0, (suc h.1.0, omega (arith, h.1.1), h.1.2), h.2)

first_line : (l : Line) (ls : List Line) → Contains (l ∷ ls) l
first_line l ls = (0, omega arith, refl)

module _ (size : SizeLaw) (line : LineLaw) (apart : StartsApart) (o : Object) (spelled : AllSpelled o) (at : ℕ) (start : Start o.code at) where
  line_from : (ls : List Line) (k t : ℕ) → Reached o.code k t → lines_from o.relocs t 0 (drop t o.code) ≡ ls → t ≤ at → LineOf ls at
  line_from [] k t r e g = let below : at < length o.code = start.below in absurd (none_left size line o spelled k t r (omega arith) e)
  line_from (l ∷ ls) k t r e g =
      let below : at < length o.code = start.below in
      let c : Cut o k t l ls = cut_at size line o spelled k t l ls r (omega arith) e in
      elim (cases_lt t at) [
        | inl less ↦
            let here : Start o.code t = subst (Start o.code) c.place c.is.start in
            let stands : Stands o.code t l.instr (count l.instr) = subst (λ (x : ℕ). Stands o.code x l.instr (count l.instr)) c.place c.is.stands in
            let past : t + count l.instr ≤ at = apart o.code t at l.instr (count l.instr) here stands start less in
            later l ls at (line_from ls (suc k) (t + count l.instr) c.reached c.rest past)
        | inr more ↦ (l, first_line l ls, let place = c.place in omega arith)
      ]

  line_of : LineOf (lines (fields o)) at
  unfolding lines
  line_of = line_from (lines_from o.relocs 0 0 o.code) 0 0 refl refl (omega arith)

pub lines_stand : SizeLaw → LineLaw → StartsApart → LinesAreSpelled
lines_stand size line apart o spelled = record {
  are = All-from_recursion (IsInstruction o.code) (lines (fields o)) (source_instructions size line o spelled);
  each = line_of size line apart o spelled;
}

-- ---- the last line

pub line_end : (t : ℕ) (xs : List Line) (l : Line) (end : ℕ) → Consecutive t (xs ++ l ∷ []) end → l.at + count l.instr ≡ end
line_end t [] l end c = omega (arith, c.0, c.1)
line_end t (x ∷ xs) l end c = line_end (t + count x.instr) xs l end c.1
