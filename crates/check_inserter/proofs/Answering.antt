-- An object has one answer.
use Rattle.std.proofs.Common.{◌≡◌, ◌≢◌, ℕ, ◌*◌, ◌≤◌, ◌<◌, List, [], ◌∷◌, ◌++◌, ◌⊎◌, inl, inr, length, Result, Ok, Err, refl, sym, ap, ◌∙◌, arith}
use Rattle.std.specs.Prelude.{IfOk}
use Rattle.std.proofs.lemmas.List.{append_assoc, length-append}
use Rattle.code_model.specs.declared.object.Object.{Object}
use Rattle.code_model.specs.Fields.{fields}
use Rattle.code_model.specs.declared.verdict.Verdict.TheVariants.{Refused}
use Rattle.code_model.specs.Verdicts.{AllSpelled, IsVerdict}
use Rattle.code_laws.specs.Laws.{OneVerdict}
use Rattle.insert_model.specs.declared.fault.InsertKind.{InsertKind}
use Rattle.insert_model.specs.declared.fault.InsertKind.TheVariants.{NotDecoded, UsesCheckRegister, Forbidden, BadTarget, TooLarge}
use Rattle.insert_model.specs.declared.fault.InsertFault.{InsertFault}
use Rattle.insert_model.specs.declared.fault.InsertFault.TheVariants.{At, Memory}
use Rattle.insert_model.specs.declared.line.Line.{Line}
use Rattle.insert_model.specs.Units.{static_bytes}
use Rattle.insert_model.specs.Groups.{Group}
use Rattle.insert_model.specs.Layout.{Jumps, units, final, final_units}
use Rattle.insert_model.specs.Faults.{number, LinesHave, LineHas, Hits, Precedes, most_words, Passes, IsUndecoded, IsFirstFault, IsTooLarge, IsFault, IsInserted, IsAnswer, SameAnswer}
use Rattle.source_faults.specs.declared.faults.Fault.{Fault}
use Rattle.source_faults.specs.Found.{IsFirstOf}
use Rattle.check_inserter.proofs.LaidUnits.{units_append}

-- ---- a fault that was found

no_fault_of : (o : Object) (k : InsertKind) (x : ℕ) → ((l : Line) → LineHas k o l → ⊥) → (k ≢ BadTarget) → Hits o k x → ⊥
unfolding LinesHave
no_fault_of o k x none other (inl (i, l, inside, is, h)) = none l h.1
no_fault_of o k x none other (inr h) = other h.0

pub is_fault : (o : Object) (f : Fault) → AllSpelled o → IsFirstOf (Hits o) f → IsFault o f.kind f.offset
is_fault o f spelled h = by_kind f.kind f.offset h.hit h.first
  where
    by_kind : (k : InsertKind) (x : ℕ) → Hits o k x → ((j : InsertKind) (y : ℕ) → Hits o j y → Precedes k x j y) → IsFault o k x
    by_kind NotDecoded x hit first = absurd (no_fault_of o NotDecoded x (λ l n. n) (λ e. cc) hit)
    by_kind UsesCheckRegister x hit first = record { spelled = spelled; first = record { hit = hit; first = first } }
    by_kind Forbidden x hit first = record { spelled = spelled; first = record { hit = hit; first = first } }
    by_kind BadTarget x hit first = record { spelled = spelled; first = record { hit = hit; first = first } }
    by_kind TooLarge x hit first = absurd (no_fault_of o TooLarge x (λ l n. n) (λ e. cc) hit)

-- ---- two answers

not_bad : (o : Object) (x : ℕ) → AllSpelled o → IsUndecoded o x → ⊥
not_bad o x spelled u = let s = spelled u.place u.bad.start in u.bad.none s.instr s.words s.stands

same_bad : (o : Object) (x y : ℕ) → OneVerdict → IsUndecoded o x → IsUndecoded o y → x ≡ y
same_bad o x y one u v =
    let a : IsVerdict o (Refused 1 x) = (u.place, u.is, record { why = inl (refl, u.bad) }) in
    let b : IsVerdict o (Refused 1 y) = (v.place, v.is, record { why = inl (refl, v.bad) }) in
    (one o (Refused 1 x) (Refused 1 y) a b).1

-- two ways to cut a list at an element
abbrev Longer : (b c : List Group) (l : Group) → Type 0
Longer b c l = (d : List Group) × (c ≡ (b ++ l ∷ []) ++ d)

head_same : (x y : Group) (xs ys : List Group) → x ∷ xs ≡ y ∷ ys → x ≡ y
head_same x y xs ys e = cc

tail_same : (x y : Group) (xs ys : List Group) → x ∷ xs ≡ y ∷ ys → xs ≡ ys
tail_same x y xs ys e = cc

two_cuts : (b c : List Group) (l m : Group) (p q : List Group) → b ++ l ∷ p ≡ c ++ m ∷ q → (l ≡ m) ⊎ (Longer b c l ⊎ Longer c b m)
two_cuts [] [] l m p q e = inl (head_same l m p q e)
two_cuts [] (y ∷ c) l m p q e = inr (inl (c, ap (λ (z : Group). z ∷ c) (sym (head_same l y p (c ++ m ∷ q) e))))
two_cuts (x ∷ b) [] l m p q e = inr (inr (b, ap (λ (z : Group). z ∷ b) (head_same x m (b ++ l ∷ p) q e)))
two_cuts (x ∷ b) (y ∷ c) l m p q e =
    let h : x ≡ y = head_same x y (b ++ l ∷ p) (c ++ m ∷ q) e in
    elim (two_cuts b c l m p q (tail_same x y (b ++ l ∷ p) (c ++ m ∷ q) e)) [
      | inl same ↦ inl same
      | inr (inl (d, f)) ↦ inr (inl (d, λ j. sym h j ∷ f j))
      | inr (inr (d, f)) ↦ inr (inr (d, λ j. h j ∷ f j))
    ]

grows : (js : Jumps) (size : ℕ) (xs ys : List Group) → length (units js size xs) ≤ length (units js size (xs ++ ys))
grows js size xs ys = omega (arith, ap length (units_append js size xs ys), length-append (units js size xs) (units js size ys))

too_long : (js : Jumps) (size : ℕ) (b c : List Group) (l : Group) → Longer b c l → most_words < length (units js size (b ++ l ∷ [])) → length (units js size c) ≤ most_words → ⊥
too_long js size b c l (d, e) big small = omega (arith, ap (λ (gs : List Group). length (units js size gs)) e, grows js size (b ++ l ∷ []) d)

same_passes : (o : Object) (x y : ℕ) → Passes o x → Passes o y → x ≡ y
same_passes o x y p q =
    elim (two_cuts p.before q.before p.group q.group p.after q.after (sym p.are ∙ q.are)) [
      | inl same ↦ p.is ∙ ap (λ (g : Group). 2 * g.head.at) same ∙ sym q.is
      | inr (inl h) ↦ absurd (too_long (final (fields o)) (static_bytes (fields o)) p.before q.before p.group h p.passes q.fits)
      | inr (inr h) ↦ absurd (too_long (final (fields o)) (static_bytes (fields o)) q.before p.before q.group h q.passes p.fits)
    ]

not_both : (o q : Object) (x : ℕ) → IsInserted o q → Passes o x → ⊥
unfolding final_units
not_both o q x i p =
    let e : p.before ++ p.group ∷ p.after ≡ (p.before ++ p.group ∷ []) ++ p.after = sym (append_assoc p.before (p.group ∷ []) p.after) in
    omega (arith, grows (final (fields o)) (static_bytes (fields o)) (p.before ++ p.group ∷ []) p.after, ap (λ (gs : List Group). length (units (final (fields o)) (static_bytes (fields o)) gs)) (p.are ∙ e), i.fits, p.passes)

-- ---- first faults

abbrev SameFault : InsertKind → ℕ → InsertKind → ℕ → Type 0
SameFault k x j y = (k ≡ j) × (x ≡ y)

same_number : (k j : InsertKind) → number k ≡ number j → k ≡ j
same_number NotDecoded NotDecoded e = refl
same_number UsesCheckRegister UsesCheckRegister e = refl
same_number Forbidden Forbidden e = refl
same_number BadTarget BadTarget e = refl
same_number TooLarge TooLarge e = refl
same_number NotDecoded UsesCheckRegister e = absurd (omega arith)
same_number NotDecoded Forbidden e = absurd (omega arith)
same_number NotDecoded BadTarget e = absurd (omega arith)
same_number NotDecoded TooLarge e = absurd (omega arith)
same_number UsesCheckRegister NotDecoded e = absurd (omega arith)
same_number UsesCheckRegister Forbidden e = absurd (omega arith)
same_number UsesCheckRegister BadTarget e = absurd (omega arith)
same_number UsesCheckRegister TooLarge e = absurd (omega arith)
same_number Forbidden NotDecoded e = absurd (omega arith)
same_number Forbidden UsesCheckRegister e = absurd (omega arith)
same_number Forbidden BadTarget e = absurd (omega arith)
same_number Forbidden TooLarge e = absurd (omega arith)
same_number BadTarget NotDecoded e = absurd (omega arith)
same_number BadTarget UsesCheckRegister e = absurd (omega arith)
same_number BadTarget Forbidden e = absurd (omega arith)
same_number BadTarget TooLarge e = absurd (omega arith)
same_number TooLarge NotDecoded e = absurd (omega arith)
same_number TooLarge UsesCheckRegister e = absurd (omega arith)
same_number TooLarge Forbidden e = absurd (omega arith)
same_number TooLarge BadTarget e = absurd (omega arith)

both_ways : (k : InsertKind) (x : ℕ) (j : InsertKind) (y : ℕ) → Precedes k x j y → Precedes j y k x → SameFault k x j y
both_ways k x j y (inl a) (inl b) = absurd (omega arith)
both_ways k x j y (inl a) (inr b) = absurd (omega (arith, b.0))
both_ways k x j y (inr a) (inl b) = absurd (omega (arith, a.0))
both_ways k x j y (inr a) (inr b) = (same_number k j (omega (arith, a.1, b.1)), a.0)

same_first : (o : Object) (k : InsertKind) (x : ℕ) (j : InsertKind) (y : ℕ) → IsFirstFault o k x → IsFirstFault o j y → SameFault k x j y
same_first o k x j y f g = both_ways k x j y (f.first.first j y g.first.hit) (g.first.first k x f.first.hit)

-- a fault is of one of three sorts
data Sort (o : Object) (k : InsertKind) (x : ℕ) : Type 0 where
  IsBad : k ≡ NotDecoded → IsUndecoded o x → Sort o k x
  IsHit : IsFirstFault o k x → Sort o k x
  IsBig : k ≡ TooLarge → IsTooLarge o x → Sort o k x

sort : (o : Object) (k : InsertKind) (x : ℕ) → IsFault o k x → Sort o k x
sort o NotDecoded x h = IsBad refl h
sort o UsesCheckRegister x h = IsHit h
sort o Forbidden x h = IsHit h
sort o BadTarget x h = IsHit h
sort o TooLarge x h = IsBig refl h

same_sorts : (o : Object) (k : InsertKind) (x : ℕ) (j : InsertKind) (y : ℕ) → OneVerdict → Sort o k x → Sort o j y → SameFault k x j y
same_sorts o k x j y one (IsBad e u) (IsBad f v) = (e ∙ sym f, same_bad o x y one u v)
same_sorts o k x j y one (IsBad e u) (IsHit g) = absurd (not_bad o x g.spelled u)
same_sorts o k x j y one (IsBad e u) (IsBig f b) = absurd (not_bad o x b.spelled u)
same_sorts o k x j y one (IsHit g) (IsBad f v) = absurd (not_bad o y g.spelled v)
same_sorts o k x j y one (IsHit g) (IsHit h) = same_first o k x j y g h
same_sorts o k x j y one (IsHit g) (IsBig f b) = absurd (b.clean k x g.first.hit)
same_sorts o k x j y one (IsBig e b) (IsBad f v) = absurd (not_bad o y b.spelled v)
same_sorts o k x j y one (IsBig e b) (IsHit g) = absurd (b.clean j y g.first.hit)
same_sorts o k x j y one (IsBig e b) (IsBig f c) = (e ∙ sym f, same_passes o x y b.passes c.passes)

not_inserted : (o q : Object) (k : InsertKind) (x : ℕ) → IsInserted o q → Sort o k x → ⊥
not_inserted o q k x i (IsBad e u) = not_bad o x i.spelled u
not_inserted o q k x i (IsHit g) = i.clean k x g.first.hit
not_inserted o q k x i (IsBig e b) = not_both o q x i b.passes

-- ---- answers

-- what holds of the object with guards holds of the one that is answered
pub of_answer : (o : Object) (P : Object → Type 0) → ((q : Object) → IsInserted o q → P q) → (r : Result Object InsertFault) → IsAnswer o r → IfOk r P
of_answer o P holds (Ok q) is = holds q is
of_answer o P holds (Err (At k x)) is = tt
of_answer o P holds (Err Memory) is = tt

pub one_answer : (o : Object) → OneVerdict → ((p q : Object) → fields p ≡ fields q → p ≡ q) → (a b : Result Object InsertFault) → IsAnswer o a → IsAnswer o b → SameAnswer a b
one_answer o one same (Err Memory) b ha hb = tt
one_answer o one same (Ok p) (Err Memory) ha hb = tt
one_answer o one same (Err (At k x)) (Err Memory) ha hb = tt
one_answer o one same (Ok p) (Ok q) ha hb = same p q (ha.is ∙ sym hb.is)
one_answer o one same (Ok p) (Err (At j y)) ha hb = not_inserted o p j y ha (sort o j y hb)
one_answer o one same (Err (At k x)) (Ok q) ha hb = not_inserted o q k x hb (sort o k x ha)
one_answer o one same (Err (At k x)) (Err (At j y)) ha hb = same_sorts o k x j y one (sort o k x ha) (sort o j y hb)
