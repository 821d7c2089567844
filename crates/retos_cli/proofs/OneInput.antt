-- One input comes to one thing: it is taken, or refused for one cause.
use Rattle.std.proofs.Common.{◌≡◌, ◌↔◌, ℕ, ◌<◌, ◌≤◌, List, length, Some, None, Ok, Err, refl, ap, sym, subst, ◌∙◌, arith}
use Rattle.std.specs.declared.option.Option.{Option}
use Rattle.std.specs.declared.result.Result.{Result}
use Rattle.kernel_model.specs.Bitmap.{Has}
use Rattle.code_model.specs.declared.object.Object.{Object}
use Rattle.code_model.specs.declared.verdict.Verdict.TheVariants as verdict
use Rattle.code_model.specs.Fields.{fields}
use Rattle.code_model.specs.Marks.{AreMarks}
use Rattle.code_model.specs.Verdicts.{IsAccepted, IsVerdict}
use Rattle.code_laws.specs.Laws.{OneVerdict}
use Rattle.object_form.specs.declared.fault.FormKind.{FormKind}
use Rattle.object_form.specs.Spelling.{object_bytes}
use Rattle.object_form.specs.Faults.{Reason, first_form_fault}
use Rattle.asm_model.specs.declared.fault.AsmKind.{AsmKind}
use Rattle.asm_model.specs.FirstPass.{Fault, fault}
use Rattle.asm_model.specs.Assembled.{assembled}
use Rattle.insert_model.specs.declared.fault.InsertKind.{InsertKind}
use Rattle.insert_model.specs.declared.fault.InsertFault.{InsertFault}
use Rattle.insert_model.specs.declared.fault.InsertFault.TheVariants.{At}
use Rattle.insert_model.specs.Faults.{IsFault, IsInserted, IsAnswer, SameAnswer}
use Rattle.load_model.specs.Loading.{Loadable}
use Rattle.trace_model.specs.declared.scripts.Script.{Script}
use Rattle.trace_model.specs.Grammar.{script_of}
use Rattle.retos_cli.specs.declared.purpose.Purpose.{Purpose}
use Rattle.retos_cli.specs.declared.purpose.Purpose.TheVariants.{Checked, Application, Source, Plain, Script as Scripted}
use Rattle.retos_cli.specs.declared.outcome.Why.{Why}
use Rattle.retos_cli.specs.declared.outcome.Why.TheVariants as why
use Rattle.retos_cli.specs.Meaning.{most_bytes, IsTextOf, AsksObject, AsksCheck, Suits, IsFit, Taken, Assembles, Guards, Scripts, Refuses, IsTakenAs}

-- what the laws of the layers below say
pub record Laws : Type 0 where
  pub verdict : OneVerdict
  pub answer : (o : Object) (a b : Result Object InsertFault) → IsAnswer o a → IsAnswer o b → SameAnswer a b
  pub text : (a b : Object) → object_bytes a ≡ object_bytes b → a ≡ b
  pub no_fault : (o : Object) → first_form_fault (object_bytes o) ≡ None
  pub object : (a b : Object) → fields a ≡ fields b → a ≡ b
  pub marks : (a b : List ℕ) → AreMarks a → AreMarks b → ((at : ℕ) → Has a at ↔ Has b at) → a ≡ b

-- ---- answers of functions

pub same_some : {X : Type 0} (o : Option X) (x y : X) → o ≡ Some x → o ≡ Some y → x ≡ y
same_some o x y e f = let h : Some x ≡ Some y = sym e ∙ f in cc h

pub not_some : {X : Type 0} (o : Option X) (x : X) → o ≡ None → o ≡ Some x → ⊥
not_some o x e f = cc

pub same_ok : {X E : Type 0} (r : Result X E) (x y : X) → r ≡ Ok x → r ≡ Ok y → x ≡ y
same_ok r x y e f = let h : Ok x ≡ Ok y = sym e ∙ f in cc h

pub same_err : {X E : Type 0} (r : Result X E) (x y : E) → r ≡ Err x → r ≡ Err y → x ≡ y
same_err r x y e f = let h : Err x ≡ Err y = sym e ∙ f in cc h

pub not_ok : {X E : Type 0} (r : Result X E) (x : X) (y : E) → r ≡ Ok x → r ≡ Err y → ⊥
not_ok r x y e f = cc

-- ---- what an input comes to: none of the causes where it is taken

-- an object that is checked
data Checks (purpose : Purpose) (o : Object) (a : Option Why) : Type 0 where
  Unsuited : a ≡ Some why.NotApplication → (Suits purpose o → ⊥) → Checks purpose o a
  Unsafe : (rule place : ℕ) → a ≡ Some (why.Check rule place) → Suits purpose o → IsVerdict o (verdict.Refused rule place) → Checks purpose o a
  Fits : (units : List ℕ) → a ≡ None → IsFit purpose o units → Checks purpose o a

-- an object that gets guards
data Inserts (o : Object) (a : Option Why) : Type 0 where
  Faulty : (k : InsertKind) (x : ℕ) → a ≡ Some (why.Insert k x) → IsFault o k x → Inserts o a
  Gets : (q : Object) → a ≡ None → IsInserted o q → Inserts o a

-- a text that is to be an object's
data OfText (P : Object → Option Why → Type 0) (bytes : List ℕ) (a : Option Why) : Type 0 where
  Malformed : (k : FormKind) (x : ℕ) → a ≡ Some (why.Form k x) → first_form_fault bytes ≡ Some (record { kind = k; offset = x }) → OfText P bytes a
  Formed : (o : Object) → bytes ≡ object_bytes o → P o a → OfText P bytes a

-- a source
data Sources (bytes : List ℕ) (a : Option Why) : Type 0 where
  Wrong : (line : ℕ) (k : AsmKind) → a ≡ Some (why.Line line k) → assembled bytes ≡ Err (fault line k) → Sources bytes a
  Right : (o : Object) → a ≡ None → assembled bytes ≡ Ok (fields o) → Sources bytes a

-- a script
data Reads (bytes : List ℕ) (a : Option Why) : Type 0 where
  Faulty : (line : ℕ) → a ≡ Some (why.Script line) → script_of bytes ≡ Err line → Reads bytes a
  Stands : (t : Script) → a ≡ None → script_of bytes ≡ Ok t → Reads bytes a

abbrev Judges : Purpose → List ℕ → Option Why → Type 0
Judges Checked bytes a = OfText (Checks Checked) bytes a
Judges Application bytes a = OfText (Checks Application) bytes a
Judges Plain bytes a = OfText Inserts bytes a
Judges Source bytes a = Sources bytes a
Judges Scripted bytes a = Reads bytes a

data Comes (purpose : Purpose) (held : Option (List ℕ)) (a : Option Why) : Type 0 where
  Missing : a ≡ Some why.Absent → held ≡ None → Comes purpose held a
  Long : (bytes : List ℕ) → a ≡ Some why.TooLong → held ≡ Some bytes → most_bytes < length bytes → Comes purpose held a
  Judged : (bytes : List ℕ) → held ≡ Some bytes → length bytes ≤ most_bytes → Judges purpose bytes a → Comes purpose held a

-- ---- each input that is taken or refused comes to that

form-comes : (purpose : Purpose) (bytes : List ℕ) (k : FormKind) (x : ℕ) → AsksObject purpose → first_form_fault bytes ≡ Some (record { kind = k; offset = x }) → Judges purpose bytes (Some (why.Form k x))
form-comes Checked bytes k x a e = Malformed k x refl e
form-comes Application bytes k x a e = Malformed k x refl e
form-comes Plain bytes k x a e = Malformed k x refl e
form-comes Source bytes k x a e = absurd a
form-comes Scripted bytes k x a e = absurd a

check-comes : (purpose : Purpose) (o : Object) (a : Option Why) → AsksCheck purpose → Checks purpose o a → Judges purpose (object_bytes o) a
check-comes Checked o a h c = Formed o refl c
check-comes Application o a h c = Formed o refl c
check-comes Plain o a h c = absurd h
check-comes Source o a h c = absurd h
check-comes Scripted o a h c = absurd h

refused_comes : (purpose : Purpose) (held : Option (List ℕ)) (w : Why) → Refuses purpose held w → Comes purpose held (Some w)
unfolding Refuses
refused_comes purpose held why.Absent h = Missing refl h
refused_comes purpose held why.TooLong (bytes, e, l) = Long bytes refl e l
refused_comes purpose held (why.Form k x) (a, bytes, e, l, f) = Judged bytes e l (form-comes purpose bytes k x a f)
refused_comes purpose held why.NotApplication (a, o, t, n) = Judged (object_bytes o) t.0 t.1 (check-comes purpose o (Some why.NotApplication) a (Unsuited refl n))
refused_comes purpose held (why.Check r p) (a, o, t, s, v) = Judged (object_bytes o) t.0 t.1 (check-comes purpose o (Some (why.Check r p)) a (Unsafe r p refl s v))
refused_comes purpose held (why.Room c) h = absurd h
refused_comes purpose held (why.Line line k) (f, bytes, e, l, g) =
    let P : Purpose → Type 0 = λ x. Comes x held (Some (why.Line line k)) in subst P (sym f) (Judged bytes e l (Wrong line k refl g))
refused_comes purpose held (why.Script line) (f, bytes, e, l, g) =
    let P : Purpose → Type 0 = λ x. Comes x held (Some (why.Script line)) in subst P (sym f) (Judged bytes e l (Faulty line refl g))
refused_comes purpose held (why.Insert k x) (f, o, t, g) =
    let P : Purpose → Type 0 = λ y. Comes y held (Some (why.Insert k x)) in subst P (sym f) (Judged (object_bytes o) t.0 t.1 (Formed o refl (Faulty k x refl g)))

taken_comes : (purpose : Purpose) (held : Option (List ℕ)) → IsTakenAs purpose held → Comes purpose held None
taken_comes Checked held (o, units, t) = Judged (object_bytes o) t.text.0 t.text.1 (Formed o refl (Fits units refl t.fit))
taken_comes Application held (o, units, t) = Judged (object_bytes o) t.text.0 t.text.1 (Formed o refl (Fits units refl t.fit))
taken_comes Plain held (o, q, g) = Judged (object_bytes o) g.text.0 g.text.1 (Formed o refl (Gets q refl g.gives))
taken_comes Source held (o, a) = Judged a.source a.held_is a.short (Right o refl a.gives)
taken_comes Scripted held (t, s) = Judged s.text s.held_is s.short (Stands t refl s.gives)

-- ---- two ways agree

module _ (laws : Laws) where
  same-checks : (purpose : Purpose) (o : Object) (a b : Option Why) → Checks purpose o a → Checks purpose o b → a ≡ b
  same-checks purpose o a b (Unsuited e n) (Unsuited f m) = e ∙ sym f
  same-checks purpose o a b (Unsuited e n) (Unsafe r p f s v) = absurd (n s)
  same-checks purpose o a b (Unsuited e n) (Fits units f h) = absurd (n h.suits)
  same-checks purpose o a b (Unsafe r p e s v) (Unsuited f n) = absurd (n s)
  same-checks purpose o a b (Unsafe r p e s v) (Unsafe q x f t w) =
      let same : (r ≡ q) × (p ≡ x) = laws.verdict o (verdict.Refused r p) (verdict.Refused q x) v w in
      e ∙ ap (λ (n : ℕ). Some (why.Check n p)) same.0 ∙ ap (λ (n : ℕ). Some (why.Check q n)) same.1 ∙ sym f
  same-checks purpose o a b (Unsafe r p e s v) (Fits units f h) = absurd (laws.verdict o (verdict.Refused r p) (verdict.Accepted units) v h.accepted)
  same-checks purpose o a b (Fits units e h) (Unsuited f n) = absurd (n h.suits)
  same-checks purpose o a b (Fits units e h) (Unsafe r p f s v) = absurd (laws.verdict o (verdict.Accepted units) (verdict.Refused r p) h.accepted v)
  same-checks purpose o a b (Fits units e h) (Fits others f g) = e ∙ sym f

  same-inserts : (o : Object) (a b : Option Why) → Inserts o a → Inserts o b → a ≡ b
  same-inserts o a b (Faulty k x e h) (Faulty j y f g) =
      let same : (k ≡ j) × (x ≡ y) = laws.answer o (Err (At k x)) (Err (At j y)) h g in
      e ∙ ap (λ (n : InsertKind). Some (why.Insert n x)) same.0 ∙ ap (λ (n : ℕ). Some (why.Insert j n)) same.1 ∙ sym f
  same-inserts o a b (Faulty k x e h) (Gets q f g) = absurd (laws.answer o (Err (At k x)) (Ok q) h g)
  same-inserts o a b (Gets q e h) (Faulty k x f g) = absurd (laws.answer o (Ok q) (Err (At k x)) h g)
  same-inserts o a b (Gets q e h) (Gets r f g) = e ∙ sym f

  -- an object's text has no fault
  not-malformed : (bytes : List ℕ) (o : Object) (r : Reason) → bytes ≡ object_bytes o → first_form_fault bytes ≡ Some r → ⊥
  not-malformed bytes o r e f = not_some (first_form_fault bytes) r (ap first_form_fault e ∙ laws.no_fault o) f

  same-of-text : (P : Object → Option Why → Type 0) → ((o : Object) (a b : Option Why) → P o a → P o b → a ≡ b)
      → (bytes : List ℕ) (a b : Option Why) → OfText P bytes a → OfText P bytes b → a ≡ b
  same-of-text P same bytes a b (Malformed k x e h) (Malformed j y f g) =
      let r : Reason = record { kind = k; offset = x } in
      let s : Reason = record { kind = j; offset = y } in
      e ∙ ap (λ (z : Reason). Some (why.Form z.kind z.offset)) (same_some (first_form_fault bytes) r s h g) ∙ sym f
  same-of-text P same bytes a b (Malformed k x e h) (Formed o t p) = absurd (not-malformed bytes o (record { kind = k; offset = x }) t h)
  same-of-text P same bytes a b (Formed o t p) (Malformed k x e h) = absurd (not-malformed bytes o (record { kind = k; offset = x }) t h)
  same-of-text P same bytes a b (Formed o t p) (Formed q u r) =
      let Q : Object → Type 0 = λ x. P x a in
      same q a b (subst Q (laws.text o q (sym t ∙ u)) p) r

  same-sources : (bytes : List ℕ) (a b : Option Why) → Sources bytes a → Sources bytes b → a ≡ b
  same-sources bytes a b (Wrong l k e h) (Wrong m j f g) = e ∙ ap (λ (x : Fault). Some (why.Line x.line x.kind)) (same_err (assembled bytes) (fault l k) (fault m j) h g) ∙ sym f
  same-sources bytes a b (Wrong l k e h) (Right o f g) = absurd (not_ok (assembled bytes) (fields o) (fault l k) g h)
  same-sources bytes a b (Right o e h) (Wrong l k f g) = absurd (not_ok (assembled bytes) (fields o) (fault l k) h g)
  same-sources bytes a b (Right o e h) (Right q f g) = e ∙ sym f

  same-reads : (bytes : List ℕ) (a b : Option Why) → Reads bytes a → Reads bytes b → a ≡ b
  same-reads bytes a b (Faulty l e h) (Faulty m f g) = e ∙ ap (λ (n : ℕ). Some (why.Script n)) (same_err (script_of bytes) l m h g) ∙ sym f
  same-reads bytes a b (Faulty l e h) (Stands t f g) = absurd (not_ok (script_of bytes) t l g h)
  same-reads bytes a b (Stands t e h) (Faulty l f g) = absurd (not_ok (script_of bytes) t l h g)
  same-reads bytes a b (Stands t e h) (Stands u f g) = e ∙ sym f

  same-judges : (purpose : Purpose) (bytes : List ℕ) (a b : Option Why) → Judges purpose bytes a → Judges purpose bytes b → a ≡ b
  same-judges Checked bytes a b h g = same-of-text (Checks Checked) (same-checks Checked) bytes a b h g
  same-judges Application bytes a b h g = same-of-text (Checks Application) (same-checks Application) bytes a b h g
  same-judges Plain bytes a b h g = same-of-text Inserts same-inserts bytes a b h g
  same-judges Source bytes a b h g = same-sources bytes a b h g
  same-judges Scripted bytes a b h g = same-reads bytes a b h g

  same-comes : (purpose : Purpose) (held : Option (List ℕ)) (a b : Option Why) → Comes purpose held a → Comes purpose held b → a ≡ b
  same-comes purpose held a b (Missing e h) (Missing f g) = e ∙ sym f
  same-comes purpose held a b (Missing e h) (Long bytes f g l) = absurd (not_some held bytes h g)
  same-comes purpose held a b (Missing e h) (Judged bytes g l j) = absurd (not_some held bytes h g)
  same-comes purpose held a b (Long bytes e h l) (Missing f g) = absurd (not_some held bytes g h)
  same-comes purpose held a b (Long bytes e h l) (Long others f g k) = e ∙ sym f
  same-comes purpose held a b (Long bytes e h l) (Judged others g k j) = absurd (omega (arith, l, k, ap length (same_some held bytes others h g)))
  same-comes purpose held a b (Judged bytes h l j) (Missing f g) = absurd (not_some held bytes g h)
  same-comes purpose held a b (Judged bytes h l j) (Long others f g k) = absurd (omega (arith, l, k, ap length (same_some held bytes others h g)))
  same-comes purpose held a b (Judged bytes h l j) (Judged others g k i) =
      let P : List ℕ → Type 0 = λ x. Judges purpose x a in
      same-judges purpose others a b (subst P (same_some held bytes others h g) j) i

  -- what is taken isn't refused
  pub not_refused : (purpose : Purpose) (held : Option (List ℕ)) (w : Why) → IsTakenAs purpose held → Refuses purpose held w → ⊥
  not_refused purpose held w t r = let e : None ≡ Some w = same-comes purpose held None (Some w) (taken_comes purpose held t) (refused_comes purpose held w r) in cc e

  -- and what is refused has one cause
  pub same_cause : (purpose : Purpose) (held : Option (List ℕ)) (v w : Why) → Refuses purpose held v → Refuses purpose held w → v ≡ w
  same_cause purpose held v w r s = let e : Some v ≡ Some w = same-comes purpose held (Some v) (Some w) (refused_comes purpose held v r) (refused_comes purpose held w s) in cc e

  -- ---- what is taken is one thing

  one_text : (held : Option (List ℕ)) (o q : Object) → IsTextOf held o → IsTextOf held q → o ≡ q
  one_text held o q t u = laws.text o q (same_some held (object_bytes o) (object_bytes q) t.0 u.0)

  pub one_units : (o : Object) (u v : List ℕ) → IsAccepted o u → IsAccepted o v → AreMarks u → AreMarks v → u ≡ v
  one_units o u v a b m n = laws.marks u v m n (laws.verdict o (verdict.Accepted u) (verdict.Accepted v) a b)

  pub one_loadable : (a b : Loadable) → a.object ≡ b.object → a.units ≡ b.units → a ≡ b
  one_loadable a b e f =
      ap (λ (o : Object). let x : Loadable = record { object = o; units = a.units } in x) e
      ∙ ap (λ (u : List ℕ). let x : Loadable = record { object = b.object; units = u } in x) f

  pub one_taken : (purpose : Purpose) (held : Option (List ℕ)) (a b : Loadable) → Taken purpose held a.object a.units → Taken purpose held b.object b.units → a ≡ b
  one_taken purpose held a b t u =
      let e : a.object ≡ b.object = one_text held a.object b.object t.text u.text in
      let P : Object → Type 0 = λ o. IsAccepted o a.units in
      one_loadable a b e (one_units b.object a.units b.units (subst P e t.fit.accepted) u.fit.accepted t.fit.bitmap u.fit.bitmap)

  pub one_assembled : (held : Option (List ℕ)) (o q : Object) → Assembles held o → Assembles held q → o ≡ q
  one_assembled held o q a b =
      let e : a.source ≡ b.source = same_some held a.source b.source a.held_is b.held_is in
      laws.object o q (same_ok (assembled b.source) (fields o) (fields q) (ap assembled (sym e) ∙ a.gives) b.gives)

  pub one_inserted : (o p q r : Object) → o ≡ p → IsInserted o q → IsInserted p r → q ≡ r
  one_inserted o p q r e i j = let P : Object → Type 0 = λ x. IsInserted x q in laws.answer p (Ok q) (Ok r) (subst P e i) j

  pub one_guarded : (held : Option (List ℕ)) (o p q r : Object) → Guards held o q → Guards held p r → q ≡ r
  one_guarded held o p q r g h = one_inserted o p q r (one_text held o p g.text h.text) g.gives h.gives

pub one_script : (held : Option (List ℕ)) (t u : Script) → Scripts held t → Scripts held u → t ≡ u
one_script held t u a b =
    let e : a.text ≡ b.text = same_some held a.text b.text a.held_is b.held_is in
    same_ok (script_of b.text) t u (ap script_of (sym e) ∙ a.gives) b.gives
