-- The verdict is one, and each refusal lies in the code.
use Rattle.std.proofs.Common.{◌≡◌, ℕ, zero, suc, ◌*◌, ◌≤◌, ◌<◌, List, ◌⊎◌, inl, inr, length, true, refl, subst, arith}
use Rattle.code_model.specs.declared.object.Object.{Object}
use Rattle.code_model.specs.declared.parts.Reloc.{Reloc}
use Rattle.code_model.specs.declared.parts.RelKind.{RelKind}
use Rattle.code_model.specs.declared.parts.Export.{Export}
use Rattle.code_model.specs.Form.{RelocFits, IsInCode}
use Rattle.code_model.specs.declared.rules.Rule.{Rule}
use Rattle.code_model.specs.declared.rules.Rule.TheVariants as rule
use Rattle.code_model.specs.declared.verdict.Verdict.{Verdict}
use Rattle.code_model.specs.declared.verdict.Verdict.TheVariants.{Accepted, Refused}
use Rattle.code_model.specs.Starts.{Stands, Reached, Bad}
use Rattle.code_model.specs.Relocs.{HasReloc}
use Rattle.code_model.specs.Rules.{number, Refuses, IsNamed, IsExported}
use Rattle.code_model.specs.Verdicts.{AllSpelled, Precedes, IsLeast, IsAccepted, IsRefused, IsVerdict, SameVerdict}
use Rattle.code_laws.proofs.Starting.{one_place}
use Rattle.std.proofs.lemmas.Bool.{cases_order}
use Rattle.std.proofs.Math.Nat.{eq-or-lt_of_le}

reloc_below : (o : Object) (at : ℕ) (k : RelKind) → HasReloc o.relocs at k → at < length o.code
unfolding HasReloc
reloc_below o at k (i, inside, here) =
    let r : Reloc = record { in_code = true; kind = k; offset = 2 * at } in
    let fits : RelocFits o.code o.init r = subst (λ (x : Reloc). RelocFits o.code o.init x) here (o.form.relocs_fit i r inside) in
    omega (arith, fits.in_code refl)

named_below : (o : Object) (at : ℕ) → IsNamed o at → at < length o.code
unfolding IsExported
named_below o at (inl (app, entry)) = omega (arith, (o.form.app app).entry_in_code.below)
named_below o at (inr (e, (i, inside, here), offset)) =
    let fits : IsInCode o.code e.offset = subst (λ (x : Export). IsInCode o.code x.offset) here (o.form.exports_fit i e inside) in
    omega (arith, fits.below)

-- what a rule refuses is a place of the code
pub refuses_below : (r : Rule) (o : Object) (at : ℕ) → Refuses r o at → at < length o.code
refuses_below rule.Spelled o at h = h.start.below
refuses_below rule.Reti o at h = h.start.below
refuses_below rule.Pc o at h = h.1.start.below
refuses_below rule.Sp o at h = h.1.start.below
refuses_below rule.Sr o at h = h.1.start.below
refuses_below rule.Store o at h = h.1.start.below
refuses_below rule.Static o at h = h.1.start.below
refuses_below rule.Pop o at h = h.1.start.below
refuses_below rule.Push o at h = h.1.start.below
refuses_below rule.Target o at h = h.1.start.below
refuses_below rule.Jump o at h = h.1.start.below
refuses_below rule.End o at h = h.start.below
refuses_below rule.Reloc o at h = reloc_below o at h.kind h.has
refuses_below rule.Entry o at h = named_below o at h.0

-- ---- one verdict

-- the walk stops at one place
one_bad : (code : List ℕ) (a b : ℕ) → Bad code a → Bad code b → a ≡ b
one_bad code a b x y =
    elim (cases_order x.start.count y.start.count) [
      | inl same ↦ one_place code y.start.count a b (subst (λ (n : ℕ). Reached code n a) same x.start.reached) y.start.reached
      | inr other ↦ elim other [
        | inl less ↦ absurd (stuck code x.start.count y.start.count a b x y.start.reached x.start.reached less)
        | inr more ↦ absurd (stuck code y.start.count x.start.count b a y x.start.reached y.start.reached more)
      ]
    ]
  where
    stuck : (code : List ℕ) (m n a b : ℕ) → Bad code a → Reached code n b → Reached code m a → m < n → ⊥
    stuck code m zero a b bad r s h = omega arith
    stuck code m (suc n) a b bad (q, r, step) s h =
        let most : m ≤ n = omega arith in
        elim (eq-or-lt_of_le most) [
          | inl same ↦
              let e : q ≡ a = one_place code n q a r (subst (λ (k : ℕ). Reached code k a) same s) in
              bad.none step.instr step.words (subst (λ (k : ℕ). Stands code k step.instr step.words) e step.stands)
          | inr less ↦ stuck code m n a q bad r s less
        ]

spelled_bad : (o : Object) (at : ℕ) → AllSpelled o → Bad o.code at → ⊥
spelled_bad o at spelled bad = let s = spelled at bad.start in bad.none s.instr s.words s.stands

record IsOne (a : ℕ) (r : Rule) (b : ℕ) (s : Rule) : Type 0 where
  place : a ≡ b
  rule : number r ≡ number s

both : (a b : ℕ) (r s : Rule) → Precedes a r b s → Precedes b s a r → IsOne a r b s
both a b r s (inl x) (inl y) = absurd (omega arith)
both a b r s (inl x) (inr y) = absurd (omega (arith, y.0))
both a b r s (inr x) (inl y) = absurd (omega (arith, x.0))
both a b r s (inr x) (inr y) = record { place = x.0; rule = omega (arith, x.1, y.1) }

one_least : (o : Object) (a b : ℕ) (r s : Rule) → IsLeast o a r → IsLeast o b s → IsOne a r b s
one_least o a b r s x y = both a b r s (x.first b s y.refuses) (y.first a r x.refuses)

accepted_refused : (o : Object) (m : List ℕ) (r at : ℕ) → IsAccepted o m → IsRefused o r at → ⊥
accepted_refused o m r at accepted why = go why.why
  where
    go : ((r ≡ 1) × Bad o.code at) ⊎ (AllSpelled o × ((s : Rule) × (r ≡ number s) × IsLeast o at s)) → ⊥
    go (inl (e, bad)) = spelled_bad o at accepted.spelled bad
    go (inr (spelled, (s, e, least))) = accepted.none at s least.refuses

one_refusal : (o : Object) (q r a b : ℕ) → IsRefused o q a → IsRefused o r b → (q ≡ r) × (a ≡ b)
one_refusal o q r a b x y = go x.why y.why
  where
    go : ((q ≡ 1) × Bad o.code a) ⊎ (AllSpelled o × ((s : Rule) × (q ≡ number s) × IsLeast o a s))
        → ((r ≡ 1) × Bad o.code b) ⊎ (AllSpelled o × ((s : Rule) × (r ≡ number s) × IsLeast o b s)) → (q ≡ r) × (a ≡ b)
    go (inl (e, bad)) (inl (f, other)) = (omega (arith, e, f), one_bad o.code a b bad other)
    go (inl (e, bad)) (inr (spelled, f)) = absurd (spelled_bad o a spelled bad)
    go (inr (spelled, e)) (inl (f, bad)) = absurd (spelled_bad o b spelled bad)
    go (inr (spelled, (s, e, least))) (inr (spelled', (t, f, other))) =
        let one = one_least o a b s t least other in (omega (arith, e, f, one.rule), one.place)

pub one_verdict : (o : Object) (u v : Verdict) → IsVerdict o u → IsVerdict o v → SameVerdict u v
one_verdict o (Accepted m) (Accepted n) x y = λ at. ((λ h. (y.units at).1 ((x.units at).0 h)), (λ h. (x.units at).1 ((y.units at).0 h)))
one_verdict o (Accepted m) (Refused s b) x (at, e, y) = accepted_refused o m s at x y
one_verdict o (Refused r a) (Accepted n) (at, e, x) y = accepted_refused o n r at y x
one_verdict o (Refused r a) (Refused s b) (at, e, x) (at', f, y) =
    let one = one_refusal o r s at at' x y in (one.0, omega (arith, one.1))
