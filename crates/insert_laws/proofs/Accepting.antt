-- Objects with guards are accepted.
use Rattle.std.proofs.Common.{ℕ, inl, inr}
use Rattle.code_model.specs.declared.object.Object.{Object}
use Rattle.code_model.specs.declared.rules.Rule.{Rule}
use Rattle.code_model.specs.declared.rules.Rule.TheVariants as rule
use Rattle.code_model.specs.declared.verdict.Verdict.TheVariants.{Accepted, Refused}
use Rattle.code_model.specs.Verdicts.{IsRefused}
use Rattle.insert_model.specs.Faults.{IsInserted}
use Rattle.insert_laws.specs.Laws.{FormRulesPass, EntryRulePasses, TargetRulePasses, EndRulePasses, JumpRulePasses, NothingRefused, VerdictAccepts}

pub nothing : FormRulesPass → EntryRulePasses → TargetRulePasses → EndRulePasses → JumpRulePasses → NothingRefused
nothing form entry target end jump o q i at rule.Spelled h = form o q i rule.Spelled at tt h
nothing form entry target end jump o q i at rule.Reti h = form o q i rule.Reti at tt h
nothing form entry target end jump o q i at rule.Pc h = form o q i rule.Pc at tt h
nothing form entry target end jump o q i at rule.Sp h = form o q i rule.Sp at tt h
nothing form entry target end jump o q i at rule.Sr h = form o q i rule.Sr at tt h
nothing form entry target end jump o q i at rule.Store h = form o q i rule.Store at tt h
nothing form entry target end jump o q i at rule.Static h = form o q i rule.Static at tt h
nothing form entry target end jump o q i at rule.Pop h = form o q i rule.Pop at tt h
nothing form entry target end jump o q i at rule.Push h = form o q i rule.Push at tt h
nothing form entry target end jump o q i at rule.Target h = target o q i at h
nothing form entry target end jump o q i at rule.Jump h = jump o q i at h
nothing form entry target end jump o q i at rule.End h = end o q i at h
nothing form entry target end jump o q i at rule.Reloc h = form o q i rule.Reloc at tt h
nothing form entry target end jump o q i at rule.Entry h = entry o q i at h

not_refused : NothingRefused → (o q : Object) → IsInserted o q → (r at : ℕ) → IsRefused q r at → ⊥
not_refused none o q i r at w = elim w.why [ inl a ↦ none o q i at rule.Spelled a.1 | inr b ↦ let s : Rule = b.1.0 in none o q i at s b.1.2.refuses ]

pub accepts : NothingRefused → VerdictAccepts
accepts none o q i (Accepted marks) v = tt
accepts none o q i (Refused r place) v = not_refused none o q i r v.0 v.2
