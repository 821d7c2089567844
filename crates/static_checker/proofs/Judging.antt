-- The verdict from what the passes found.
use Rattle.std.proofs.Common.{◌≡◌, ℕ, ◌*◌, inl, inr, length, refl, arith}
use Rattle.code_model.specs.declared.object.Object.{Object}
use Rattle.code_model.specs.declared.rules.Rule.{Rule}
use Rattle.code_model.specs.declared.rules.Rule.TheVariants as rule
use Rattle.code_model.specs.declared.verdict.Verdict.{Verdict}
use Rattle.code_model.specs.declared.verdict.Verdict.TheVariants.{Accepted, Refused}
use Rattle.code_model.specs.Rules.{number, Refuses}
use Rattle.code_model.specs.Verdicts.{AllSpelled, IsVerdict, IsAcceptance}
use Rattle.code_model.specs.Dangers.{DangersGuarded}
use Rattle.code_laws.proofs.Refusing.{refuses_below}
use Rattle.code_laws.proofs.DangerLemmas.{accepted_guarded}
use Rattle.static_checker.specs.declared.pass.Pass.{Pass}
use Rattle.static_checker.specs.declared.refusal.Refusal.{Refusal}
use Rattle.static_checker.specs.Firsts.{IsChecked, IsFirst, NoneIn}
use Rattle.static_checker.specs.Passed.{IsWhole}

checked : (r : Rule) (o : Object) (at : ℕ) → AllSpelled o → Refuses r o at → IsChecked r
checked rule.Spelled o at spelled refused = let s = spelled at refused.start in absurd (refused.none s.instr s.words s.stands)
checked rule.Reti o at spelled refused = inl tt
checked rule.Pc o at spelled refused = inl tt
checked rule.Sp o at spelled refused = inl tt
checked rule.Sr o at spelled refused = inl tt
checked rule.Store o at spelled refused = inl tt
checked rule.Static o at spelled refused = inl tt
checked rule.Pop o at spelled refused = inl tt
checked rule.Push o at spelled refused = inl tt
checked rule.Target o at spelled refused = inr (inl refl)
checked rule.Jump o at spelled refused = inr (inr (inl refl))
checked rule.End o at spelled refused = inl tt
checked rule.Reloc o at spelled refused = inl tt
checked rule.Entry o at spelled refused = inr (inr (inr refl))

pub accepts : (o : Object) (p : Pass) → IsWhole o p → NoneIn o IsChecked 0 (length o.code) → IsVerdict o (Accepted p.units)
unfolding NoneIn
accepts o p is none = record {
  none = λ at r refused. none at r (omega arith) (refuses_below r o at refused) (checked r o at is.spelled refused) refused;
  units = is.units;
  spelled = is.spelled;
  each = is.each;
}

pub refuses_first : (o : Object) (p : Pass) (r : Refusal) (n place : ℕ) → IsWhole o p → IsFirst o IsChecked 0 (length o.code) r → n ≡ number r.rule → place ≡ 2 * r.at → IsVerdict o (Refused n place)
refuses_first o p r n place is first e at = (
  r.at,
  at,
  record {
    why = inr (
      is.spelled,
      (
        r.rule,
        e,
        record {
          refuses = first.refuses;
          first = λ b s refused. first.first b s (omega arith) (refuses_below s o b refused) (checked s o b is.spelled refused) refused;
        },
      ),
    );
  },
)

pub guards_dangers : (o : Object) (v : Verdict) → IsVerdict o v → IsAcceptance v → DangersGuarded o
guards_dangers o (Accepted m) is yes' = accepted_guarded o m is
guards_dangers o (Refused r at) is yes' = absurd yes'
