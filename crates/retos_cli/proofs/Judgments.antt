-- Why a text is refused.
use Rattle.std.proofs.Common.{◌≡◌, ℕ, ◌≤◌, List, length, Some, Err, refl}
use Rattle.code_model.specs.declared.object.Object.{Object}
use Rattle.object_form.specs.declared.fault.FormKind.{FormKind}
use Rattle.object_form.specs.Spelling.{object_bytes}
use Rattle.object_form.specs.Faults.{first_form_fault}
use Rattle.code_model.specs.Verdicts.{IsVerdict}
use Rattle.code_model.specs.declared.verdict.Verdict.TheVariants as verdict
use Rattle.asm_model.specs.declared.fault.AsmKind.{AsmKind}
use Rattle.asm_model.specs.FirstPass.{fault}
use Rattle.asm_model.specs.Assembled.{assembled}
use Rattle.trace_model.specs.Grammar.{script_of}
use Rattle.insert_model.specs.declared.fault.InsertKind.{InsertKind}
use Rattle.insert_model.specs.Faults.{IsFault}
use Rattle.retos_cli.specs.declared.purpose.Purpose.{Purpose}
use Rattle.retos_cli.specs.declared.purpose.Purpose.TheVariants.{Source, Plain, Checked, Application, Script as Scripted}
use Rattle.retos_cli.specs.declared.outcome.Why.TheVariants as why
use Rattle.retos_cli.specs.Meaning.{AsksObject, AsksCheck, Refuses, Suits}

pub refuses_unsuited : (purpose : Purpose) (o : Object) → AsksCheck purpose → length (object_bytes o) ≤ 1048576 → (Suits purpose o → ⊥) → Refuses purpose (Some (object_bytes o)) why.NotApplication
unfolding Refuses
refuses_unsuited purpose o a l n = (a, o, (refl, l), n)

pub refuses_check : (purpose : Purpose) (o : Object) (rule place : ℕ) → AsksCheck purpose → length (object_bytes o) ≤ 1048576 → Suits purpose o → IsVerdict o (verdict.Refused rule place) → Refuses purpose (Some (object_bytes o)) (why.Check rule place)
unfolding Refuses
refuses_check purpose o rule place a l s v = (a, o, (refl, l), s, v)

asks-object : (purpose : Purpose) → AsksCheck purpose → AsksObject purpose
asks-object Checked a = tt
asks-object Application a = tt
asks-object Scripted a = absurd a
asks-object Plain a = absurd a
asks-object Source a = absurd a

pub refuses_plain_form : (text : List ℕ) (kind : FormKind) (at : ℕ) → length text ≤ 1048576 → first_form_fault text ≡ Some (record { kind = kind; offset = at }) → Refuses Plain (Some text) (why.Form kind at)
unfolding Refuses
refuses_plain_form text k at l e = (tt, text, refl, l, e)

pub refuses_insert : (o : Object) (kind : InsertKind) (at : ℕ) → length (object_bytes o) ≤ 1048576 → IsFault o kind at → Refuses Plain (Some (object_bytes o)) (why.Insert kind at)
unfolding Refuses
refuses_insert o k at l f = (refl, o, (refl, l), f)

pub refuses_form : (purpose : Purpose) (text : List ℕ) (kind : FormKind) (at : ℕ) → AsksCheck purpose → length text ≤ 1048576 → first_form_fault text ≡ Some (record { kind = kind; offset = at }) → Refuses purpose (Some text) (why.Form kind at)
unfolding Refuses
refuses_form purpose text k at a l e = (asks-object purpose a, text, refl, l, e)

pub refuses_line : (source : List ℕ) (line : ℕ) (k : AsmKind) → length source ≤ 1048576 → assembled source ≡ Err (fault line k) → Refuses Source (Some source) (why.Line line k)
unfolding Refuses
refuses_line source line k l e = (refl, source, refl, l, e)

pub refuses_script : (text : List ℕ) (line : ℕ) → length text ≤ 1048576 → script_of text ≡ Err line → Refuses Scripted (Some text) (why.Script line)
unfolding Refuses
refuses_script text line l e = (refl, text, refl, l, e)
