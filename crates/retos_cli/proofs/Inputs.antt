-- One input: what its read answers, and its text.
use Rattle.std.proofs.Common.{◌≡◌, ℕ, ◌≤◌, List, length, Some, None, Ok, Err, refl, ap, sym, subst, ◌∙◌, Bool}
use Rattle.std.specs.declared.option.Option.{Option}
use Rattle.edge_io.specs.Known.{Files, FolderState, Answers, AnswersOf, held}
use Rattle.edge_io.specs.Causes.{ReadLeaves, input_failed}
use Rattle.edge_io.specs.declared.whole.InputFault.{InputFault}
use Rattle.edge_io.specs.declared.whole.InputFault.TheVariants as fault
use Rattle.code_model.specs.declared.object.Object.{Object}
use Rattle.code_model.specs.Fields.{fields}
use Rattle.asm_model.specs.declared.fault.AsmKind.{AsmKind}
use Rattle.asm_model.specs.declared.fault.AsmFault.{AsmFault}
use Rattle.asm_model.specs.declared.fault.AsmFault.TheVariants.{At}
use Rattle.asm_model.specs.Assembled.{assembled, GivesObject}
use Rattle.retos_cli.specs.declared.purpose.Purpose.TheVariants.{Source}
use Rattle.retos_cli.proofs.Judgments.{refuses_line}
use Rattle.retos_cli.specs.declared.purpose.Purpose.{Purpose}
use Rattle.retos_cli.specs.declared.outcome.Why.{Why}
use Rattle.retos_cli.specs.declared.outcome.Why.TheVariants as why
use Rattle.retos_cli.specs.Meaning.{Taken, Assembles, Refuses}
use Rattle.retos_cli.specs.declared.outcome.Stop.{Stop}
use Rattle.retos_cli.specs.Judging.{stop_of}
use Rattle.retos_cli.specs.Ends.{Told, RefusesInput, OnlyRead, InputStops, IsHeld}

pub holds : (h : Option (List ℕ)) (bytes : List ℕ) → Answers h (Ok bytes) → Some bytes ≡ h
holds None bytes a = absurd a
holds (Some all) bytes a = ap (λ (x : List ℕ). Some x) a.0

absent : (h : Option (List ℕ)) → Answers h (Err fault.Absent) → h ≡ None
absent None a = refl
absent (Some all) a = absurd a

too-long : (purpose : Purpose) (h : Option (List ℕ)) → Answers h (Err fault.TooLong) → Refuses purpose h why.TooLong
unfolding Refuses
too-long purpose None a = absurd a
too-long purpose (Some all) a = (all, refl, a)

refuses-absent : (purpose : Purpose) (h : Option (List ℕ)) → h ≡ None → Refuses purpose h why.Absent
unfolding Refuses
refuses-absent purpose h e = e

pub taken_told : (files : Option Files) (name bytes text : List ℕ) (purpose : Purpose) (o : Object) (units : List ℕ) → AnswersOf files name (Ok bytes) → text ≡ bytes → Taken purpose (Some text) o units
    → Told files (λ m. Taken purpose (held m name) o units)
taken_told None name bytes text purpose o units a e t = tt
taken_told (Some m) name bytes text purpose o units a e t =
    let P : Option (List ℕ) → Type 0 = λ h. Taken purpose h o units in
    subst P (ap (λ (x : List ℕ). Some x) e ∙ holds (held m name) bytes a) t

pub refused_told : (files : Option Files) (name bytes text : List ℕ) (purpose : Purpose) (w : Why) → AnswersOf files name (Ok bytes) → text ≡ bytes → Refuses purpose (Some text) w
    → Told files (λ m. RefusesInput m (record { name = name; purpose = purpose }) (record { name = name; why = w }))
refused_told None name bytes text purpose w a e t = tt
refused_told (Some m) name bytes text purpose w a e t =
    let P : Option (List ℕ) → Type 0 = λ h. Refuses purpose h w in
    record { name_is = refl; refuses = subst P (ap (λ (x : List ℕ). Some x) e ∙ holds (held m name) bytes a) t }

absent-by : (files : Option Files) (name : List ℕ) (purpose : Purpose) → AnswersOf files name (Err fault.Absent)
    → Told files (λ m. RefusesInput m (record { name = name; purpose = purpose }) (record { name = name; why = why.Absent }))
absent-by None name purpose a = tt
absent-by (Some m) name purpose a = record { name_is = refl; refuses = refuses-absent purpose (held m name) (absent (held m name) a) }

long-by : (files : Option Files) (name : List ℕ) (purpose : Purpose) → AnswersOf files name (Err fault.TooLong)
    → Told files (λ m. RefusesInput m (record { name = name; purpose = purpose }) (record { name = name; why = why.TooLong }))
long-by None name purpose a = tt
long-by (Some m) name purpose a = record { name_is = refl; refuses = too-long purpose (held m name) a }

held-some : (h : Option (List ℕ)) → Answers h (Err fault.Failed) → (bytes : List ℕ) × (h ≡ Some bytes)
held-some None a = absurd a
held-some (Some all) a = (all, refl)

held-by : (files : Option Files) (name : List ℕ) → AnswersOf files name (Err fault.Failed) → Told files (λ m. IsHeld m name)
held-by None name a = tt
held-by (Some m) name a = held-some (held m name) a

pub unread_stops : (f0 f1 : FolderState) (name : List ℕ) (purpose : Purpose) (e : InputFault) (s : Stop) → AnswersOf f0.files name (Err e) → ReadLeaves f0 f1 name (input_failed {T = List ℕ} (Err e)) → s ≡ stop_of name e
    → InputStops f0 f1 (record { name = name; purpose = purpose }) s
unread_stops f0 f1 name purpose e s a r w = let P : Stop → Type 0 = λ t. InputStops f0 f1 (record { name = name; purpose = purpose }) t in subst P (sym w) (unread-by f0 f1 name purpose e a r)
  where
    unread-by : (f0 f1 : FolderState) (name : List ℕ) (purpose : Purpose) (e : InputFault) → AnswersOf f0.files name (Err e) → ReadLeaves f0 f1 name (input_failed {T = List ℕ} (Err e)) → InputStops f0 f1 (record { name = name; purpose = purpose }) (stop_of name e)
    unread-by f0 f1 name purpose fault.Absent a r = absent-by f0.files name purpose a
    unread-by f0 f1 name purpose fault.TooLong a r = long-by f0.files name purpose a
    unread-by f0 f1 name purpose fault.Failed a r = record { name_is = refl; is_held = held-by f0.files name a; rose = r.rose refl; last = r.last }
    unread-by f0 f1 name purpose fault.Memory a r = tt

pub assembled_told : (files : Option Files) (name bytes text : List ℕ) (o : Object) → AnswersOf files name (Ok bytes) → text ≡ bytes → length bytes ≤ 1048576 → assembled text ≡ Ok (fields o) → Told files (λ m. Assembles (held m name) o)
assembled_told None name bytes text o a e l g = tt
assembled_told (Some m) name bytes text o a e l g =
    let P : List ℕ → Type 0 = λ t. assembled t ≡ Ok (fields o) in
    record { source = bytes; held_is = sym (holds (held m name) bytes a); short = l; gives = subst P e g }

line-refused : (files : Option Files) (name bytes text : List ℕ) (line : ℕ) (k : AsmKind) → AnswersOf files name (Ok bytes) → text ≡ bytes → length bytes ≤ 1048576 → GivesObject text (Err (At line k))
    → Told files (λ m. RefusesInput m (record { name = name; purpose = Source }) (record { name = name; why = why.Line line k }))
line-refused files name bytes text line k a e l g =
    let P : List ℕ → Type 0 = λ t. length t ≤ 1048576 in
    refused_told files name bytes text Source (why.Line line k) a e (refuses_line text line k (subst P (sym e) l) g)

pub line_told : (files : Option Files) (name named bytes text : List ℕ) (line : ℕ) (k : AsmKind) (f : AsmFault) → AnswersOf files name (Ok bytes) → text ≡ bytes → length bytes ≤ 1048576 → GivesObject text (Err f) → f ≡ At line k → named ≡ name
    → Told files (λ m. RefusesInput m (record { name = name; purpose = Source }) (record { name = named; why = why.Line line k }))
line_told files name named bytes text line k f a e l g w n =
    let P : AsmFault → Type 0 = λ x. GivesObject text (Err x) in
    let Q : List ℕ → Type 0 = λ x. Told files (λ m. RefusesInput m (record { name = name; purpose = Source }) (record { name = x; why = why.Line line k })) in
    subst Q (sym n) (line-refused files name bytes text line k a e l (subst P w g))

pub only_read : (f g : FolderState) (name : List ℕ) (b : Bool) → ReadLeaves f g name b → OnlyRead f g
only_read f g name b r = record { later = r.later; files = r.files; writes = r.writes; created = r.created }
