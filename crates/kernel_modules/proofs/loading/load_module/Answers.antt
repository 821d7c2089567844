use Rattle.std.proofs.Common.{◌≡◌, ℕ, List, MatchResult, refl, sym, ◌∙◌, subst, None, Some}
use Rattle.std.specs.Prelude.{Result, Ok, Err}
use Rattle.kernel_model.specs.Layout.{kernel_of}
use Rattle.place_model.specs.declared.places.Regions.{Regions}
use Rattle.place_model.specs.declared.places.NoRoom.{NoRoom}
use Rattle.load_model.specs.Domains.{code_length, region_length}
use Rattle.load_model.specs.Loading.{Loadable, loaded_module, Loaded}
use Rattle.kernel_modules.proofs.FunctionLemmas.{module_places}
use Rattle.kernel_modules.proofs.TakenLemmas.{taken_refusal, untaken_refusal, untaken_where}
use Rattle.kernel_modules.proofs.loading.load_module.Goals as goal

pub returns-in-Some-clause-answer : goal.returns-in-Some-clause-answer
returns-in-Some-clause-answer c = (
  module_places (kernel_of c.args.m.now) c.args.o.now (Some c.in-Some.number) c.requires.of_module c.in-Some.ensures
      ∙ c.cause_where_taken.ensures (code_length c.args.o.now) (region_length c.args.o.now),
  refl,
)

pub returns-in-None-clause-answer : goal.returns-in-None-clause-answer
returns-in-None-clause-answer c =
    let m : List ℕ = c.args.m.now in
    let m1 : List ℕ = c.put_with_functions.new.m in
    let o : Loadable = record { object = c.args.o.now; units = c.args.marks.now } in
    subst (λ (p : Result Regions NoRoom). MatchResult c.put_with_functions.result
    (λ n. (r : Regions) × (p ≡ Ok r) × (r.dom ≡ n) × Loaded m m1 (loaded_module (kernel_of m) o.object r) o r) (λ e. (p ≡ Err e) × (m1 ≡ m)))
    (sym (module_places (kernel_of m) o.object None c.requires.of_module c.in-None.ensures)) c.put_with_functions.ensures.answer

pub returns-in-Some-clause-cause : goal.returns-in-Some-clause-cause
returns-in-Some-clause-cause c =
    taken_refusal (kernel_of c.args.m.now) c.args.o.now c.in-Some.number c.cause_where_taken.result c.placings_are_lowest.ensures.lowest
    c.placings_are_lowest.ensures.refused c.numbers_are_least.ensures c.in-Some.ensures
    (c.cause_where_taken.ensures (code_length c.args.o.now) (region_length c.args.o.now))

pub returns-in-None-clause-untaken : goal.returns-in-None-clause-untaken
returns-in-None-clause-untaken c = untaken_where (kernel_of c.args.m.now) c.args.o.now c.put_with_functions.result c.in-None.ensures

pub returns-in-None-clause-cause : goal.returns-in-None-clause-cause
returns-in-None-clause-cause c =
    untaken_refusal (kernel_of c.args.m.now) c.args.o.now c.put_with_functions.result c.in-None.ensures c.put_with_functions.ensures.cause
