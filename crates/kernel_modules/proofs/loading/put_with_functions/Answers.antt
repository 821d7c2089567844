use Rattle.std.proofs.Common.{List, ℕ}
use Rattle.kernel_model.specs.Layout.{kernel_of}
use Rattle.place_model.specs.declared.places.Regions.{Regions}
use Rattle.load_model.specs.Loading.{Loadable, Loaded, loaded_module}
use Rattle.kernel_modules.proofs.FunctionLemmas.{IsPlaced, is_placed, with_functions, module_settled, known_with}
use Rattle.kernel_modules.proofs.loading.put_with_functions.Goals as goal

pub returns-in-Ok-clause-answer : goal.returns-in-Ok-clause-answer
returns-in-Ok-clause-answer c =
    let m : List ℕ = c.args.m.now in
    let o : Loadable = record { object = c.args.o.now; units = c.args.marks.now } in
    let put = c.in-Ok.ensures.answer in
    let r : Regions = put.0 in
    let p : IsPlaced (kernel_of m) r c.in-Ok.n =
    is_placed m c.put_module.new.m o r c.in-Ok.n c.requires.of_module c.requires.settled put.3 put.2 in (
      r,
      put.1,
      put.2,
      with_functions m c.put_module.new.m c.put_functions.new.m o r c.in-Ok.n c.tables_stand_apart.ensures.last c.is_flat.ensures.size
          c.is_flat-in-Ok.ensures.size p put.3 c.put_functions.ensures,
    )

pub returns-in-Ok-clause-known : goal.returns-in-Ok-clause-known
returns-in-Ok-clause-known c =
    let m : List ℕ = c.args.m.now in
    let o : Loadable = record { object = c.args.o.now; units = c.args.marks.now } in
    let put = c.in-Ok.ensures.answer in
    let p : IsPlaced (kernel_of m) put.0 c.in-Ok.n =
    is_placed m c.put_module.new.m o put.0 c.in-Ok.n c.requires.of_module c.requires.settled put.3 put.2 in
    let l : Loaded m c.put_functions.new.m (loaded_module (kernel_of m) o.object put.0) o put.0 =
    with_functions m c.put_module.new.m c.put_functions.new.m o put.0 c.in-Ok.n c.tables_stand_apart.ensures.last c.is_flat.ensures.size
    c.is_flat-in-Ok.ensures.size p put.3 c.put_functions.ensures in
    known_with m c.put_functions.new.m o put.0 c.in-Ok.n p l

pub returns-in-Ok-clause-settled : goal.returns-in-Ok-clause-settled
returns-in-Ok-clause-settled c =
    let m : List ℕ = c.args.m.now in
    let o : Loadable = record { object = c.args.o.now; units = c.args.marks.now } in
    let put = c.in-Ok.ensures.answer in
    let p : IsPlaced (kernel_of m) put.0 c.in-Ok.n =
    is_placed m c.put_module.new.m o put.0 c.in-Ok.n c.requires.of_module c.requires.settled put.3 put.2 in
    module_settled m c.put_functions.new.m o put.0 c.loaded_is_settled.ensures.whole c.requires.of_module c.requires.settled put.1
    (with_functions m c.put_module.new.m c.put_functions.new.m o put.0 c.in-Ok.n c.tables_stand_apart.ensures.last c.is_flat.ensures.size
    c.is_flat-in-Ok.ensures.size p put.3 c.put_functions.ensures)

pub returns-in-Ok-clause-lowest : goal.returns-in-Ok-clause-lowest
returns-in-Ok-clause-lowest c =
    let m : List ℕ = c.args.m.now in
    let o : Loadable = record { object = c.args.o.now; units = c.args.marks.now } in
    let put = c.in-Ok.ensures.lowest in
    let p : IsPlaced (kernel_of m) put.0 c.in-Ok.n =
    is_placed m c.put_module.new.m o put.0 c.in-Ok.n c.requires.of_module c.requires.settled put.3 put.1 in (
      put.0,
      put.1,
      put.2,
      with_functions m c.put_module.new.m c.put_functions.new.m o put.0 c.in-Ok.n c.tables_stand_apart.ensures.last c.is_flat.ensures.size
          c.is_flat-in-Ok.ensures.size p put.3 c.put_functions.ensures,
    )
