use Rattle.std.proofs.Common.{rules, Ok, ◌≡◌, ◌<◌, ◌++◌, length, take, arith, refl, sym, subst, ◌∙◌}
use Rattle.edge_io.specs.Turns.{Offers, no_offer, next_offer, append_call, appends, not_created, created}
use Rattle.edge_io.proofs.Progress.{file_start, file_more, file_prefix}
use Rattle.std.proofs.lemmas.List.{nil_from_length}
use Rattle.edge_io.proofs.whole.write_file.Goals as goal

pub returns-in-Ok-eq0-clause-written : goal.returns-in-Ok-eq0-clause-written
returns-in-Ok-eq0-clause-written g c =
    let short : 0 < length c.loop-rest.rest.now = search rules in
    let nothing : take c.in-Ok-eq0.field-0 c.loop-rest.rest.now ++ c.loop-rest.rest.now ≡ c.loop-rest.rest.now = grind arith in
    file_prefix _ (g.F.Folder.state c.append.new.self) _ _ _ _ (file_more _ _ _ _ _ _ _ _ c.loop-rest.invariant.before nothing c.in-Ok-eq0.ensures.files c.in-Ok-eq0.ensures.created) short refl refl

pub loop-rest-init : goal.loop-rest-init
loop-rest-init g c = record {
  before = file_start _ _ _ _ c.in-Ok.ensures.created.0 c.in-Ok.ensures.created.1;
  later = c.in-Ok.ensures.cause.later;
  leaves = c.in-Ok.ensures.leaves;
  turns = no_offer;
}

pub loop-rest-preserved : goal.loop-rest-preserved
loop-rest-preserved g c = record {
  before =
      file_more _ _ _ _ _ _ _ _ c.loop-rest.invariant.before c.past-rest.ensures.parts c.in-Ok-append.ensures.files c.in-Ok-append.ensures.created;
  later = omega (arith, c.loop-rest.invariant.later, c.in-Ok-append.ensures.cause.later);
  leaves = record {
    reads = c.in-Ok-append.ensures.leaves.reads ∙ c.loop-rest.invariant.leaves.reads;
    last = c.in-Ok-append.ensures.leaves.last ∙ c.loop-rest.invariant.leaves.last;
  };
  turns =
      subst (λ rest. Offers (appends g.F.Folder.called c.args.name.now) c.create.new.self c.args.whole.now c.append.new.self rest) (sym c.past-rest.ensures.rest) (next_offer c.loop-rest.invariant.turns c.in-Ok-append.ensures.call (omega (arith, c.in-Ok-append.n-test.1)));
}

pub returns-in-Err-Failed-clause-calls : goal.returns-in-Err-Failed-clause-calls
returns-in-Err-Failed-clause-calls g c = not_created _ c.in-Err-Failed.ensures.call refl

pub returns-in-Ok-eq0-clause-calls : goal.returns-in-Ok-eq0-clause-calls
returns-in-Ok-eq0-clause-calls g c =
    let short : 0 < length c.loop-rest.rest.now = search rules in
    created c.create.new.self c.in-Ok.ensures.call record {
      mid = c.loop-rest.files;
      rest = c.loop-rest.rest.now;
      turns = c.loop-rest.invariant.turns;
      short = short;
      last =
          subst (λ n. g.F.Folder.called c.loop-rest.files (append_call c.args.name.now c.loop-rest.rest.now (Ok n)) c.append.new.self) c.in-Ok-eq0.field-0-test c.in-Ok-eq0.ensures.call;
    }

pub returns-in-Err-Failed-append-clause-calls : goal.returns-in-Err-Failed-append-clause-calls
returns-in-Err-Failed-append-clause-calls g c =
    let short : 0 < length c.loop-rest.rest.now = search rules in
    created c.create.new.self c.in-Ok.ensures.call (
      c.in-Err-Failed-append.field-0,
      record {
        mid = c.loop-rest.files;
        rest = c.loop-rest.rest.now;
        turns = c.loop-rest.invariant.turns;
        short = short;
        last =
            subst (λ r. g.F.Folder.called c.loop-rest.files (append_call c.args.name.now c.loop-rest.rest.now r) c.append.new.self) c.in-Err-Failed-append.is c.append.ensures.call;
      },
    )

pub returns-clause-calls : goal.returns-clause-calls
returns-clause-calls g c =
    let none : length c.loop-rest.rest.now ≡ 0 = search rules in
    created c.create.new.self c.in-Ok.ensures.call (subst (λ rest. Offers (appends g.F.Folder.called c.args.name.now) c.create.new.self c.args.whole.now c.loop-rest.files rest) (nil_from_length _ none) c.loop-rest.invariant.turns)
