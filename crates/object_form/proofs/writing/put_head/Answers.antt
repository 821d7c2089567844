use Rattle.std.proofs.lemmas.Result.{on_ok_weaker}
use Rattle.object_form.specs.Spelling.{start_bytes, size_bytes, run_bytes}
use Rattle.code_model.specs.Fields.{fields}
use Rattle.object_form.proofs.Appending.{joined_three}
use Rattle.object_form.proofs.writing.put_head.Goals as goal

pub returns : goal.returns
returns c =
    let f = fields c.args.o.now in
    on_ok_weaker c.put_run.result
    (λ ended. joined_three c.args.out.now (start_bytes f) (size_bytes f) (run_bytes f) c.put_start.new.out c.put_sizes.new.out c.put_run.new.out c.in_ok-put_start.ensures c.in_ok-put_sizes.ensures ended)
    c.put_run.ensures
