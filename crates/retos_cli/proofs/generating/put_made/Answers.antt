use Rattle.std.proofs.Common.{ℕ, List, ◌++◌, refl, ap, subst, ◌∙◌}
use Rattle.edge_io.specs.Known.{put}
use Rattle.trace_model.specs.Grammar.{empty_script}
use Rattle.retos_cli.specs.Meaning.{generated_run}
use Rattle.retos_cli.specs.Writing.{LineCut}
use Rattle.retos_cli.proofs.Generated.{object_alone, units_alone, first_is, gen_done, gen_cut}
use Rattle.retos_cli.proofs.generating.put_made.Goals as goal

pub returns-in-Ok : goal.returns-in-Ok
returns-in-Ok g c =
    let m = c.requires.made in
    let f0 = g.F.Folder.state c.args.files.now in
    gen_done c.args.seed c.args.to.now c.args.made.now m f0 (g.F.Folder.state c.put_lines.new.files) (g.O.Sink.state c.args.out.now) (g.O.Sink.state c.put_lines.new.out) c.line_for-first.result c.line-last.result
    (c.line_for-first.ensures ∙ first_is c.args.seed c.args.to.now c.args.made.now m c.args.made.now.source_words c.object.result.now c.marks.result.now refl
    (object_alone c.args.made.now.objects m.object c.object.result.now c.object.ensures.0 m.alone c.object.ensures.1)
    (units_alone c.args.made.now.objects m.object c.marks.ensures.0 c.marks.result.now m.alone c.marks.ensures.1))
    (c.line-last.ensures empty_script (generated_run m.ran.system) m.ran.ends) c.faults_of.result c.faults_of.ensures
    (c.in-Ok.ensures.0 ∙ ap (λ (x : List ℕ). put f0.files c.args.to.now x) c.as_slice.ensures) c.in-Ok.ensures.1

pub returns-in-Err : goal.returns-in-Err
returns-in-Err g c =
    let m = c.requires.made in
    let P : List ℕ → Type 0 = λ x. LineCut (g.F.Folder.state c.args.files.now) (g.F.Folder.state c.put_lines.new.files) (g.O.Sink.state c.args.out.now) (g.O.Sink.state c.put_lines.new.out) c.args.to.now x (c.line_for-first.result ++ c.line-last.result) in
    gen_cut c.args.seed c.args.to.now c.args.made.now m (g.F.Folder.state c.args.files.now) (g.F.Folder.state c.put_lines.new.files) (g.O.Sink.state c.args.out.now) (g.O.Sink.state c.put_lines.new.out) c.line_for-first.result c.line-last.result
    (c.line_for-first.ensures ∙ first_is c.args.seed c.args.to.now c.args.made.now m c.args.made.now.source_words c.object.result.now c.marks.result.now refl
    (object_alone c.args.made.now.objects m.object c.object.result.now c.object.ensures.0 m.alone c.object.ensures.1)
    (units_alone c.args.made.now.objects m.object c.marks.ensures.0 c.marks.result.now m.alone c.marks.ensures.1))
    (c.line-last.ensures empty_script (generated_run m.ran.system) m.ran.ends) (subst P c.as_slice.ensures c.in-Err.ensures)
