use Rattle.retos_cli.specs.Commands.{command_of}
use Rattle.retos_cli.specs.Clauses.{call_of}
use Rattle.retos_cli.proofs.Clausal.{output_clause, one_answer_clause, refused_clause, read_fault_clause, no_memory_clause, write_fault_clause, complete_clause, no_command_clause}
use Rattle.retos_cli.proofs.Confining.{confined_clause}
use Rattle.retos_cli.proofs.top.retos.Goals as goal

pub returns-clause-output : goal.returns-clause-output
returns-clause-output g c =
    output_clause (g.F.Folder.state c.args.files.now) (g.F.Folder.state c.run-outcome.new.files) (g.O.Sink.state c.args.out.now) (g.O.Sink.state c.run-outcome.new.out) (g.E.Sink.state c.args.err.now) (g.E.Sink.state c.report.new.err)
    (command_of c.args.words.now) c.run-outcome.result c.report.result c.run-outcome.ensures c.report.ensures c.words_have_one_answer.ensures

pub returns-clause-refused : goal.returns-clause-refused
returns-clause-refused g c =
    refused_clause (g.F.Folder.state c.args.files.now) (g.F.Folder.state c.run-outcome.new.files) (g.O.Sink.state c.args.out.now) (g.O.Sink.state c.run-outcome.new.out) (g.E.Sink.state c.args.err.now) (g.E.Sink.state c.report.new.err)
    (command_of c.args.words.now) c.run-outcome.result c.report.result c.run-outcome.ensures c.report.ensures

pub returns-clause-read_fault : goal.returns-clause-read_fault
returns-clause-read_fault g c =
    read_fault_clause (g.F.Folder.state c.args.files.now) (g.F.Folder.state c.run-outcome.new.files) (g.O.Sink.state c.args.out.now) (g.O.Sink.state c.run-outcome.new.out) (g.E.Sink.state c.args.err.now) (g.E.Sink.state c.report.new.err)
    (command_of c.args.words.now) c.run-outcome.result c.report.result c.run-outcome.ensures c.report.ensures

pub returns-clause-write_fault : goal.returns-clause-write_fault
returns-clause-write_fault g c =
    write_fault_clause (g.F.Folder.state c.args.files.now) (g.F.Folder.state c.run-outcome.new.files) (g.O.Sink.state c.args.out.now) (g.O.Sink.state c.run-outcome.new.out) (g.E.Sink.state c.args.err.now) (g.E.Sink.state c.report.new.err)
    (command_of c.args.words.now) c.run-outcome.result c.report.result c.run-outcome.ensures c.report.ensures

pub returns-clause-no_memory : goal.returns-clause-no_memory
returns-clause-no_memory g c =
    no_memory_clause (g.F.Folder.state c.args.files.now) (g.F.Folder.state c.run-outcome.new.files) (g.O.Sink.state c.args.out.now) (g.O.Sink.state c.run-outcome.new.out) (g.E.Sink.state c.args.err.now) (g.E.Sink.state c.report.new.err)
    (command_of c.args.words.now) c.run-outcome.result c.report.result c.run-outcome.ensures c.report.ensures

pub returns-clause-complete : goal.returns-clause-complete
returns-clause-complete g c =
    complete_clause (g.F.Folder.state c.args.files.now) (g.F.Folder.state c.run-outcome.new.files) (g.O.Sink.state c.args.out.now) (g.O.Sink.state c.run-outcome.new.out) (g.E.Sink.state c.args.err.now) (g.E.Sink.state c.report.new.err)
    (command_of c.args.words.now) c.run-outcome.result c.report.result c.run-outcome.ensures c.report.ensures

pub returns-clause-no_command : goal.returns-clause-no_command
returns-clause-no_command g c =
    no_command_clause (g.F.Folder.state c.args.files.now) (g.F.Folder.state c.run-outcome.new.files) (g.O.Sink.state c.args.out.now) (g.O.Sink.state c.run-outcome.new.out) (g.E.Sink.state c.args.err.now) (g.E.Sink.state c.report.new.err)
    (command_of c.args.words.now) c.run-outcome.result c.report.result c.run-outcome.ensures c.report.ensures

pub returns-clause-confined : goal.returns-clause-confined
returns-clause-confined g c = confined_clause c.booted_runs_are_sound.ensures (g.F.Folder.state c.args.files.now).files c.args.words.now

pub returns-clause-one_answer : goal.returns-clause-one_answer
returns-clause-one_answer g c =
    one_answer_clause (call_of g.F.Folder.state g.O.Sink.state g.E.Sink.state c.args.words.now c.args.files.now c.run-outcome.new.files c.args.out.now c.run-outcome.new.out c.args.err.now c.report.new.err) c.words_have_one_answer.ensures

pub returns-clause-fetched : goal.returns-clause-fetched
returns-clause-fetched g c = c.fetched_where_spelled.ensures
