use Rattle.retos_cli.specs.Words.{word}
use Rattle.retos_cli.proofs.Named.{the_word}
use Rattle.retos_cli.proofs.Gathering.{line_is}
use Rattle.retos_cli.proofs.checking.line_at.Goals as goal

pub returns : goal.returns
returns c =
    line_is c.args.objects.now c.args.at (word c.args.names.now c.args.at) c.at.result.now (record { object = c.object-object.result.now; units = c.object-object.ensures.0 })
    (record { object = c.marks.ensures.0; units = c.marks.result.now }) c.count_words.result c.count_units.result c.of_accepted.result c.object-object.ensures.1 c.marks.ensures.1 (the_word c.args.names.now c.args.at c.at.result.now c.at.ensures)
    c.count_words.ensures c.count_units.ensures c.of_accepted.ensures
