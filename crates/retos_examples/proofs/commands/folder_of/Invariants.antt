use Rattle.std.proofs.Common.{◌≡◌, None}
use Rattle.retos_examples.proofs.commands.folder_of.Given as goal

abbrev pub invariant-loop-name : goal.invariant-loop-name
invariant-loop-name l = l.files.created ≡ None
