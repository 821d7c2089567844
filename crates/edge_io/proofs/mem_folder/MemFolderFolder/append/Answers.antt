use Rattle.std.proofs.Common.{rules, Ok, Err}
use Rattle.edge_io.specs.declared.folder.WriteErr.{WriteErr}
use Rattle.edge_io.specs.declared.folder.WriteErr.TheVariants.{Failed}
use Rattle.edge_io.proofs.Entries.{files-appended}
use Rattle.edge_io.proofs.mem_folder.MemFolderFolder.append.Goals as goal

pub returns-then-has_call-clause-after : goal.returns-then-has_call-clause-after
returns-then-has_call-clause-after c = search rules

pub returns-then-has_call-clause-files : goal.returns-then-has_call-clause-files
returns-then-has_call-clause-files c =
    files-appended {E = WriteErr} c.args.self.now c.args.name.now c.args.piece.now (Err Failed) _ c.requires (returns-then-has_call-clause-after c)

pub returns-clause-after : goal.returns-clause-after
returns-clause-after c = search rules

pub returns-clause-files : goal.returns-clause-files
returns-clause-files c =
    files-appended {E = WriteErr} c.args.self.now c.args.name.now c.args.piece.now (Ok c.count_taken-taken.result) _ c.requires (returns-clause-after c)
