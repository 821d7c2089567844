use Rattle.std.proofs.Common.{rules}
use Rattle.edge_io.proofs.Entries.{files-created}
use Rattle.edge_io.proofs.mem_folder.MemFolderFolder.create.Goals as goal

pub returns-clause-after : goal.returns-clause-after
returns-clause-after c = search rules

pub returns-clause-created : goal.returns-clause-created
returns-clause-created c = files-created c.args.self.now c.args.name.now _ c.requires (returns-clause-after c)
