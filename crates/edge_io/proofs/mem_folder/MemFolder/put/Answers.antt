use Rattle.std.proofs.Common.{rules}
use Rattle.edge_io.proofs.Entries.{files-with_file}
use Rattle.edge_io.proofs.mem_folder.MemFolder.put.Goals as goal

pub returns-clause-added : goal.returns-clause-added
returns-clause-added c = search rules

pub returns-clause-told : goal.returns-clause-told
returns-clause-told c =
    files-with_file c.args.self.now c.args.name.now c.args.whole.now _ (returns-clause-added c) c.requires
