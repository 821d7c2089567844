-- The folder of the system's files.
use Rattle.std.specs.Prelude.{ℕ, List, None}
use Rattle.std.specs.declared.option.Option.{Option}
use Rattle.edge_io.specs.Known.{FolderState}

-- its counts and names; what the files hold isn't told
pub record StdFolderState : Type 0 where
  pub read_faults : ℕ
  pub write_faults : ℕ
  pub last_failed : Option (List ℕ)
  pub created : Option (List ℕ)

-- no fault yet, and neither name
abbrev pub fresh_folder : StdFolderState
fresh_folder = record { read_faults = 0; write_faults = 0; last_failed = None; created = None }

-- the folder that it means
abbrev pub untold_folder : StdFolderState → FolderState
untold_folder s = record {
  files = None;
  read_faults = s.read_faults;
  write_faults = s.write_faults;
  last_failed = s.last_failed;
  created = s.created;
}
