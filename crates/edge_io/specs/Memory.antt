-- The forms in memory.
use Rattle.std.specs.Prelude.{◌≡◌, ℕ, ◌+◌, ◌-◌, ◌^◌, ◌==◌, ◌&&◌, min, max, Bool, true, false, nat_lt, List, [], ◌∷◌, ◌++◌, length, is_err, take, drop, Some, None, Ok, Err, if◌then◌else◌}
use Rattle.std.specs.declared.option.Option.{Option}
use Rattle.std.specs.declared.result.Result.{Result}
use Rattle.std.specs.Prelude.{bytes_eq}
use Rattle.std.proofs.Common.{ap, cond, ◌∙◌}
use Rattle.std.specs.Ordering.{nat_cmp, eq_by_cmp}
use Rattle.std.specs.Cmp.{eq_by_cmp_equiv}
use Rattle.std.specs.Cmp.Lexicographic.{slice_cmp, nat_list_cmp_total}
use Rattle.std.specs.FinMap.{find, from_entries, get, get-insert}
use Rattle.edge_io.specs.declared.folder.ReadErr.{ReadErr}
use Rattle.edge_io.specs.declared.folder.ReadErr.TheVariants.{Absent, Failed}
use Rattle.edge_io.specs.Causes.{read_failed}
use Rattle.edge_io.specs.Turns.{FolderCall, read_call, create_call, append_call}
use Rattle.edge_io.specs.Known.{Files, FolderState, SinkState, taken, HoldsCreated}

-- a sink in memory: its bytes, its room, the calls that fail or take nothing, the number of the next call and of the faults
pub record MemSinkState : Type 0 where
  pub bytes : List ℕ
  pub room : ℕ
  pub fail : List ℕ
  pub none : List ℕ
  pub calls : ℕ
  pub faults : ℕ

-- a count of 64 bits, one more
abbrev pub one_up : ℕ → ℕ
one_up n = max n (min (n + 1) (2 ^ 64 - 1))

-- a write failed, or took nothing of a piece that has bytes
abbrev pub is_fault : {E : Type 0} → Result ℕ E → List ℕ → Bool
is_fault (Err e) piece = true
is_fault (Ok n) piece = (n == 0) && nat_lt 0 (length piece)

-- how much of a piece is taken, with this room left
abbrev pub count_taken : Bool → ℕ → List ℕ → ℕ
count_taken none left piece = if none then 0 else min (length piece) left

-- what a write answers, by whether it fails, whether it is to take nothing, and the room left
abbrev pub WriteAnswer : {E : Type 0} → Result ℕ E → Bool → Bool → ℕ → List ℕ → Type 0
WriteAnswer (Err e) fails none left piece = fails ≡ true
WriteAnswer (Ok n) fails none left piece = (fails ≡ false) × (n ≡ count_taken none left piece)

-- the sink that it means
abbrev pub sink_state : MemSinkState → SinkState
sink_state s = record { bytes = Some s.bytes; faults = s.faults }

-- the sink after a write
abbrev pub after_write : {E : Type 0} → MemSinkState → Result ℕ E → List ℕ → MemSinkState
after_write s result piece = record {
  bytes = s.bytes ++ taken result piece;
  room = s.room;
  fail = s.fail;
  none = s.none;
  calls = one_up s.calls;
  faults = (if is_fault result piece then one_up s.faults else s.faults);
}

-- A folder in memory: the created file's bytes and the other files, the room of the created file,
-- the calls that fail or take nothing, the numbers of the next calls and of the faults, the last failed and the created name.
pub record MemFolderState : Type 0 where
  pub written : List ℕ
  pub others : List (List ℕ × List ℕ)
  pub room : ℕ
  pub fail_reads : List ℕ
  pub fail_writes : List ℕ
  pub none : List ℕ
  pub reads : ℕ
  pub writes : ℕ
  pub read_faults : ℕ
  pub write_faults : ℕ
  pub last_failed : Option (List ℕ)
  pub created : Option (List ℕ)

-- what the first entry of this name holds
abbrev pub found : List (List ℕ × List ℕ) → List ℕ → Option (List ℕ)
found held_files name = find (slice_cmp nat_cmp) name held_files

-- the created file stands before the others
abbrev pub with_created : Option (List ℕ) → List ℕ → List (List ℕ × List ℕ) → List (List ℕ × List ℕ)
with_created None bytes others = others
with_created (Some name) bytes others = (name, bytes) ∷ others

abbrev pub held_files : MemFolderState → List (List ℕ × List ℕ)
held_files s = with_created s.created s.written s.others

abbrev pub folder_state : MemFolderState → FolderState
folder_state s = record {
  files = Some (from_entries (held_files s));
  read_faults = s.read_faults;
  write_faults = s.write_faults;
  last_failed = s.last_failed;
  created = s.created;
}

-- the files that it tells
abbrev pub files_of : MemFolderState → Files
files_of s = from_entries (held_files s)

-- a folder without files
abbrev pub empty_folder : ℕ → List ℕ → List ℕ → List ℕ → MemFolderState
empty_folder room fail_reads fail_writes none = record {
  written = [];
  others = [];
  room = room;
  fail_reads = fail_reads;
  fail_writes = fail_writes;
  none = none;
  reads = 0;
  writes = 0;
  read_faults = 0;
  write_faults = 0;
  last_failed = None;
  created = None;
}

-- the folder with one more file, which isn't the created one
abbrev pub with_file : MemFolderState → List ℕ → List ℕ → MemFolderState
with_file s name whole = record s { others = s.others ++ (name, whole) ∷ [] }

-- there is a created name, and it is this one
abbrev pub names_created : Option (List ℕ) → List ℕ → Bool
names_created None name = false
names_created (Some created) name = bytes_eq name created

-- what a read answers, by what the name holds
abbrev pub read_answer : Option (List ℕ) → Bool → ℕ → ℕ → Result ℕ ReadErr
read_answer None fails at room = Err Absent
read_answer (Some bytes) true at room = Err Failed
read_answer (Some bytes) false at room = Ok (min room (length bytes - at))

-- the bytes that a read gave
abbrev pub HasGiven : Option (List ℕ) → ℕ → List ℕ → Result ℕ ReadErr → Type 0
HasGiven None at into result = Unit {0}
HasGiven (Some bytes) at into (Ok n) = take n into ≡ take n (drop at bytes)
HasGiven (Some bytes) at into (Err e) = Unit {0}

abbrev pub up_if : Bool → ℕ → ℕ
up_if b n = if b then one_up n else n

abbrev pub after_read : MemFolderState → List ℕ → Bool → MemFolderState
after_read s name failed = record s {
  reads = one_up s.reads;
  read_faults = up_if failed s.read_faults;
  last_failed = (if failed then Some name else s.last_failed);
}

abbrev pub after_create : MemFolderState → List ℕ → Bool → MemFolderState
after_create s name failed = record s {
  written = (if failed then s.written else []);
  writes = one_up s.writes;
  write_faults = up_if failed s.write_faults;
  created = (if failed then s.created else Some name);
}

abbrev pub after_append : {E : Type 0} → MemFolderState → Result ℕ E → List ℕ → MemFolderState
after_append s result piece = record s {
  written = s.written ++ taken result piece;
  writes = one_up s.writes;
  write_faults = up_if (is_fault result piece) s.write_faults;
}

-- what a call does to the folder
abbrev pub FollowsCall : MemFolderState → FolderCall → MemFolderState → Type 0
FollowsCall s (read_call name at answer) t = t ≡ after_read s name (read_failed answer)
FollowsCall s (create_call name answer) t = t ≡ after_create s name (is_err answer)
FollowsCall s (append_call name piece answer) t = t ≡ after_append s answer piece

tied_itself : (b : Bool) (x y : Option (List ℕ)) → b ≡ true → cond b x y ≡ x
tied_itself b x y e = ap (λ c. cond c x y) e

-- the created file is held
pub holds_created : (s : MemFolderState) → HoldsCreated (folder_state s).files (folder_state s).created
holds_created s = by_created s.created s.written s.others
  where
    by_created : (created : Option (List ℕ)) (written : List ℕ) (others : List (List ℕ × List ℕ)) → HoldsCreated (Some (from_entries (with_created created written others))) created
    by_created None written others = tt
    by_created (Some name) written others =
        (written, get-insert nat_list_cmp_total (from_entries others) name written name ∙ tied_itself (eq_by_cmp (slice_cmp nat_cmp) name name) (Some written) (get (from_entries others) name) ((eq_by_cmp_equiv nat_list_cmp_total).refl name))
