-- What clauses say of a disk in memory, and of its open and sealed files.
use Rattle.std.specs.Prelude.{◌≡◌, ◌⊎◌, ℕ, true, List}
use Rattle.kv_base.specs.declared.name.FileName.{FileName}
use Rattle.kv_fakes.specs.declared.disk.MemDisk.{MemDisk}
use Rattle.kv_fakes.specs.declared.log.MemLog.{MemLog}
use Rattle.kv_fakes.specs.declared.log.MemSealed.{MemSealed}
use Rattle.kv_fakes.specs.declared.past.Change.{Change}
use Rattle.kv_fakes.specs.declared.past.ChangeKind.{ChangeKind}
use Rattle.kv_fakes.specs.Tally.{Tally}
use Rattle.kv_fakes.specs.Past.{with_change}

-- the changes of the disk, the oldest first
abbrev pub changes_of : MemDisk → List Change
changes_of disk = disk.past

-- its calls
abbrev pub disk_calls : MemDisk → Tally
disk_calls disk = disk.calls

-- an open file: its name, its bytes, and whether nothing was written or cut since a sync
abbrev pub name_in : MemLog → FileName
name_in log = log.name

abbrev pub bytes_in : MemLog → List ℕ
bytes_in log = log.bytes.items

abbrev pub IsSynced : MemLog → Type 0
IsSynced log = log.synced ≡ true

-- the bytes of a sealed file
abbrev pub sealed_in : MemSealed → List ℕ
sealed_in file = file.bytes.items

-- what a call that fails leaves of the record: this change as tried, or nothing
abbrev pub TriesChange : List Change → List Change → FileName → ChangeKind → Type 0
TriesChange old new name kind = (new ≡ old) ⊎ (new ≡ with_change old name kind)
