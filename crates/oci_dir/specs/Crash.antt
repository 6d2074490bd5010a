-- What a crash may leave of the files of a directory. It leaves at each path one of the outcomes that
-- the device has there. A crash within a call leaves one that the device has before the call or after
-- it.
use Rattle.std.specs.Prelude.{◌≡◌, ◌↔◌, ◌⊎◌, ℕ, List, false, true, Option, Some, Result, IsSome, OnOk, IsErrOf}
use Rattle.std.specs.List.{All}
use Rattle.std.specs.Str.{bytes_eq}
use Rattle.oci_dir.specs.Device.{Device, File, Puts, Same, AfterPuts}
use Rattle.oci_dir.specs.declared.fault.DirFault.{DirFault}
use Rattle.oci_dir.specs.declared.fault.DirFault.TheVariants as dir

-- ---- one file

-- a crash leaves no more of the file at the path than before
abbrev pub NoMoreAt : Device → Device → List ℕ → Type 0
NoMoreAt old new path = (left : Option (List ℕ)) → new.may_leave path left → old.may_leave path left

-- a crash leaves no more of any file than before
abbrev pub NoMore : Device → Device → Type 0
NoMore old new = (q : List ℕ) → NoMoreAt old new q

-- a crash leaves no more than before of any file but the one at the path
abbrev pub NoMoreBut : Device → Device → List ℕ → Type 0
NoMoreBut old new path = (q : List ℕ) → bytes_eq path q ≡ false → NoMoreAt old new q

-- a crash leaves of the file at the path what it could leave before, or these bytes, never a part
abbrev pub OldOrNew : Device → Device → List ℕ → List ℕ → Type 0
OldOrNew old new path bytes = (left : Option (List ℕ)) → new.may_leave path left → old.may_leave path left ⊎ (left ≡ Some bytes)

-- a crash leaves the file at the path as it is among these files
abbrev pub StaysAt : Device → File → List ℕ → Type 0
StaysAt dir file path = (left : Option (List ℕ)) → dir.may_leave path left → left ≡ file path

-- a crash leaves the file at the path as it is now
abbrev pub IsSettled : Device → List ℕ → Type 0
IsSettled dir path = StaysAt dir dir.file path

-- ---- the calls of a directory

-- after drafted bytes were kept, whatever the result: a crash leaves no more of any other file. If
-- there was a file at the path, it leaves what it could leave, or the drafted bytes; otherwise
-- anything may be left there
pub record LeavesPut (old new : Device) (path : List ℕ) (drafted : List ℕ → Type 0) : Type 0 where
  pub other : NoMoreBut old new path
  pub over : IsSome (old.file path) → (bytes : List ℕ) → drafted bytes → OldOrNew old new path bytes

-- the effect of a replacement of a file's bytes, by its result
pub record IsReplaced (old new : Device) (path bytes : List ℕ) (answer : Result Unit DirFault) : Type 0 where
  -- the file has the bytes, and no other file changed
  pub replaced : OnOk answer (old.is_honest → Puts old.file new.file path bytes)
  -- if memory ran out, no file changed
  pub memory : IsErrOf answer dir.Memory → old.is_honest → Same old.file new.file
  -- whatever the result, either the file has the bytes, or no file changed
  pub whole : old.is_honest → Same old.file new.file ⊎ Puts old.file new.file path bytes
  -- a crash leaves what it could leave before, or the new bytes, and no more of any other file
  pub left : old.is_honest → OldOrNew old new path bytes
  pub other : old.is_honest → NoMoreBut old new path
  -- a replacement that succeeded left no draft and removed none
  pub draft : OnOk answer (old.is_honest → Same old.draft new.draft)
  -- besides its files and drafts only the directory's count of failed puts may change
  pub device : AfterPuts old new (IsErrOf answer dir.Failed)

-- nothing changed but what a crash may leave, and that is no more than before
pub record OnlySettles (old new : Device) : Type 0 where
  pub files : old.is_honest → Same old.file new.file
  pub draft : old.is_honest → Same old.draft new.draft
  pub no_more : old.is_honest → NoMore old new
  pub honest : old.is_honest ↔ new.is_honest
  pub link : new.link ≡ old.link
  pub reads : new.fails_reads ≡ old.fails_reads
  pub failures : new.failures ≡ old.failures

-- the effect of settling some files, by its result
pub record IsSettling (old new : Device) (paths : List (List ℕ)) (answer : Result Unit DirFault) : Type 0 where
  pub only : OnlySettles old new
  pub settled : OnOk answer (old.is_honest → All (IsSettled new) paths)
  pub failed : IsErrOf answer dir.Failed → old.fails_reads ≡ true

-- a crash may leave these files
abbrev pub IsLeft : Device → File → Type 0
IsLeft dir left = (q : List ℕ) → dir.may_leave q (left q)
