-- The meaning of a directory at one moment, and the effect of a put.
use Rattle.std.specs.Prelude.{◌≡◌, ◌↔◌, ◌==◌, ◌≤◌, ◌<◌, ◌⊎◌, ℕ, Bool, List, take, drop, Option, Some, None, Result, length, option_map, true, false, if◌then◌else◌, IfOk, IfErr, OnOk, IsErrOf}
use Rattle.std.specs.Str.{bytes_eq}
use Rattle.oci_store.specs.Push.{IsRaised}
use Rattle.oci_dir.specs.declared.fault.DirFault.{DirFault}
use Rattle.oci_dir.specs.declared.fault.DirFault.TheVariants as dir

-- the bytes of the file at each path, if there is one
abbrev pub File : Type 0
File = List ℕ → Option (List ℕ)

-- The meaning of a directory. Statements about its files hold only if it is honest.
pub record Device : Type 1 where
  -- the bytes of the file at each path, if there is one
  pub file : File
  -- the bytes of the draft that a killed process left at each path, if there is one; a draft is no
  -- file
  pub draft : File
  -- the path of the first folder of blobs that is a link, if one is
  pub link : Option (List ℕ)
  -- what a crash now may leave of the file at each path: its bytes, or no file
  pub may_leave : List ℕ → Option (List ℕ) → Type 0
  -- it returns the bytes that were written, and no other program writes into it
  pub is_honest : Type 0
  -- what is there now may be left, as it is where only the process ends
  pub stays : is_honest → (path : List ℕ) → may_leave path (file path)
  -- whether a read or a removal may fail with `Failed`
  pub fails_reads : Bool
  -- the number of puts that failed; it stays at the greatest `u64` once it is there
  pub failures : ℕ

-- how a read of a directory ends; `is_right` states what an honest one returns
pub record IsRead {A : Type 0} (now : Device) (is_right : A → Type 0) (answer : Result A DirFault) : Type 0 where
  pub found : IfOk answer (λ found. now.is_honest → is_right found)
  -- it fails with `Failed` only if reads may fail
  pub failed : IsErrOf answer dir.Failed → now.fails_reads ≡ true

-- how a call that only reads a directory ends: if the directory is honest, what it returns is
-- right, and each fault has its cause
pub record Finds {A E : Type 0} (now : Device) (is_right : A → Type 0) (is_cause : E → Type 0) (answer : Result A E) : Type 0 where
  pub found : IfOk answer (λ found. now.is_honest → is_right found)
  pub cause : IfErr answer is_cause

-- at most `most` of the bytes that were found, from the position `from` on
abbrev pub part_in : Option (List ℕ) → ℕ → ℕ → Option (List ℕ)
part_in found from most = option_map (λ bytes. take most (drop from bytes)) found

-- the bytes that were found, if there are this many
abbrev pub of_length : ℕ → Option (List ℕ) → Option (List ℕ)
of_length size None = None
of_length size (Some bytes) = if length bytes == size then Some bytes else None

-- the whole file was read, or enough to see that it is longer than `size`
abbrev pub IsSizedRead : Option (List ℕ) → ℕ → Option (List ℕ) → Type 0
IsSizedRead file size None = file ≡ None
IsSizedRead file size (Some bytes) = (whole : List ℕ) × (file ≡ Some whole) × ((bytes ≡ whole) ⊎ ((size < length bytes) × (size < length whole)))

-- the file at the path has these bytes now, and the others are unchanged
abbrev pub Puts : File → File → List ℕ → List ℕ → Type 0
Puts old new path bytes = (q : List ℕ) → new q ≡ (if bytes_eq path q then Some bytes else old q)

-- no file changed
abbrev pub Same : File → File → Type 0
Same old new = (q : List ℕ) → new q ≡ old q

-- no file changed but the one at the path
abbrev pub Touches : File → File → List ℕ → Type 0
Touches old new path = (q : List ℕ) → bytes_eq path q ≡ false → new q ≡ old q

-- no file changed but the ones at these two paths
abbrev pub TouchesTwo : File → File → List ℕ → List ℕ → Type 0
TouchesTwo old new path other = (q : List ℕ) → bytes_eq path q ≡ false → bytes_eq other q ≡ false → new q ≡ old q

-- the drafted bytes are exactly these
abbrev pub Only : List ℕ → List ℕ → Type 0
Only bytes other = bytes ≡ other

-- besides its files and drafts a directory is the same
pub record SameDevice (old new : Device) : Type 0 where
  pub honest : old.is_honest ↔ new.is_honest
  pub link : new.link ≡ old.link
  pub reads : new.fails_reads ≡ old.fails_reads
  pub failures : new.failures ≡ old.failures

-- the effect of puts on a directory, besides its files and drafts; `failed` states that the call
-- failed because a put did
pub record AfterPuts (old new : Device) (failed : Type 0) : Type 0 where
  -- it is as honest as before
  pub honest : old.is_honest ↔ new.is_honest
  -- the folders of blobs that were links still are, and no others
  pub link : new.link ≡ old.link
  -- its reads may fail exactly if they could before
  pub reads : new.fails_reads ≡ old.fails_reads
  -- a put that failed is counted
  pub raised : failed → IsRaised old.failures new.failures
  -- nothing else is counted
  pub calm : old.failures < new.failures → failed
  -- the count never falls
  pub failures : old.failures ≤ new.failures

-- the effect of a put of drafted bytes on a directory, by the put's result
pub record IsPut (old new : Device) (path : List ℕ) (drafted : List ℕ → Type 0) (answer : Result Unit DirFault) : Type 0 where
  -- the file has the drafted bytes, and no other file changed
  pub put : OnOk answer (old.is_honest → (bytes : List ℕ) → drafted bytes → Puts old.file new.file path bytes)
  -- if memory ran out, no file changed
  pub memory : IsErrOf answer dir.Memory → old.is_honest → Same old.file new.file
  -- whatever the result, no other file changed
  pub other : old.is_honest → Touches old.file new.file path
  -- a put that succeeded left no draft and removed none
  pub draft : OnOk answer (old.is_honest → Same old.draft new.draft)
  -- besides its files and drafts only the directory's count of failed puts may change
  pub device : AfterPuts old new (IsErrOf answer dir.Failed)
