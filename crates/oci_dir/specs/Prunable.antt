-- The files and drafts of a directory, and the removal of one.
use Rattle.std.specs.Prelude.{◌≡◌, ◌≢◌, ◌↔◌, ◌⊎◌, ◌++◌, ℕ, Bool, true, List, [], map, codes, Option, Some, None, Result, length, is_some, if◌then◌else◌, IfOk, OnOk, OnErr, IsErrOf, Contains, String, string_bytes}
use Rattle.std.specs.declared.alloc.Global.{Global}
use Rattle.std.specs.Str.{bytes_eq}
use Rattle.oci_dir.specs.Crash.{NoMore}
use Rattle.oci_dir.specs.Device.{Device, File, Same, SameDevice}
use Rattle.oci_dir.specs.declared.fault.DirFault.{DirFault}
use Rattle.oci_dir.specs.declared.fault.DirFault.TheVariants as dir

-- ---- the removal of a file or a draft

-- there is none at the path now, and the others are unchanged
abbrev pub Removes : File → File → List ℕ → Type 0
Removes old new path = (q : List ℕ) → new q ≡ (if bytes_eq path q then None else old q)

-- the effect of the removal of a file on a directory, by its result
pub record IsRemoval (old new : Device) (path : List ℕ) (answer : Result Bool DirFault) : Type 0 where
  -- the file is gone, and no other file changed
  pub removed : OnOk answer (old.is_honest → Removes old.file new.file path)
  -- the result is whether there was one
  pub found : IfOk answer (λ found. old.is_honest → found ≡ is_some (old.file path))
  -- after a fault no file changed
  pub refused : OnErr answer (old.is_honest → Same old.file new.file)
  -- a crash leaves of the file what it could leave, or no file, and no more of any other file
  pub left : old.is_honest → (q : List ℕ) (left : Option (List ℕ)) → new.may_leave q left
      → old.may_leave q left ⊎ ((bytes_eq path q ≡ true) × (left ≡ None))
  -- whatever the result, no draft changed
  pub draft : old.is_honest → Same old.draft new.draft
  -- a removal fails only if reads may fail too
  pub failed : IsErrOf answer dir.Failed → old.fails_reads ≡ true
  pub device : SameDevice old new

-- the effect of the removal of a draft on a directory, by its result
pub record IsDraftRemoval (old new : Device) (path : List ℕ) (answer : Result Bool DirFault) : Type 0 where
  -- the draft is gone, and no other draft changed
  pub removed : OnOk answer (old.is_honest → Removes old.draft new.draft path)
  -- the result is whether there was one
  pub found : IfOk answer (λ found. old.is_honest → found ≡ is_some (old.draft path))
  -- after a fault no draft changed
  pub refused : OnErr answer (old.is_honest → Same old.draft new.draft)
  -- whatever the result, no file changed, and a crash leaves no more of any
  pub files : old.is_honest → Same old.file new.file
  pub left : old.is_honest → NoMore old new
  -- a removal fails only if reads may fail too
  pub failed : IsErrOf answer dir.Failed → old.fails_reads ≡ true
  pub device : SameDevice old new

-- ---- the files of a folder

-- names and lengths of the code, by the bytes of the names
abbrev pub by_name : List (String Global × ℕ) → List (List ℕ × ℕ)
by_name files = map (λ f. (string_bytes f.0, f.1)) files

-- the name of a file in a folder: it is not empty, and has no slash (47)
pub record IsName (name : List ℕ) : Type 0 where
  pub is_full : name ≢ []
  pub is_one : Contains name 47 → ⊥

-- the path of a file in a folder
abbrev pub path_in : List ℕ → List ℕ → List ℕ
path_in folder name = folder ++ codes "/" ++ name

-- there is a file of this length at the path
abbrev pub HasLength : File → List ℕ → ℕ → Type 0
HasLength file path size = (bytes : List ℕ) × (file path ≡ Some bytes) × (length bytes ≡ size)

-- these are the files or drafts of a directory, by their paths, each with its length
abbrev pub ListsFiles : File → List (List ℕ × ℕ) → Type 0
ListsFiles file files = (path : List ℕ) (size : ℕ) → Contains files (path, size) ↔ HasLength file path size

-- these are the files directly in a folder, each with its length
abbrev pub ListsFolder : File → List ℕ → List (List ℕ × ℕ) → Type 0
ListsFolder file folder files = (name : List ℕ) (size : ℕ) → Contains files (name, size) ↔ (IsName name × HasLength file (path_in folder name) size)
