-- The steps of a save and of a creation that a crash leaves whole.
use Rattle.std.specs.Prelude.{◌≡◌, ◌↔◌, ◌⊎◌, ◌≤◌, ◌<◌, ℕ, List, ◌∷◌, map, true, false, Some, Result, OnOk, IsErrOf}
use Rattle.std.specs.List.{All}
use Rattle.std.specs.Str.{bytes_eq}
use Rattle.oci_store.specs.Graph.{Node}
use Rattle.oci_store.specs.Push.{IsRaised}
use Rattle.oci_layout_store.specs.Blobs.{blob_path}
use Rattle.oci_dir.specs.Crash.{IsLeft, IsSettled, OnlySettles}
use Rattle.oci_dir.specs.Device.{Device, File, Puts, Same, Touches}
use Rattle.oci_layout_store.specs.Index.{index_file, layout_file}
use Rattle.oci_dir.specs.declared.fault.DirFault.{DirFault}
use Rattle.oci_dir.specs.declared.fault.DirFault.TheVariants as dir

-- what became of a directory, besides its files and drafts, where files were settled and replaced up to the
-- first call that failed
pub record AfterSettling (old new : Device) (answer : Result Unit DirFault) : Type 0 where
  -- it is as honest as before, and its reads may fail exactly if they could before
  pub honest : old.is_honest ↔ new.is_honest
  pub link : new.link ≡ old.link
  pub reads : new.fails_reads ≡ old.fails_reads
  -- a file was not settled, or a replacement failed, which is counted
  pub failed : IsErrOf answer dir.Failed → ((old.fails_reads ≡ true) × (new.failures ≡ old.failures)) ⊎ IsRaised old.failures new.failures
  -- nothing else is counted
  pub calm : old.failures < new.failures → IsErrOf answer dir.Failed
  pub failures : old.failures ≤ new.failures

-- the paths of `oci-layout` and of the files of these keys
abbrev pub paths_of : List Node → List (List ℕ)
paths_of nodes = layout_file ∷ map (λ (n : Node). blob_path n.0.digest) nodes

-- `oci-layout` and the files of these keys were settled, by the result
pub record SettlesFiles (old new : Device) (nodes : List Node) (answer : Result Unit DirFault) : Type 0 where
  pub only : OnlySettles old new
  pub layout : OnOk answer (old.is_honest → IsSettled new layout_file)
  pub blobs : OnOk answer (old.is_honest → All (λ (n : Node). IsSettled new (blob_path n.0.digest)) nodes)
  pub failed : IsErrOf answer dir.Failed → old.fails_reads ≡ true

-- a crash left these bytes of the index, and `oci-layout` and the files of these keys as they are; of
-- all other files it left what it could leave
pub record LeftSaved (dir : Device) (nodes : List Node) (bytes : List ℕ) (left : File) : Type 0 where
  pub layout : left layout_file ≡ dir.file layout_file
  pub index : left index_file ≡ Some bytes
  pub blobs : All (λ (n : Node). left (blob_path n.0.digest) ≡ dir.file (blob_path n.0.digest)) nodes
  pub rest : (q : List ℕ) → bytes_eq index_file q ≡ false → dir.may_leave q (left q)

-- the effect of settling the files of keys and then replacing and settling the index, by the result
pub record IsSaved (old new : Device) (nodes : List Node) (bytes : List ℕ) (answer : Result Unit DirFault) : Type 0 where
  pub saved : OnOk answer (old.is_honest → Puts old.file new.file index_file bytes)
  pub whole : old.is_honest → Same old.file new.file ⊎ Puts old.file new.file index_file bytes
  pub left : old.is_honest → (left : File) → IsLeft new left → IsLeft old left ⊎ LeftSaved old nodes bytes left
  pub settled : OnOk answer (old.is_honest → (left : File) → IsLeft new left → LeftSaved old nodes bytes left)
  pub draft : OnOk answer (old.is_honest → Same old.draft new.draft)
  pub device : AfterSettling old new answer

-- the effect of putting a file and then settling files, by the result
pub record PutsSettled (old new : Device) (path bytes : List ℕ) (paths : List (List ℕ)) (answer : Result Unit DirFault) : Type 0 where
  pub put : OnOk answer (old.is_honest → Puts old.file new.file path bytes)
  pub settled : OnOk answer (old.is_honest → All (IsSettled new) paths)
  pub other : old.is_honest → Touches old.file new.file path
  pub device : AfterSettling old new answer
