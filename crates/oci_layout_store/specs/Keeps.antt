-- What a crash keeps of the files of a layout.
use Rattle.std.specs.Prelude.{◌≡◌, ◌⊎◌, ℕ, List, false, true, Some}
use Rattle.std.specs.List.{All}
use Rattle.std.specs.Str.{bytes_eq}
use Rattle.oci_manifest.specs.Descriptor.{Descriptor}
use Rattle.oci_store.specs.Graph.{Node}
use Rattle.oci_store.specs.Keyed.{has_key}
use Rattle.oci_layout_store.specs.Blobs.{blob_path}
use Rattle.oci_dir.specs.Device.{Device, File}
use Rattle.oci_layout_store.specs.Index.{index_file, layout_file}
use Rattle.oci_dir.specs.Crash.{IsSettled, StaysAt}

-- a crash leaves `oci-layout`, the index and the files of these keys as they are among these files
pub record Keeps (dir : Device) (file : File) (graph : List Node) : Type 0 where
  pub layout : StaysAt dir file layout_file
  pub index : StaysAt dir file index_file
  pub blobs : All (λ (n : Node). StaysAt dir file (blob_path n.0.digest)) graph

-- a crash still leaves the file of each held key as it is, if it did before
abbrev pub KeepsSettled : Device → Device → List Node → Type 0
KeepsSettled old new graph = old.is_honest → (k : Descriptor) → has_key graph k ≡ true → IsSettled old (blob_path k.digest) → IsSettled new (blob_path k.digest)

-- a put of these bytes at the path spares these files of these keys: each key has another file, or the
-- same bytes in it
abbrev pub Spares : File → List Node → List ℕ → List ℕ → Type 0
Spares file graph path bytes = All (λ (n : Node). (bytes_eq path (blob_path n.0.digest) ≡ false) ⊎ (file path ≡ Some bytes)) graph
