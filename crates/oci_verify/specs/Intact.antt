-- Files that match their keys (OCI image specification 1.1, descriptor.md, "Verification").
use Rattle.std.specs.Prelude.{◌==◌, ◌&&◌, ℕ, Bool, List, length, IsSome}
use Rattle.std.specs.List.{All}
use Rattle.oci_digest.specs.Digest.{verifies}
use Rattle.oci_layout_store.specs.Blobs.{blob_at, blob_path}
use Rattle.oci_dir.specs.Device.{Device, File}
use Rattle.oci_manifest.specs.Descriptor.{Descriptor}
use Rattle.oci_store.specs.Graph.{Node}

-- whether bytes match a key: they have its size and its digest
abbrev pub is_match : Descriptor → List ℕ → Bool
is_match k bytes = length bytes == k.size && verifies k.digest bytes

-- whether the file of a key matches it
abbrev pub is_matching : File → Descriptor → Bool
is_matching file k = is_match k (blob_at file k.digest)

-- the directory is honest, and has a file of the key
abbrev pub HasFile : Device → Descriptor → Type 0
HasFile dir k = dir.is_honest × IsSome (dir.file (blob_path k.digest))

-- the directory is honest, and has a file of each held key, as after it was opened
abbrev pub HasFiles : Device → List Node → Type 0
HasFiles dir graph = dir.is_honest × All (λ (n : Node). IsSome (dir.file (blob_path n.0.digest))) graph
