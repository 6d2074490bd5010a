-- The files of layers that are not to be distributed (OCI image-spec 1.1, layer.md, "Non-Distributable
-- Layers"). No key lists such a layer in the graph.
use Rattle.std.specs.Prelude.{◌≡◌, ◌↔◌, ℕ, Bool, true, false, not, List, Option, None, Some, Contains}
use Rattle.std.specs.List.Sorted.{IsStrictlySortedBy}
use Rattle.oci_dir.specs.Device.{File}
use Rattle.oci_layout_store.specs.Blobs.{blob_path, stored}
use Rattle.oci_manifest.specs.Descriptor.{Descriptor, key_cmp}
use Rattle.oci_prune.specs.Aside.{IsAside, ListsAside}
use Rattle.oci_store.specs.Graph.{Node}
use Rattle.oci_verify.specs.Intact.{is_match}

-- whether there is a file, and it does not match a key
abbrev pub is_wrong : Descriptor → Option (List ℕ) → Bool
is_wrong k None = false
is_wrong k (Some bytes) = not (is_match k bytes)

-- whether there is a file of a key, and it does not match it
abbrev pub has_wrong_file : File → Descriptor → Bool
has_wrong_file file k = is_wrong k (file (blob_path k.digest))

-- a held manifest lists a key that is not to be distributed
abbrev pub ListsForeign : File → List Node → Descriptor → Descriptor → Type 0
ListsForeign file graph from k = ListsAside (stored file graph) from k

-- these are the keys that held manifests which pass a test list as not to be distributed, and whose
-- files are there and wrong, in key order
pub record AreCorruptForeign (is_asked : Descriptor → Bool) (file : File) (graph : List Node) (keys : List Descriptor) : Type 0 where
  pub each : (k : Descriptor) → Contains keys k ↔ (IsAside is_asked (stored file graph) k × (has_wrong_file file k ≡ true))
  pub order : IsStrictlySortedBy key_cmp keys
