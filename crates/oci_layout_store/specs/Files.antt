-- The files in the directory of a layout.
use Rattle.std.specs.Prelude.{◌≡◌, List, Some}
use Rattle.std.specs.List.{All}
use Rattle.oci_store.specs.Content.{Entry}
use Rattle.oci_store.specs.Graph.{Node}
use Rattle.oci_store.specs.Tags.{Tags, AreNames}
use Rattle.oci_layout_store.specs.Blobs.{blob_path}
use Rattle.oci_dir.specs.Device.{Device, File}
use Rattle.oci_layout_store.specs.Index.{index_file, layout_file, HasIndex, HasLayoutFile}
use Rattle.oci_layout_store.specs.Layout.{OpenedIndex}

-- the invariant of a layout: each name has a held key, and if the directory is honest, `oci-layout`
-- is there
pub record IsLayout (dir : Device) (graph : List Node) (tags : Tags) : Type 0 where
  pub names : AreNames graph tags
  pub has_layout_file : dir.is_honest → HasLayoutFile dir.file

-- of the files of a layout with this graph, these were left as they are among the others:
-- `oci-layout`, the index, and the file of each key
pub record HasKept (file left : File) (graph : List Node) : Type 0 where
  pub layout : left layout_file ≡ file layout_file
  pub index : left index_file ≡ file index_file
  pub blobs : All (λ (n : Node). left (blob_path n.0.digest) ≡ file (blob_path n.0.digest)) graph

-- the files of a content, its tags and what was opened: `oci-layout`, a file for each content, and
-- the index
pub record HasFiles (file : File) (content : List Entry) (graph : List Node) (tags : Tags) (opened : OpenedIndex) : Type 0 where
  pub layout : HasLayoutFile file
  pub blobs : All (λ (e : Entry). file (blob_path e.0.digest) ≡ Some e.1) content
  pub index : HasIndex file graph tags opened
