-- The layout that a command opens to change it.
use Rattle.std.specs.Prelude.{List}
use Rattle.oci_dir.specs.Crash.{IsSettled, OnlySettles}
use Rattle.oci_dir.specs.Device.{Device}
use Rattle.oci_layout_store.specs.Index.{index_file, layout_file}
use Rattle.oci_layout_store.specs.Lasts.{Lasts}
use Rattle.oci_layout_store.specs.Layout.{LayoutState}
use Rattle.oci_layout_store.specs.Opened.{IsOpenedAsIs}
use Rattle.oci_store.specs.Content.{Entry}
use Rattle.oci_store.specs.Tags.{Tags}

-- A layout was opened as it is from a directory, and its index is on the disk. No file changed, and
-- what lasted before lasts now.
pub record IsOpenedSettled {D : Type 0} (device : D → Device) (dir : D) (layout : LayoutState D) : Type 0 where
  pub opened : (device dir).is_honest → IsOpenedAsIs (device dir).file layout.graph layout.tags layout.opened
  pub version : (device dir).is_honest → IsSettled (device layout.dir) layout_file
  pub index : (device dir).is_honest → IsSettled (device layout.dir) index_file
  pub only : OnlySettles (device dir) (device layout.dir)
  pub lasts : (entries : List Entry) (tags : Tags) → Lasts (device dir) entries tags → Lasts (device layout.dir) entries tags
