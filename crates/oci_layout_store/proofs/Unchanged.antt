-- A layout of which no file changed, as where files were settled or a draft was removed.
use Rattle.std.proofs.Common.{◌≡◌, ℕ, List, [], Option, Some, None, sym, ap, subst, ◌∙◌}
use Rattle.std.specs.Option.{unwrap_or}
use Rattle.oci_manifest.specs.Descriptor.{Descriptor}
use Rattle.oci_manifest.specs.MediaTypes.{kind_of}
use Rattle.oci_manifest.specs.Subject.{HasSubject}
use Rattle.oci_store.specs.Graph.{Node}
use Rattle.oci_store.specs.Tags.{Tags}
use Rattle.oci_layout_store.specs.Blobs.{blob_at, blob_path}
use Rattle.oci_dir.specs.Device.{Device, Same, Touches}
use Rattle.oci_layout_store.specs.Files.{IsLayout}
use Rattle.oci_layout_store.specs.Index.{layout_file}
use Rattle.oci_layout_store.specs.Layout.{LayoutState, OnlyFiles, SameMemory}
use Rattle.oci_layout_store.specs.Stated.{AreRemembered, ListsLayer}
use Rattle.oci_layout_store.specs.declared.layout.stated.Stated.{Stated}
use Rattle.oci_layout_store.proofs.Files.{HasLayoutFile-stays, blob_layout}
use Rattle.oci_layout_store.proofs.Stored.{stored-same, IsSound-same}

-- what a layout keeps true stays true
pub IsLayout-same : (old new : Device) (graph : List Node) (tags : Tags) → (new.is_honest → old.is_honest) → (old.is_honest → Same old.file new.file) → IsLayout old graph tags → IsLayout new graph tags
IsLayout-same old new graph tags was same is = record {
  names = is.names;
  has_layout_file = λ honest. (let h = was honest in
      let layout = is.has_layout_file h in
      record { bytes = layout.bytes; is_there = same h layout_file ∙ layout.is_there; version = layout.version });
}

-- also where only the file of a digest changed
pub IsLayout-touched : (old new : Device) (graph : List Node) (tags : Tags) (digest : List ℕ) → (new.is_honest → old.is_honest) → (old.is_honest → Touches old.file new.file (blob_path digest)) → IsLayout old graph tags → IsLayout new graph tags
IsLayout-touched old new graph tags digest was touches is = record {
  names = is.names;
  has_layout_file = λ honest. (let h = was honest in HasLayoutFile-stays old.file new.file (blob_path digest) (touches h) (blob_layout digest) (is.has_layout_file h));
}

pub AreRemembered-same : (old new : Device) (graph : List Node) (found : Option Stated) → (new.is_honest → old.is_honest) → (old.is_honest → Same old.file new.file)
    → AreRemembered old graph found → AreRemembered new graph found
AreRemembered-same old new graph None was files were = tt
AreRemembered-same old new graph (Some stated) was files were = λ honest.
    (let h = was honest in
    let same : (k : Descriptor) → blob_at new.file k.digest ≡ blob_at old.file k.digest = λ k. ap (λ (o : Option (List ℕ)). unwrap_or o []) (files h (blob_path k.digest)) in
    record {
      subjects = λ k subject. (let each = (were h).subjects k subject in (
        λ at. (let s = each.0 at in (s.0, subst (λ (bytes : List ℕ). HasSubject (kind_of k.media_type) bytes subject) (sym (same k)) s.1)),
        λ s. each.1 (s.0, subst (λ (bytes : List ℕ). HasSubject (kind_of k.media_type) bytes subject) (same k) s.1),
      ));
      undistributed = λ k layer. (let each = (were h).undistributed k layer in (
        λ at. (let s = each.0 at in (s.0, subst (λ (bytes : List ℕ). ListsLayer k bytes layer) (sym (same k)) s.1)),
        λ s. each.1 (s.0, subst (λ (bytes : List ℕ). ListsLayer k bytes layer) (same k) s.1),
      ));
    })

-- and it has the same in memory, and its contents
pub OnlyFiles-same : {D : Type 0} (device : D → Device) (old new : LayoutState D) → SameMemory old new → ((device old.dir).is_honest → (device new.dir).is_honest)
    → ((device old.dir).is_honest → Same (device old.dir).file (device new.dir).file) → OnlyFiles device old new
OnlyFiles-same device old new memory honest same =
    let was = device old.dir in
    let is = device new.dir in
    record {
      memory = memory;
      contents = λ h. stored-same was.file is.file old.graph (same h);
      sound = rw memory.graph (λ sound. IsSound-same was.is_honest is.is_honest was.file is.file old.graph honest (same sound.is_honest) sound);
    }
