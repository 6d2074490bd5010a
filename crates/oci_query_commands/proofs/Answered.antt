-- Layouts for the whole of which a command answered.
use Rattle.std.proofs.Common.{◌≡◌, Bool, true, false, List, [], ◌∷◌, take, refl, sym, subst}
use Rattle.std.specs.List.{All}
use Rattle.std.proofs.lemmas.List.Elements.{All-filter, All-head, All-nil, filter_passes}
use Rattle.oci_dir.specs.Device.{Device}
use Rattle.oci_layout_store.specs.Layout.{OpenedIndex, is_manifest, manifests_of}
use Rattle.oci_layout_store.specs.Opened.{IsOpenedAsIs, is_damaged}
use Rattle.oci_manifest.specs.Descriptor.{Descriptor}
use Rattle.oci_manifest.specs.MediaTypes.{kind_of}
use Rattle.oci_store.specs.Graph.{Node}
use Rattle.oci_store.specs.Tags.{Tags}
use Rattle.oci_query_commands.specs.Answered.{AreUndamaged, IsReadable, LeavesNothingOut}

-- none of these keys passes a test and fails it
none_both : (test : Descriptor → Bool) (keys : List Descriptor) → All (λ (k : Descriptor). test k ≡ true) keys → All (λ (k : Descriptor). test k ≡ false) keys → keys ≡ []
none_both test [] passed failed = refl
none_both test (k ∷ keys) passed failed = cc (All-head (λ (k : Descriptor). test k ≡ true) k keys passed, All-head (λ (k : Descriptor). test k ≡ false) k keys failed)

-- a layout is readable if the files of the manifests that were passed over are not damaged
pub IsReadable-opened : (dir : Device) (graph : List Node) (tags : Tags) (index : OpenedIndex) → dir.is_honest → IsOpenedAsIs dir.file graph tags index → LeavesNothingOut dir index → IsReadable dir
IsReadable-opened dir graph tags index honest opened nothing =
    let Damaged : Descriptor → Type 0 = λ (k : Descriptor). is_damaged true dir.file k ≡ true in
    let visited = opened.read.walked.visited in
    let damaged : All Damaged index.damaged = subst (All Damaged) (sym opened.read.damaged_is) (filter_passes (is_damaged true dir.file) visited) in
    record {
      graph = graph;
      tags = tags;
      index = index;
      opened = opened;
      readable = nothing.readable;
      undamaged = none_both (is_damaged true dir.file) (manifests_of index.damaged) (All-filter (λ (k : Descriptor). is_manifest (kind_of k.media_type)) Damaged index.damaged damaged) (nothing.undamaged honest);
    }

pub AreUndamaged-none : (dir : Device) (keys : List Descriptor) → AreUndamaged dir (take 0 keys)
AreUndamaged-none dir [] honest = All-nil (λ (k : Descriptor). is_damaged true dir.file k ≡ false)
AreUndamaged-none dir (k ∷ keys) honest = All-nil (λ (k : Descriptor). is_damaged true dir.file k ≡ false)
