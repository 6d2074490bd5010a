-- What is opened after a save is what was saved.
use Rattle.std.proofs.Common.{◌≡◌, List, [], ap, sym, subst, ◌∙◌}
use Rattle.std.specs.Cmp.Lexicographic.{slice_cmp}
use Rattle.std.specs.List.{All}
use Rattle.std.specs.List.Sorted.{IsStrictlySortedBy}
use Rattle.std.specs.Map.{keys_of}
use Rattle.std.specs.Ordering.{nat_cmp}
use Rattle.oci_manifest.specs.Descriptor.{Descriptor, IsKey}
use Rattle.oci_store.specs.Closed.{IsClosed}
use Rattle.oci_store.specs.Content.{Entry}
use Rattle.oci_store.specs.Graph.{Node}
use Rattle.oci_store.specs.Keyed.{value_at}
use Rattle.oci_store.specs.Tags.{Tags, AreNames}
use Rattle.oci_layout_store.specs.Blobs.{stored, IsSound}
use Rattle.oci_dir.specs.Device.{File}
use Rattle.oci_layout_store.specs.Entries.{nothing_read}
use Rattle.oci_layout_store.specs.Files.{HasFiles}
use Rattle.oci_layout_store.specs.Law.{OpensAsSaved}
use Rattle.oci_layout_store.specs.Layout.{OpenedIndex}
use Rattle.oci_layout_store.specs.Opened.{IsOpened}

-- the clauses of `tags`, `save` and `open` are the premises of the law: `old` are the files before
-- the save, `new` those after it
pub reopened : OpensAsSaved → (H H' : Type 0) (old new : File) (graph after again : List Node) (tags tags_again : Tags) (remembered memory : OpenedIndex)
    → All IsKey (keys_of graph) → AreNames graph tags → IsStrictlySortedBy (slice_cmp nat_cmp) (keys_of tags) → after ≡ graph
    → (IsSound H old graph → HasFiles new (stored old graph) graph tags remembered) → remembered.content ≡ nothing_read → (H → stored new graph ≡ stored old graph) → (IsSound H old graph → IsSound H' new after)
    → (H' → IsOpened new again tags_again memory) → IsClosed graph → IsSound H old graph
    → ((k : Descriptor) → value_at (stored new again) k ≡ value_at (stored old graph) k) × (tags_again ≡ tags) × (memory.absent ≡ [])
reopened law H H' old new graph after again tags tags_again remembered memory keys names order same files nothing contents stays opened closed sound =
    let alike = contents sound.is_honest in
    let now = subst (λ (g : List Node). IsSound H' new g) same (stays sound) in
    let there = subst (λ (es : List Entry). HasFiles new es graph tags remembered) (sym alike) (files sound) in
    let it = law new graph again tags tags_again remembered memory keys names order closed (record { is_honest = tt; are_there = now.are_there; content = now.content; listed = now.listed }) there nothing (opened now.is_honest) in
    (λ k. it.0 k ∙ ap (λ (es : List Entry). value_at es k) alike, it.1, it.2)
