-- The steps of `tag`.
use Rattle.std.proofs.Common.{◌≡◌, ℕ, true, List, length, map, Some, sym, ap, subst, ◌∙◌}
use Rattle.std.specs.Prelude.{Result, Ok, Err, IfOk}
use Rattle.std.specs.List.{All}
use Rattle.std.proofs.lemmas.Bool.{true≢false}
use Rattle.oci_manifest.specs.Descriptor.{Descriptor}
use Rattle.oci_layout_store.specs.Blobs.{stored}
use Rattle.oci_layout_store.specs.Brought.{IsShallowEntry}
use Rattle.oci_dir.specs.Device.{Device}
use Rattle.oci_layout_store.specs.Entries.{IndexEntry, entry_of}
use Rattle.oci_layout_store.specs.Lasts.{Lasts}
use Rattle.oci_layout_store.specs.Layout.{LayoutState, OnlyFiles, OnlyIndex, OnlyTags}
use Rattle.oci_layout_store.specs.declared.index.IndexEntry.{IndexEntry as CodeEntry}
use Rattle.oci_program.specs.Opened.{IsOpenedSettled}
use Rattle.oci_program.specs.declared.fault.ProgramFault.{ProgramFault}
use Rattle.oci_prune.specs.Settled.{CanSettle, LeavesOneOf}
use Rattle.oci_prune.proofs.Settling.{can_settle_same, lasts_saved, left_saved, left_unsaved, SavesLasting, SavesWhole}
use Rattle.oci_store.specs.Content.{Entry}
use Rattle.oci_store.specs.Graph.{Node}
use Rattle.oci_store.specs.Keyed.{has_key}
use Rattle.oci_store.specs.Tags.{Tags, IsTagFault}
use Rattle.oci_store.specs.declared.fault.RefFault.{RefFault}
use Rattle.oci_store.specs.declared.fault.RefFault.TheVariants as reference
use Rattle.oci_entries.specs.Brought.{place_of_reference, reference_entry}
use Rattle.oci_tag_commands.specs.Tagged.{IsNameFault, IsTagged, IsTagRun}
use Rattle.oci_tag_commands.specs.declared.tag.TagAnswer.{TagAnswer}
use Rattle.oci_entries.proofs.BroughtEntries.{at_shallow}

-- ---- the tag

-- the entry of a reference is not nested too deeply
pub entry_shallow : (entries : List CodeEntry) (found : List IndexEntry) (from to : List ℕ) (k : Descriptor) → found ≡ reference_entry (map entry_of entries) from to k → All IsShallowEntry (map entry_of entries) → All IsShallowEntry found
entry_shallow entries found from to k is all =
    subst (λ (es : List IndexEntry). All IsShallowEntry es) (sym is) (at_shallow (Some to) (map entry_of entries) (place_of_reference (map entry_of entries) from k) all)

-- a held key is not tagged since the tag is empty, or since memory ran out
pub name_fault : (graph : List Node) (k : Descriptor) (tag : List ℕ) (e : RefFault) → has_key graph k ≡ true → IsTagFault graph k tag e → IsNameFault tag e
name_fault graph k tag reference.EmptyReference held is = is
name_fault graph k tag reference.UnknownReference held is = absurd is
name_fault graph k tag reference.NotHeld held is = absurd (true≢false (sym held ∙ is.1))
name_fault graph k tag reference.Memory held is = tt

-- ---- the save

-- where no file changed, what lasts is left
pub left_same : {D : Type 0} (device : D → Device) (old new : LayoutState D) (from : ℕ) (entries others : List Entry) (tags names : Tags) → new.dir ≡ old.dir → CanSettle (device old.dir) from old.graph entries tags
    → LeavesOneOf (device new.dir) entries tags others names
left_same {D} device old new from entries others tags names dir can = left_unsaved (device new.dir) entries others tags names (subst (λ (d : D). Lasts (device d) entries tags) (sym dir) can.lasts)

-- a layout that was tagged, and whose index changed in memory, was saved
module _ {D : Type 0} (device : D → Device) (old tagged brought new : LayoutState D) (count : ℕ) (set : OnlyTags old tagged) (index : OnlyIndex tagged brought) (counted : count ≡ length brought.graph) (only : OnlyFiles device brought new) where
  can_settle_set : (entries : List Entry) (tags : Tags) → CanSettle (device old.dir) (length old.graph) old.graph entries tags → CanSettle (device brought.dir) count brought.graph entries tags
  can_settle_set entries tags can =
      let graph : brought.graph ≡ old.graph = index.graph ∙ set.graph in
      can_settle_same device old brought (length old.graph) count entries tags (index.dir ∙ set.dir) graph (counted ∙ ap length graph) can

  pub left_set : SavesWhole (device brought.dir) count brought.graph brought.tags (device new.dir)
      → (entries : List Entry) (tags : Tags) → CanSettle (device old.dir) (length old.graph) old.graph entries tags → LeavesOneOf (device new.dir) entries tags (stored (device new.dir).file new.graph) new.tags
  left_set saves entries tags can = left_saved device brought new count only saves entries tags (can_settle_set entries tags can)

  pub lasts_set : SavesLasting (device brought.dir) count brought.graph brought.tags (device new.dir)
      → (entries : List Entry) (tags : Tags) → CanSettle (device old.dir) (length old.graph) old.graph entries tags → Lasts (device new.dir) (stored (device new.dir).file new.graph) new.tags
  lasts_set saves entries tags can = lasts_saved device brought new count only saves entries tags (can_settle_set entries tags can)

-- ---- the command

-- a layout that was opened, and left with a tag
pub tag_run : {D : Type 0} (device : D → Device) (dir : D) (name tag : List ℕ) (opened left : LayoutState D) (result : Result TagAnswer ProgramFault) → IsOpenedSettled device dir opened
    → IfOk result (λ answer. IsTagged device name tag opened left answer.descriptor) → IfOk result (λ answer. IsTagRun device dir name tag answer.descriptor)
tag_run device dir name tag opened left (Ok answer) is_opened tagged = record { opened = opened; is_opened = is_opened; left = left; tagged = tagged }
tag_run device dir name tag opened left (Err e) is_opened tagged = tt
