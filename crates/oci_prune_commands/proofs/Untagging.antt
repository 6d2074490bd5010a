-- The steps of `untag`.
use Rattle.std.proofs.Common.{◌≡◌, ◌-◌, ◌+◌, ◌<◌, ℕ, Bool, true, cond, inl, inr, List, [], ◌∷◌, ◌++◌, length, get_or, take, map, Option, Some, None, option_map, refl, sym, ap, subst, ◌∙◌}
use Rattle.std.specs.Prelude.{Result, Ok, Err, IfOk, flat_map}
use Rattle.std.specs.BTreeSet.{BTreeSet, contains}
use Rattle.std.specs.List.{All}
use Rattle.std.specs.Map.{values_of}
use Rattle.std.proofs.lemmas.Bool.{cases_Bool}
use Rattle.std.proofs.lemmas.Grind.{flat_map-append}
use Rattle.std.proofs.lemmas.List.Elements.{All-cons, All-nil}
use Rattle.std.specs.List.{slice_get}
use Rattle.std.proofs.lemmas.List.{append-nil, length-map}
use Rattle.std.proofs.lemmas.Option.{slice_get-map}
use Rattle.std.proofs.lemmas.Slice.Eq.{bytes_eq-Decides}
use Rattle.oci_manifest.specs.Descriptor.{Descriptor, key_cmp}
use Rattle.oci_layout_store.specs.Blobs.{stored, IsSound}
use Rattle.oci_layout_store.specs.Brought.{Forgets}
use Rattle.oci_dir.specs.Device.{Device, Touches}
use Rattle.oci_layout_store.specs.Entries.{IndexEntry, entry_of, said}
use Rattle.oci_layout_store.specs.Index.{HasIndex, index_file}
use Rattle.oci_layout_store.specs.Lasts.{Lasts}
use Rattle.oci_layout_store.specs.Layout.{LayoutState, OnlyTags, OpenedIndex, SameMemory}
use Rattle.oci_layout_store.proofs.Opened.{next_entry}
use Rattle.oci_layout_store.specs.declared.fault.LayoutFault.{LayoutFault}
use Rattle.oci_layout_store.specs.declared.fault.LayoutFault.TheVariants as layout
use Rattle.oci_layout_store.specs.declared.index.IndexEntry.{IndexEntry as CodeEntry}
use Rattle.oci_program.specs.Opened.{IsOpenedSettled}
use Rattle.oci_program.specs.declared.fault.ProgramFault.{ProgramFault}
use Rattle.oci_program.specs.declared.fault.ProgramFault.TheVariants as program
use Rattle.oci_prune.specs.Pruned.{kept_of}
use Rattle.oci_prune.specs.Settled.{CanSettle}
use Rattle.oci_prune.specs.Untagged.{IsKnown, KeepsOthers, tags_of_kept}
use Rattle.oci_store.specs.Content.{Entry}
use Rattle.oci_prune.proofs.Settling.{can_settle_kept}
use Rattle.oci_store.specs.Closed.{IsClosed}
use Rattle.oci_store.specs.Graph.{Node}
use Rattle.oci_store.specs.Tags.{Tags, tag_at, without_tag}
use Rattle.oci_prune_commands.specs.Named.{entries_named, keys_named}
use Rattle.oci_prune_commands.specs.Refusal.{IsRefusedRest, IsRefusedUntag}
use Rattle.oci_prune_commands.specs.Untagged.{GoesAlong, HasOnlyKept, IsDroppedUnsaved, IsLeftUnsaved, IsSavedAnew, IsUntagged, IsUntagRun, LosesName, LosesTag, belonged_keys, keys_going, untagged}
use Rattle.oci_prune_commands.specs.declared.untag.Untagged.{Untagged}

-- ---- a name that is no tag

abbrev key_in : IndexEntry → Option Descriptor
key_in e = e.key

inner : (found : Option CodeEntry) → option_map key_in (option_map entry_of found) ≡ option_map (λ (e : CodeEntry). e.key) found
inner None = refl
inner (Some e) = refl

-- the last one of the keys of entries is the key of the last one
last_key : (named : List CodeEntry) → let keys = map key_in (map entry_of named) in slice_get keys (length keys - 1) ≡ option_map (λ (e : CodeEntry). e.key) (slice_get named (length named - 1))
last_key named =
    let entries = map entry_of named in
    let place : length (map key_in entries) ≡ length named = length-map entries key_in ∙ length-map named entry_of in
    ap (λ (n : ℕ). slice_get (map key_in entries) (n - 1)) place
    ∙ slice_get-map key_in entries (length named - 1)
    ∙ ap (option_map key_in) (slice_get-map entry_of named (length named - 1))
    ∙ inner (slice_get named (length named - 1))

last_named : (name : List ℕ) (entries : List IndexEntry) (named : List CodeEntry) (key : Option Descriptor) → map entry_of named ≡ entries_named name entries
    → Some key ≡ option_map (λ (e : CodeEntry). e.key) (slice_get named (length named - 1))
    → let keys = keys_named name entries in Some key ≡ slice_get keys (length keys - 1)
last_named name entries named key these last =
    last ∙ sym (last_key named) ∙ ap (λ (es : List IndexEntry). slice_get (map key_in es) (length (map key_in es) - 1)) these

-- what a layout is saved as, that has the same graph and the same tags
pub saved_anew : {D : Type 0} (device : D → Device) (old new : LayoutState D) → new.graph ≡ old.graph → new.tags ≡ old.tags
    → ((device old.dir).is_honest → HasIndex (device new.dir).file old.graph old.tags new.opened)
    → ((device old.dir).is_honest → Touches (device old.dir).file (device new.dir).file index_file)
    → ((entries : List Entry) (tags : Tags) → CanSettle (device old.dir) (length old.graph) old.graph entries tags → Lasts (device new.dir) (stored (device new.dir).file new.graph) new.tags)
    → IsSavedAnew device old new
saved_anew device old new graph tags index other lasts = record {
  index = λ honest.
      subst (λ (ns : List Node). HasIndex (device new.dir).file ns new.tags new.opened) (sym graph)
      (subst (λ (ts : Tags). HasIndex (device new.dir).file old.graph ts new.opened) (sym tags) (index honest));
  other = other;
  lasts = lasts;
}

pub loses_entries : {D : Type 0} (device : D → Device) (name : List ℕ) (old mid new : LayoutState D) (named : List CodeEntry) (key : Option Descriptor) (belonged : List Descriptor) → mid ≡ old
    → map entry_of named ≡ entries_named name (said old.opened.content).entries
    → tag_at old.tags name ≡ None
    → Some key ≡ option_map (λ (e : CodeEntry). e.key) (slice_get named (length named - 1))
    → Forgets (map entry_of named) mid.opened new.opened
    → ((device mid.dir).is_honest → HasIndex (device new.dir).file mid.graph mid.tags new.opened)
    → new.graph ≡ mid.graph → new.tags ≡ mid.tags
    → ((device mid.dir).is_honest → Touches (device mid.dir).file (device new.dir).file index_file)
    → ((entries : List Entry) (tags : Tags) → CanSettle (device mid.dir) (length mid.graph) mid.graph entries tags → Lasts (device new.dir) (stored (device new.dir).file new.graph) new.tags)
    → belonged ≡ []
    → LosesName device name old new key belonged
loses_entries {D} device name old mid new named key belonged same these no_tag last forgets index graph tags other lasts none =
    let these_mid : map entry_of named ≡ entries_named name (said mid.opened.content).entries = subst (λ (s : LayoutState D). map entry_of named ≡ entries_named name (said s.opened.content).entries) (sym same) these in
    subst (λ (s : LayoutState D). LosesName device name s new key belonged) same (inr (record {
      no_tag = subst (λ (s : LayoutState D). tag_at s.tags name ≡ None) (sym same) no_tag;
      last = last_named name (said mid.opened.content).entries named key these_mid last;
      graph = graph;
      tags = tags;
      none = none;
      opened = subst (λ (es : List IndexEntry). Forgets es mid.opened new.opened) these_mid forgets;
      saved = saved_anew device mid new graph tags index other lasts;
    }))

-- ---- a tag

abbrev layout_with : {D : Type 0} → D → List Node → Tags → OpenedIndex → LayoutState D
layout_with dir graph tags opened = record { dir = dir; graph = graph; tags = tags; opened = opened }

-- a layout that has lost a tag alone
pub same_untagged : {D : Type 0} (tag : List ℕ) (old mid : LayoutState D) → OnlyTags old mid → mid.tags ≡ without_tag old.tags tag → mid ≡ untagged tag old
same_untagged {D} tag old mid only tags =
    ap (λ (d : D). layout_with d mid.graph mid.tags mid.opened) only.dir ∙ ap (λ (ns : List Node). layout_with old.dir ns mid.tags mid.opened) only.graph
    ∙ ap (λ (ts : Tags). layout_with old.dir old.graph ts mid.opened) tags ∙ ap (λ (o : OpenedIndex). layout_with old.dir old.graph (without_tag old.tags tag) o) only.opened

-- a tag is gone with what goes along
pub loses_tag : {D : Type 0} (device : D → Device) (tag : List ℕ) (old mid new : LayoutState D) (going belonged : List Descriptor) (key : Descriptor) → mid ≡ untagged tag old → tag_at old.tags tag ≡ Some key → going ≡ keys_going tag old
    → GoesAlong device tag going mid new belonged → IsSavedAnew device mid new → LosesTag device tag old new (Some key) belonged
loses_tag {D} device tag old mid new going belonged key same named keys along saved =
    let anew : IsSavedAnew device (untagged tag old) new = subst (λ (s : LayoutState D). IsSavedAnew device s new) same saved in
    record {
      named = named;
      along = subst (λ (ks : List Descriptor). GoesAlong device tag ks (untagged tag old) new belonged) keys (subst (λ (s : LayoutState D). GoesAlong device tag going s new belonged) same along);
      saved = record { index = anew.index; other = anew.other; lasts = anew.lasts };
    }

-- one entry more
pub next_belonged : (f : IndexEntry → List Descriptor) (es : List CodeEntry) (i : ℕ) (e : CodeEntry) → i < length es → e ≡ get_or es i e → flat_map f (map entry_of (take (i + 1) es)) ≡ flat_map f (map entry_of (take i es)) ++ f (entry_of e)
next_belonged f es i e lt is =
    let so_far = flat_map f (map entry_of (take i es)) in
    ap (flat_map f) (next_entry es i e lt is) ∙ flat_map-append f (map entry_of (take i es)) (entry_of e ∷ []) ∙ ap (λ (ks : List Descriptor). so_far ++ ks) (append-nil (f (entry_of e)))

-- the tags of the kept keys name kept keys
pub tags_are_kept : (kept : BTreeSet Descriptor) (tags : Tags) → All (λ (k : Descriptor). contains key_cmp kept k ≡ true) (values_of (tags_of_kept kept tags))
tags_are_kept kept [] = All-nil (λ (k : Descriptor). contains key_cmp kept k ≡ true)
tags_are_kept kept (t ∷ tags) =
    let rest = tags_are_kept kept tags in
    elim (cases_Bool (contains key_cmp kept t.1)) [
      | inl stays ↦
          subst (λ (b : Bool). All (λ (k : Descriptor). contains key_cmp kept k ≡ true) (values_of (cond b (t ∷ tags_of_kept kept tags) (tags_of_kept kept tags)))) (sym stays)
          (All-cons (λ (k : Descriptor). contains key_cmp kept k ≡ true) t.1 (values_of (tags_of_kept kept tags)) stays rest)
      | inr goes ↦ subst (λ (b : Bool). All (λ (k : Descriptor). contains key_cmp kept k ≡ true) (values_of (cond b (t ∷ tags_of_kept kept tags) (tags_of_kept kept tags)))) (sym goes) rest
    ]

-- ---- what is left is saved

-- a layout whose directory and graph are the same is sound as before
pub sound_same : {D : Type 0} (device : D → Device) (old new : LayoutState D) → new.dir ≡ old.dir → new.graph ≡ old.graph → IsSound (device old.dir).is_honest (device old.dir).file old.graph → IsSound (device new.dir).is_honest (device new.dir).file new.graph
sound_same {D} device old new dir graph sound =
    subst (λ (ns : List Node). IsSound (device new.dir).is_honest (device new.dir).file ns) (sym graph)
    (subst (λ (d : D). IsSound (device d).is_honest (device d).file old.graph) (sym dir) sound)

-- a layout with the same in memory has only the kept keys too
pub only_kept_same : {D : Type 0} (kept : BTreeSet Descriptor) (old mid new : LayoutState D) → HasOnlyKept kept old mid → SameMemory mid new → HasOnlyKept kept old new
only_kept_same kept old mid new only memory = record { graph = memory.graph ∙ only.graph; tags = memory.tags ∙ only.tags; opened = memory.opened ∙ only.opened }

-- what is saved of a layout with the kept keys is saved of the one with all
pub saved_kept : {D : Type 0} (device : D → Device) (old mid new : LayoutState D) (kept : BTreeSet Descriptor) → mid.dir ≡ old.dir → HasOnlyKept kept old mid
    → (IsSound (device old.dir).is_honest (device old.dir).file old.graph → IsSound (device mid.dir).is_honest (device mid.dir).file mid.graph) → (IsClosed old.graph → IsClosed (kept_of kept old.graph))
    → IsSavedAnew device mid new → IsSavedAnew device old new
saved_kept {D} device old mid new kept dir only sound closed saved = record {
  index = subst (λ (d : D). (device d).is_honest → HasIndex (device new.dir).file new.graph new.tags new.opened) dir saved.index;
  other = subst (λ (d : D). (device d).is_honest → Touches (device d).file (device new.dir).file index_file) dir saved.other;
  lasts = λ entries tags can. saved.lasts entries tags (can_settle_kept device old mid kept (length mid.graph) entries tags dir only.graph refl sound (closed can.closed) can);
}

-- ---- what is left is not saved

-- a layout with only the kept keys was not saved
pub only_unsaved : {D : Type 0} (kept : BTreeSet Descriptor) (old new : LayoutState D) (e : LayoutFault) → HasOnlyKept kept old new → IsDroppedUnsaved kept old new e
only_unsaved kept old new layout.Memory only = inr (record { either = inr only.graph; tags = only.tags; opened = only.opened })
only_unsaved kept old new e only = only

-- nothing went along with a tag
pub alone_unsaved : {D : Type 0} (device : D → Device) (tag : List ℕ) (going : List Descriptor) (old new : LayoutState D) (e : LayoutFault) → (IsKnown old.graph old.opened → ⊥) → SameMemory old new → IsLeftUnsaved device tag going old new e
alone_unsaved device tag going old new layout.Memory unknown memory = inl memory
alone_unsaved device tag going old new e unknown memory = ([], inl (record { unknown = unknown; memory = memory; none = refl }))

-- what is not kept went along
pub along_unsaved : {D : Type 0} (device : D → Device) (tag : List ℕ) (going : List Descriptor) (old new : LayoutState D) (kept : BTreeSet Descriptor) (e : LayoutFault) → IsKnown old.graph old.opened → KeepsOthers (device old.dir) old going kept
    → IsDroppedUnsaved kept old new e → IsLeftUnsaved device tag going old new e
along_unsaved device tag going old new kept layout.Memory known others (inl same) = inl same
along_unsaved device tag going old new kept layout.Memory known others (inr tags) = inr (record { known = known; kept = kept; others = others; tags = tags })
along_unsaved device tag going old new kept e known others only =
    (belonged_keys tag kept old.graph (said old.opened.content).entries, inr (record { known = known; kept = kept; others = others; drops = record { only = only; gone = refl } }))

-- a layout that has lost a tag alone is refused
pub refused_untag : {D : Type 0} (device : D → Device) (tag : List ℕ) (old mid new : LayoutState D) (going : List Descriptor) (e : ProgramFault) → mid ≡ untagged tag old → going ≡ keys_going tag old
    → IsRefusedRest device tag going mid new e → IsRefusedUntag device tag old new e
refused_untag device tag old mid new going (program.Reference f) same keys refused = absurd refused
refused_untag device tag old mid new going program.Memory same keys refused = absurd refused
refused_untag {D} device tag old mid new going e same keys refused =
    subst (λ (ks : List Descriptor). IsRefusedRest device tag ks (untagged tag old) new e) keys (subst (λ (s : LayoutState D). IsRefusedRest device tag going s new e) same refused)

-- ---- the command

-- a layout that was opened, and left without a name
pub untag_run : {D : Type 0} (device : D → Device) (dir : D) (name : List ℕ) (opened left : LayoutState D) (result : Result Untagged ProgramFault) → IsOpenedSettled device dir opened
    → IfOk result (λ answer. IsUntagged device name opened left answer.descriptor answer.descriptors.items answer.belonged.items)
    → IfOk result (λ answer. IsUntagRun device dir name answer.descriptor answer.descriptors.items answer.belonged.items)
untag_run device dir name opened left (Ok answer) is_opened untagged = record { opened = opened; is_opened = is_opened; left = left; untagged = untagged }
untag_run device dir name opened left (Err e) is_opened untagged = tt
