-- What a prune removed is still so after the save that follows it.
use Rattle.std.proofs.Common.{◌≡◌, inl, inr, ℕ, Bool, true, false, not, List, [], ◌∷◌, get_or, map, Option, None, is_some, refl, sym, ap, subst, ◌∙◌}
use Rattle.std.specs.Prelude.{◌↔◌}
use Rattle.std.specs.List.{All}
use Rattle.std.specs.Str.{bytes_eq}
use Rattle.std.proofs.lemmas.Bool.{cases_Bool}
use Rattle.std.proofs.lemmas.List.Elements.{All-weaker}
use Rattle.std.proofs.lemmas.Slice.Eq.{bytes_eq-Decides}
use Rattle.oci_manifest.specs.Descriptor.{Descriptor}
use Rattle.oci_store.specs.Content.{Entry}
use Rattle.oci_store.specs.Graph.{Node}
use Rattle.oci_store.specs.Keyed.{has_key}
use Rattle.oci_layout_store.specs.Blobs.{blob_path, stored}
use Rattle.oci_dir.specs.Device.{Device, File, Same, Touches}
use Rattle.oci_layout_store.specs.Index.{index_file}
use Rattle.oci_layout_store.specs.Layout.{LayoutState, OnlyFiles}
use Rattle.oci_dir.specs.Prunable.{by_name}
use Rattle.oci_layout_store.proofs.Files.{index_blob}
use Rattle.oci_layout_store.proofs.Prunable.{stored-apart, IsApart}
use Rattle.oci_prune.specs.Plan.{NeedsFile}
use Rattle.oci_prune.specs.Pruned.{is_gone, HasOnlyNeeded}
use Rattle.oci_prune.specs.declared.plan.PrunedFile.{PrunedFile}
use Rattle.oci_prune.specs.declared.plan.PrunePlan.{PrunePlan}
use Rattle.oci_prune.specs.declared.run.Pruned.{Pruned}
use Rattle.oci_layout_copy.specs.Mirror.{IsPruned, RemovesPlanned}

-- where only the index changed, the same files are gone
gone_same : (old new : File) (files : List PrunedFile) → Touches old new index_file → map (is_gone new) files ≡ map (is_gone old) files
gone_same old new [] touches = refl
gone_same old new (f ∷ files) touches =
    ap (λ (o : Option (List ℕ)). not (is_some o) ∷ map (is_gone new) files) (touches (blob_path f.digest) (index_blob f.digest)) ∙ ap (λ (flags : List Bool). is_gone old f ∷ flags) (gone_same old new files touches)

-- the same digests have files, and are needed
needed_same : (old new : File) (graph : List Node) → Touches old new index_file → HasOnlyNeeded old graph → HasOnlyNeeded new graph
needed_same old new graph touches only digest is none =
    touches (blob_path digest) (index_blob digest) ∙ only digest is (λ needs. none (subst (λ (entries : List Entry). NeedsFile graph entries (λ k. has_key graph k ≡ true) digest) (sym same) needs))
  where
    apart_index : All (IsApart index_file) graph
    apart_index place d lt = index_blob (get_or graph place d).0.digest

    same : stored new graph ≡ stored old graph
    same = stored-apart old new index_file graph apart_index touches

apart : (path : List ℕ) → (index_file ≡ path → ⊥) → bytes_eq index_file path ≡ false
apart path free = elim (cases_Bool (bytes_eq index_file path)) [ inl same ↦ absurd (free ((bytes_eq-Decides index_file path).0 same)) | inr other ↦ other ]

removed_saved : {D : Type 0} (device : D → Device) (old mid new : LayoutState D) (plan : PrunePlan) (done : Pruned) → RemovesPlanned device old mid plan done → new.graph ≡ mid.graph → ((device mid.dir).is_honest ↔ (device new.dir).is_honest)
    → ((device mid.dir).is_honest → Touches (device mid.dir).file (device new.dir).file index_file) → ((device mid.dir).is_honest → Same (device mid.dir).draft (device new.dir).draft) → RemovesPlanned device old new plan done
removed_saved device old mid new plan done did graph honest touches same = record {
  planned = did.planned;
  saved = did.saved;
  honest = (λ was. honest.0 (did.honest.0 was), λ is. did.honest.1 (honest.1 is));
  files = λ calm was. subst (λ (ns : List Node). HasOnlyNeeded (device new.dir).file ns) (sym graph) (needed_same (device mid.dir).file (device new.dir).file mid.graph (touches (did.honest.0 was)) (did.files calm was));
  drafts = λ calm was.
      All-weaker (λ (draft : List ℕ × ℕ). (device mid.dir).draft draft.0 ≡ None) (λ (draft : List ℕ × ℕ). (device new.dir).draft draft.0 ≡ None)
      (λ draft gone. same (did.honest.0 was) draft.0 ∙ gone) (by_name plan.drafts.items) (did.drafts calm was);
  flags = λ was. did.flags was ∙ sym (gone_same (device mid.dir).file (device new.dir).file plan.files.items (touches (did.honest.0 was)));
  draft_flags = λ was. let drafts = did.draft_flags was in record {
    gone = λ path one. let went = drafts.gone path one in (went.0, same (did.honest.0 was) path ∙ went.1);
    other = λ path none. same (did.honest.0 was) path ∙ drafts.other path none;
  };
  other = λ was path free. touches (did.honest.0 was) path (apart path (λ is. free (inl is))) ∙ did.other was path free;
}

-- a pruned layout is pruned after a save
pub pruned_saved : {D : Type 0} (device : D → Device) (is_exact : Bool) (roots : List Descriptor) (old mid new : LayoutState D) (plan : PrunePlan) (done : Pruned) → IsPruned device is_exact roots old mid plan done → OnlyFiles device mid new
    → ((device mid.dir).is_honest ↔ (device new.dir).is_honest) → ((device mid.dir).is_honest → Touches (device mid.dir).file (device new.dir).file index_file) → ((device mid.dir).is_honest → Same (device mid.dir).draft (device new.dir).draft)
    → IsPruned device is_exact roots old new plan done
pruned_saved device is_exact roots old mid new plan done was only honest touches same = record {
  needed = was.needed;
  graph = only.memory.graph ∙ was.graph;
  contents = λ is. ap (stored (device new.dir).file) only.memory.graph ∙ only.contents (was.removes.honest.0 is) ∙ was.contents is;
  removes = removed_saved device old mid new plan done was.removes only.memory.graph honest touches same;
}
