use Rattle.std.proofs.Common.{List, String, Global, ◌++◌, map, sym, ap, subst}
use Rattle.std.specs.Prelude.{Contains}
use Rattle.std.specs.List.{All}
use Rattle.std.specs.Map.{values_of}
use Rattle.std.proofs.lemmas.List.Elements.{All-append}
use Rattle.oci_manifest.specs.Descriptor.{Descriptor}
use Rattle.oci_store.specs.Tags.{by_bytes}
use Rattle.oci_layout_store.specs.Brought.{IsShallowEntry}
use Rattle.oci_layout_store.specs.Entries.{entry_of}
use Rattle.oci_entries.specs.Brought.{tag_entries}
use Rattle.oci_selection.specs.Selected.{AreOfRoots, IsOfRoot}
use Rattle.oci_selection.proofs.AttachedRoots.{both_of_roots}
use Rattle.oci_entries.proofs.BroughtEntries.{tags_shallow, with_roots_shallow}
use Rattle.oci_selection.proofs.NamedRoots.{tags_named, with_roots_named}
use Rattle.oci_selection.proofs.selected.Selected.with_tags.Goals as goal

pub invariant_of-result : goal.invariant_of-result
invariant_of-result g c =
    let roots = c.args.roots.keys.items in
    let entries = map entry_of c.entries.result.now in
    let first = map entry_of c.args.named.items in
    let others = by_bytes c.deref.result.now in
    let named = first ++ tag_entries entries others in
    let shallow : All IsShallowEntry entries = subst (All IsShallowEntry) (sym (ap (map entry_of) c.entries.ensures.entries)) c.entries.ensures.shallow in
    record {
      of_roots = subst (AreOfRoots roots) (sym c.in_ok-tags.ensures) (both_of_roots roots (by_bytes c.args.tags.items) (by_bytes c.args.roots.tags.items) c.requires.tagged c.requires.others);
      named =
          subst (All (IsOfRoot roots)) (sym c.in_ok-entries.ensures)
          (with_roots_named roots entries named c.deref-2.result.now
          (All-append (IsOfRoot roots) first (tag_entries entries others) c.requires.named
          (tags_named roots entries others
          (subst (λ (tags : List (String Global × Descriptor)). All (Contains roots) (values_of (by_bytes tags))) (sym c.deref.ensures.value) c.requires.others.rooted))));
      shallow =
          subst (All IsShallowEntry) (sym c.in_ok-entries.ensures)
          (with_roots_shallow entries named c.deref-2.result.now shallow (All-append IsShallowEntry first (tag_entries entries others) c.requires.shallow (tags_shallow entries others shallow)));
    }
