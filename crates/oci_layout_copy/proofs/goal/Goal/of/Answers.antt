use Rattle.std.proofs.Common.{◌≡◌, ◌∙◌, ◌++◌, [], map, inl, inr, sym, ap, subst}
use Rattle.std.specs.Prelude.{◌↔◌, Contains}
use Rattle.std.specs.List.{All}
use Rattle.std.specs.Map.{values_of}
use Rattle.std.proofs.lemmas.List.Elements.{All-contains_itself, All-weaker, Contains-append_left}
use Rattle.oci_manifest.specs.Descriptor.{Descriptor}
use Rattle.oci_store.specs.Keyed.{HasAll}
use Rattle.oci_store.specs.Tags.{by_bytes}
use Rattle.oci_layout_store.specs.Entries.{entry_keys, entry_of, said}
use Rattle.oci_entries.specs.Brought.{named_entries}
use Rattle.oci_entries.specs.Pattern.{matching_entries}
use Rattle.oci_selection.specs.Selected.{each_once, named_keys, AreOfRoots}
use Rattle.oci_layout_copy.proofs.Goals.{all_named, fits, goal_roots, goal_tags}
use Rattle.oci_layout_copy.proofs.goal.Goal.of.Goals as goal

pub returns-clause-exact : goal.returns-clause-exact
returns-clause-exact g c =
    let tags = by_bytes c.args.kept.tags.items in
    let entries = (said c.args.destination.now.opened.content).entries in
    let named : map entry_of c.in_ok-named.named.items ≡ named_entries entries = c.in_ok-named.ensures ∙ ap (λ es. matching_entries [] (map entry_of es)) c.entries.ensures.entries ∙ all_named entries in
    let own = c.in_ok-own.own.items in
    let same : (k : Descriptor) → Contains own k ↔ Contains (named_keys tags (named_entries entries)) k = rw (c.deref.ensures.value, c.deref-2.ensures.value, named) at c.in_ok-own.ensures in
    let keys : c.in_ok-keys.keys.items ≡ each_once (own ++ c.args.kept.attached.items) = rw (c.deref-3.ensures.value, c.deref-4.ensures.value) at c.in_ok-keys.ensures in
    let roots : c.in_ok-roots.roots.items ≡ each_once (c.args.selected.now.0 ++ c.in_ok-keys.keys.items) = rw (c.roots.ensures, c.deref-6.ensures.value) at c.in_ok-roots.ensures in
    record {
      roots = goal_roots c.args.selected.now.0 own (named_keys tags (named_entries entries)) c.args.kept.attached.items c.in_ok-keys.keys.items c.in_ok-roots.roots.items keys roots same;
      tags = rw c.tags.ensures.tags at c.in_ok-tags.ensures;
    }

pub returns-clause-fits : goal.returns-clause-fits
returns-clause-fits g c =
    let tags = by_bytes c.args.kept.tags.items in
    let entries = (said c.args.destination.now.opened.content).entries in
    let named : map entry_of c.in_ok-named.named.items ≡ named_entries entries = c.in_ok-named.ensures ∙ ap (λ es. matching_entries [] (map entry_of es)) c.entries.ensures.entries ∙ all_named entries in
    let own = c.in_ok-own.own.items in
    let same : (k : Descriptor) → Contains own k ↔ Contains (named_keys tags (named_entries entries)) k = rw (c.deref.ensures.value, c.deref-2.ensures.value, named) at c.in_ok-own.ensures in
    let keys : c.in_ok-keys.keys.items ≡ each_once (own ++ c.args.kept.attached.items) = rw (c.deref-3.ensures.value, c.deref-4.ensures.value) at c.in_ok-keys.ensures in
    let roots : c.in_ok-roots.roots.items ≡ each_once (c.args.selected.now.0 ++ c.in_ok-keys.keys.items) = rw (c.roots.ensures, c.deref-6.ensures.value) at c.in_ok-roots.ensures in
    let held : HasAll c.args.destination.now.graph c.in_ok-keys.keys.items = rw c.deref-5.ensures.value at c.in_ok-check_all_held.ensures in
    fits c.args.destination.now c.args.selected.now.0 own c.args.kept.attached.items c.in_ok-keys.keys.items c.in_ok-roots.roots.items tags keys roots held same

pub invariant_of-result : goal.invariant_of-result
invariant_of-result g c =
    let tags = by_bytes c.args.kept.tags.items in
    let entries = (said c.args.destination.now.opened.content).entries in
    let named : map entry_of c.in_ok-named.named.items ≡ named_entries entries = c.in_ok-named.ensures ∙ ap (λ es. matching_entries [] (map entry_of es)) c.entries.ensures.entries ∙ all_named entries in
    let own = c.in_ok-own.own.items in
    let same : (k : Descriptor) → Contains own k ↔ Contains (named_keys tags (named_entries entries)) k = rw (c.deref.ensures.value, c.deref-2.ensures.value, named) at c.in_ok-own.ensures in
    let keys : c.in_ok-keys.keys.items ≡ each_once (own ++ c.args.kept.attached.items) = rw (c.deref-3.ensures.value, c.deref-4.ensures.value) at c.in_ok-keys.ensures in
    let roots : c.in_ok-roots.roots.items ≡ each_once (c.args.selected.now.0 ++ c.in_ok-keys.keys.items) = rw (c.roots.ensures, c.deref-6.ensures.value) at c.in_ok-roots.ensures in
    let parts = goal_roots c.args.selected.now.0 own (named_keys tags (named_entries entries)) c.args.kept.attached.items c.in_ok-keys.keys.items c.in_ok-roots.roots.items keys roots same in
    let among : All (Contains c.in_ok-roots.roots.items) c.args.selected.now.0 =
    All-weaker (Contains c.args.selected.now.0) (Contains c.in_ok-roots.roots.items) (λ k there. (parts k).1 (inl there)) c.args.selected.now.0 (All-contains_itself c.args.selected.now.0) in
    let rooted : All (Contains c.in_ok-roots.roots.items) (values_of tags) =
    All-weaker (Contains (values_of tags)) (Contains c.in_ok-roots.roots.items) (λ k there. (parts k).1 (inr (inl (Contains-append_left (values_of tags) (entry_keys (named_entries entries)) k there)))) (values_of tags) (All-contains_itself (values_of tags)) in
    subst (AreOfRoots c.in_ok-roots.roots.items) (sym (rw c.tags.ensures.tags at c.in_ok-tags.ensures)) (goal_tags c.args.selected.now.0 c.in_ok-roots.roots.items tags c.args.selected.now.1 c.requires rooted among c.tags.ensures.of_roots)
