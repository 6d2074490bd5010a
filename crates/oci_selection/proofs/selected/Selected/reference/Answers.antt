use Rattle.std.proofs.Common.{◌≡◌, ◌∙◌, ◌++◌, ℕ, List, ◌∷◌, map, ap, sym, subst}
use Rattle.std.specs.List.{All}
use Rattle.oci_manifest.specs.Descriptor.{Descriptor}
use Rattle.oci_copy.specs.Tagged.{name_of}
use Rattle.oci_store.specs.Tags.{by_bytes}
use Rattle.oci_layout_store.specs.Meaning.{meaning}
use Rattle.oci_layout_store.specs.Brought.{IsShallowEntry}
use Rattle.oci_layout_store.specs.Entries.{IndexEntry, entry_of, said}
use Rattle.oci_entries.specs.Brought.{reference_entry, tag_entries, with_roots}
use Rattle.oci_selection.specs.Selected.{AreReferenceRoots, IsOfRoot}
use Rattle.oci_selection.proofs.AttachedRoots.{reference_there}
use Rattle.oci_entries.proofs.BroughtEntries.{named_shallow, with_roots_shallow}
use Rattle.oci_selection.proofs.NamedRoots.{both_named, with_roots_named}
use Rattle.oci_selection.proofs.Selections.{all_ok}
use Rattle.oci_selection.proofs.selected.Selected.reference.Goals as goal

pub tagged-requires-clause-rooted : goal.tagged-requires-clause-rooted
tagged-requires-clause-rooted g c =
    reference_there (meaning (g.D.Dir.device c.args.source.now.dir) c.args.source.now.graph c.args.source.now.tags) c.args.referrers c.in_ok-key.key c.deref.result.now c.in_ok-roots.roots.keys.items
    (by_bytes c.in_ok-roots.roots.tags.items) c.in_ok-roots.ensures.exact

pub tagged-requires-clause-of_roots : goal.tagged-requires-clause-of_roots
unfolding tagged-requires-clause-rooted
tagged-requires-clause-of_roots g c =
    let roots = c.in_ok-roots.roots.keys.items in
    let entries = map entry_of c.entries.result.now in
    let others = by_bytes c.in_ok-roots.roots.tags.items in
    let named = reference_entry entries c.args.from.now c.deref-2.result.now c.in_ok-key.key ++ tag_entries entries others in
    subst (All (IsOfRoot roots)) (sym c.in_ok-entries.ensures)
    (with_roots_named roots entries named roots
    (both_named roots entries c.args.from.now c.deref-2.result.now c.in_ok-key.key others (tagged-requires-clause-rooted g c) c.in_ok-roots.ensures.tagged.rooted))

pub tagged-requires-clause-shallow : goal.tagged-requires-clause-shallow
tagged-requires-clause-shallow g c =
    let roots = c.in_ok-roots.roots.keys.items in
    let entries = map entry_of c.entries.result.now in
    let others = by_bytes c.in_ok-roots.roots.tags.items in
    let named = reference_entry entries c.args.from.now c.deref-2.result.now c.in_ok-key.key ++ tag_entries entries others in
    let shallow : All IsShallowEntry entries = subst (All IsShallowEntry) (sym (ap (map entry_of) c.entries.ensures.entries)) c.entries.ensures.shallow in
    subst (All IsShallowEntry) (sym c.in_ok-entries.ensures) (with_roots_shallow entries named roots shallow (named_shallow entries c.args.from.now c.deref-2.result.now c.in_ok-key.key others shallow))

pub returns : goal.returns
returns g c =
    let key = c.in_ok-key.key in
    let from = c.args.from.now in
    let to = name_of from c.args.to.now in
    let entries = (said c.args.source.now.opened.content).entries in
    let keys = c.in_ok-roots.roots.keys.items in
    let others = by_bytes c.in_ok-roots.roots.tags.items in
    let store = meaning (g.D.Dir.device c.args.source.now.dir) c.args.source.now.graph c.args.source.now.tags in
    let named : List IndexEntry → List ℕ → List IndexEntry = λ es name. reference_entry es from name key ++ tag_entries es others in
    let is_name : c.deref.result.now ≡ to = c.deref.ensures ∙ c.in_ok-name.ensures.name in
    let is_tag : c.deref-2.result.now ≡ to = c.deref-2.ensures ∙ c.in_ok-name.ensures.name in
    let are : AreReferenceRoots store c.args.referrers key to keys others = rw is_name at c.in_ok-roots.ensures.exact in
    let brought : map entry_of c.in_ok-entries.entries.items ≡ with_roots entries (named entries to) keys =
    c.in_ok-entries.ensures ∙ ap (λ (es : List IndexEntry). with_roots es (named es c.deref-2.result.now) keys) (ap (map entry_of) c.entries.ensures.entries) ∙ ap (λ (name : List ℕ). with_roots entries (named entries name) keys) is_tag in
    all_ok c.tagged.result
    (λ selected roots tags of. (
      key,
      c.in_ok-key.ensures.found,
      (
        others,
        rw roots are,
        tags ∙ ap (λ (name : List ℕ). (name, key) ∷ others) c.in_ok-name.ensures.name,
        ap (map entry_of) of ∙ brought ∙ ap (λ (ks : List Descriptor). with_roots entries (named entries to) ks) (sym roots),
      ),
    ))
    c.tagged.ensures.roots c.tagged.ensures.tags c.tagged.ensures.entries
