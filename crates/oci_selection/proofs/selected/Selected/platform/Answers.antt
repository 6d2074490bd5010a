use Rattle.std.proofs.Common.{◌≡◌, ◌∙◌, ◌∷◌, ℕ, List, Some, map, ap, sym, subst}
use Rattle.std.specs.List.{All}
use Rattle.oci_manifest.specs.Descriptor.{Descriptor}
use Rattle.oci_copy.specs.Tagged.{name_of}
use Rattle.oci_store.specs.Tags.{by_bytes}
use Rattle.oci_layout_store.specs.Meaning.{meaning}
use Rattle.oci_layout_store.specs.Brought.{renamed, IsShallowEntry}
use Rattle.oci_layout_store.specs.Entries.{IndexEntry, entry_of, said}
use Rattle.oci_reference.specs.Platform.{entry_for, picked_of}
use Rattle.oci_entries.specs.Brought.{tag_entries, with_roots}
use Rattle.oci_selection.specs.Selected.{AreReferenceRoots, IsOfRoot}
use Rattle.oci_selection.proofs.AttachedRoots.{reference_there}
use Rattle.oci_entries.proofs.BroughtEntries.{listed_shallow, with_roots_shallow}
use Rattle.oci_selection.proofs.NamedRoots.{listed_named, with_roots_named}
use Rattle.oci_selection.proofs.Selections.{all_ok}
use Rattle.oci_selection.proofs.selected.Selected.platform.Goals as goal

pub tagged-requires-clause-rooted : goal.tagged-requires-clause-rooted
tagged-requires-clause-rooted g c =
    reference_there (meaning (g.D.Dir.device c.args.source.now.dir) c.args.source.now.graph c.args.source.now.tags) c.args.referrers c.in_ok-picked.picked c.deref.result.now c.in_ok-roots.roots.keys.items
    (by_bytes c.in_ok-roots.roots.tags.items) c.in_ok-roots.ensures.exact

pub tagged-requires-clause-of_roots : goal.tagged-requires-clause-of_roots
unfolding tagged-requires-clause-rooted
tagged-requires-clause-of_roots g c =
    let roots = c.in_ok-roots.roots.keys.items in
    let entries = map entry_of c.entries.result.now in
    let others = by_bytes c.in_ok-roots.roots.tags.items in
    let listed = entry_of c.in_ok-picked.listed in
    let has : listed.key ≡ Some c.in_ok-picked.picked = ap (λ (e : IndexEntry). e.key) c.in_ok-picked.ensures.entry ∙ ap Some (sym c.in_ok-picked.ensures.key) in
    let named : List IndexEntry = renamed (Some c.deref-2.result.now) listed ∷ tag_entries entries others in
    subst (All (IsOfRoot roots)) (sym c.in_ok-entries.ensures)
    (with_roots_named roots entries named roots (listed_named roots entries listed c.deref-2.result.now c.in_ok-picked.picked others has (tagged-requires-clause-rooted g c) c.in_ok-roots.ensures.tagged.rooted))

pub tagged-requires-clause-shallow : goal.tagged-requires-clause-shallow
tagged-requires-clause-shallow g c =
    let roots = c.in_ok-roots.roots.keys.items in
    let entries = map entry_of c.entries.result.now in
    let others = by_bytes c.in_ok-roots.roots.tags.items in
    let listed = entry_of c.in_ok-picked.listed in
    let named : List IndexEntry = renamed (Some c.deref-2.result.now) listed ∷ tag_entries entries others in
    let shallow : All IsShallowEntry entries = subst (All IsShallowEntry) (sym (ap (map entry_of) c.entries.ensures.entries)) c.entries.ensures.shallow in
    let here : IsShallowEntry listed = subst IsShallowEntry (sym c.in_ok-picked.ensures.entry) c.in_ok-pick_platform.ensures.shallow in
    subst (All IsShallowEntry) (sym c.in_ok-entries.ensures) (with_roots_shallow entries named roots shallow (listed_shallow entries listed c.deref-2.result.now others shallow here))

pub returns : goal.returns
returns g c =
    let p = c.in_ok-pick_platform.field-0 in
    let from = c.args.from.now in
    let to = name_of from c.args.to.now in
    let entries = (said c.args.source.now.opened.content).entries in
    let keys = c.in_ok-roots.roots.keys.items in
    let others = by_bytes c.in_ok-roots.roots.tags.items in
    let store = meaning (g.D.Dir.device c.args.source.now.dir) c.args.source.now.graph c.args.source.now.tags in
    let named : List IndexEntry → List ℕ → IndexEntry → List IndexEntry = λ es name e. renamed (Some name) e ∷ tag_entries es others in
    let is_name : c.deref.result.now ≡ to = c.deref.ensures ∙ c.in_ok-name.ensures.name in
    let is_tag : c.deref-2.result.now ≡ to = c.deref-2.ensures ∙ c.in_ok-name.ensures.name in
    let at_name : AreReferenceRoots store c.args.referrers c.in_ok-picked.picked to keys others = rw is_name at c.in_ok-roots.ensures.exact in
    let are : AreReferenceRoots store c.args.referrers p.key to keys others = subst (λ (k : Descriptor). AreReferenceRoots store c.args.referrers k to keys others) c.in_ok-picked.ensures.key at_name in
    let listed : IndexEntry = entry_for (picked_of p) in
    let brought : map entry_of c.in_ok-entries.entries.items ≡ with_roots entries (named entries to listed) keys =
    c.in_ok-entries.ensures ∙ ap (λ (es : List IndexEntry). with_roots es (named es c.deref-2.result.now (entry_of c.in_ok-picked.listed)) keys) (ap (map entry_of) c.entries.ensures.entries)
    ∙ ap (λ (name : List ℕ). with_roots entries (named entries name (entry_of c.in_ok-picked.listed)) keys) is_tag ∙ ap (λ (e : IndexEntry). with_roots entries (named entries to e) keys) c.in_ok-picked.ensures.entry in
    all_ok c.tagged.result
    (λ selected roots tags of. (
      c.in_ok-index.index,
      p,
      c.in_ok-index.ensures.found,
      c.in_ok-pick_platform.ensures.first,
      c.in_ok-pick_platform.ensures.held,
      (
        others,
        rw roots are,
        tags ∙ ap (λ (name : List ℕ). (name, c.in_ok-picked.picked) ∷ others) c.in_ok-name.ensures.name ∙ ap (λ (k : Descriptor). (to, k) ∷ others) c.in_ok-picked.ensures.key,
        ap (map entry_of) of ∙ brought ∙ ap (λ (ks : List Descriptor). with_roots entries (named entries to listed) ks) (sym roots),
      ),
    ))
    c.tagged.ensures.roots c.tagged.ensures.tags c.tagged.ensures.entries
