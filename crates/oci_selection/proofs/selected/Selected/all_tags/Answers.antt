use Rattle.std.proofs.Common.{◌≡◌, ◌∙◌, ◌++◌, ◌&&◌, ℕ, List, map, not, ap, sym, subst}
use Rattle.std.specs.Prelude.{◌↔◌, Contains}
use Rattle.std.specs.List.{All}
use Rattle.std.specs.Map.{values_of}
use Rattle.std.proofs.lemmas.Result.{err_from_is_err_and, IfErr-weaker}
use Rattle.std.proofs.lemmas.List.Elements.{All-filter, Contains-append_left, Contains-append_right}
use Rattle.oci_manifest.specs.Descriptor.{Descriptor}
use Rattle.oci_store.specs.Tags.{Tags, by_bytes}
use Rattle.oci_layout_store.specs.Meaning.{meaning}
use Rattle.oci_layout_store.specs.Brought.{IsShallowEntry}
use Rattle.oci_layout_store.specs.Entries.{IndexEntry, entry_keys, entry_of, said}
use Rattle.oci_layout_store.specs.Saved.{no_name}
use Rattle.oci_program.specs.declared.fault.ProgramFault.{ProgramFault}
use Rattle.oci_program.specs.declared.fault.ProgramFault.TheVariants as program
use Rattle.oci_entries.specs.Brought.{tag_entries, with_roots}
use Rattle.oci_entries.specs.Pattern.{matches_name, matches_one, matching_entries, matching_tags, texts_of}
use Rattle.oci_selection.specs.Refusal.{IsNoTagsFault}
use Rattle.oci_selection.specs.Selected.{named_keys, AreAllRoots, AreNamedHeld, AreOfRoots}
use Rattle.oci_selection.proofs.AttachedRoots.{all_roots_by, all_there, some_of_roots}
use Rattle.oci_selection.proofs.NamedRoots.{keys_named}
use Rattle.oci_selection.proofs.Refusals.{other_fault}
use Rattle.oci_selection.proofs.Selections.{all_ok}
use Rattle.oci_selection.proofs.selected.Selected.all_tags.Goals as goal

pub with_tags-requires-clause-tagged : goal.with_tags-requires-clause-tagged
with_tags-requires-clause-tagged g c =
    let patterns = texts_of c.args.patterns.now in
    let store = meaning (g.D.Dir.device c.args.source.now.dir) c.args.source.now.graph c.args.source.now.tags in
    let tags = by_bytes c.in_ok-tags.tags.items in
    let named = map entry_of c.in_ok-named.named.items in
    let keys = c.in_ok-keys.keys.items in
    let roots = c.in_ok-roots.roots.keys.items in
    let others = by_bytes c.in_ok-roots.roots.tags.items in
    let untagged = c.in_ok-untagged.untagged.items in
    let same : (k : Descriptor) → Contains keys k ↔ Contains (named_keys tags named ++ untagged) k = rw (c.deref.ensures.value, c.deref-2.ensures.value, c.deref-3.ensures.value) at c.in_ok-keys.ensures in
    let are : AreAllRoots store patterns c.args.referrers keys roots others = rw c.deref-4.ensures.value at c.in_ok-roots.ensures.exact in
    let rooted = all_there store patterns c.args.referrers (values_of tags) keys roots others (λ k there. (same k).1 (Contains-append_left (named_keys tags named) untagged k (Contains-append_left (values_of tags) (entry_keys named) k there))) are in
    let is_tags = c.in_ok-tags.ensures.tags in
    subst (AreOfRoots roots) (sym is_tags)
    (some_of_roots roots (λ (t : List ℕ × Descriptor). matches_one patterns t.0) c.args.source.now.tags c.tags_to_copy.ensures.named.named (subst (λ (ts : Tags). All (λ (k : Descriptor). Contains roots k) (values_of ts)) is_tags rooted))

pub with_tags-requires-clause-named : goal.with_tags-requires-clause-named
with_tags-requires-clause-named g c =
    let patterns = texts_of c.args.patterns.now in
    let store = meaning (g.D.Dir.device c.args.source.now.dir) c.args.source.now.graph c.args.source.now.tags in
    let tags = by_bytes c.in_ok-tags.tags.items in
    let named = map entry_of c.in_ok-named.named.items in
    let keys = c.in_ok-keys.keys.items in
    let roots = c.in_ok-roots.roots.keys.items in
    let others = by_bytes c.in_ok-roots.roots.tags.items in
    let untagged = c.in_ok-untagged.untagged.items in
    let same : (k : Descriptor) → Contains keys k ↔ Contains (named_keys tags named ++ untagged) k = rw (c.deref.ensures.value, c.deref-2.ensures.value, c.deref-3.ensures.value) at c.in_ok-keys.ensures in
    let are : AreAllRoots store patterns c.args.referrers keys roots others = rw c.deref-4.ensures.value at c.in_ok-roots.ensures.exact in
    keys_named roots named (all_there store patterns c.args.referrers (entry_keys named) keys roots others (λ k there. (same k).1 (Contains-append_left (named_keys tags named) untagged k (Contains-append_right (values_of tags) (entry_keys named) k there))) are)

pub with_tags-requires-clause-shallow : goal.with_tags-requires-clause-shallow
with_tags-requires-clause-shallow g c =
    let patterns = texts_of c.args.patterns.now in
    let entries = map entry_of c.entries-2.result.now in
    let shallow : All IsShallowEntry entries = subst (All IsShallowEntry) (sym (ap (map entry_of) c.entries-2.ensures.entries)) c.entries-2.ensures.shallow in
    subst (All IsShallowEntry) (sym c.in_ok-named.ensures) (All-filter (λ (e : IndexEntry). not (no_name e.name) && matches_name patterns e.name) IsShallowEntry entries shallow)

pub returns-clause-selects : goal.returns-clause-selects
returns-clause-selects g c =
    let patterns = texts_of c.args.patterns.now in
    let store = meaning (g.D.Dir.device c.args.source.now.dir) c.args.source.now.graph c.args.source.now.tags in
    let entries = (said c.args.source.now.opened.content).entries in
    let tags = by_bytes c.in_ok-tags.tags.items in
    let named = map entry_of c.in_ok-named.named.items in
    let keys = c.in_ok-keys.keys.items in
    let roots = c.in_ok-roots.roots.keys.items in
    let others = by_bytes c.in_ok-roots.roots.tags.items in
    let is_tags : tags ≡ matching_tags patterns c.args.source.now.tags = c.in_ok-tags.ensures.tags in
    let is_named : named ≡ matching_entries patterns entries = c.in_ok-named.ensures ∙ ap (λ es. matching_entries patterns (map entry_of es)) c.entries-2.ensures.entries in
    let untagged = c.in_ok-untagged.untagged.items in
    let same : (k : Descriptor) → Contains keys k ↔ Contains (named_keys (matching_tags patterns c.args.source.now.tags) (matching_entries patterns entries) ++ untagged) k = rw (c.deref.ensures.value, c.deref-2.ensures.value, c.deref-3.ensures.value, is_tags, is_named) at c.in_ok-keys.ensures in
    let are : AreAllRoots store patterns c.args.referrers keys roots others = rw c.deref-4.ensures.value at c.in_ok-roots.ensures.exact in
    let exact = all_roots_by store patterns c.args.referrers keys (named_keys (matching_tags patterns c.args.source.now.tags) (matching_entries patterns entries) ++ untagged) roots others same are in
    all_ok c.with_tags.result
    (λ selected is_roots all of. record {
      others = others;
      untagged = untagged;
      are_untagged = c.in_ok-untagged.ensures.exact;
      named = subst (AreNamedHeld c.args.source.now.graph patterns) c.entries.ensures.entries c.in_ok-check_entries.ensures.held;
      whole = c.in_ok-check_each_if.ensures.each;
      tagged = c.in_ok-tags.ensures.tagged;
      tags = all ∙ ap (λ (ts : Tags). ts ++ others) is_tags;
      roots = rw is_roots exact;
      entries = of ∙ ap (λ (es : List IndexEntry). with_roots entries (es ++ tag_entries entries others) roots) is_named ∙ ap (λ (ks : List Descriptor). with_roots entries (matching_entries patterns entries ++ tag_entries entries others) ks) (sym is_roots);
    })
    c.with_tags.ensures.roots c.with_tags.ensures.tags c.with_tags.ensures.entries

pub returns-in_err-check_entries-clause-refused : goal.returns-in_err-check_entries-clause-refused
returns-in_err-check_entries-clause-refused g c =
    let p = err_from_is_err_and c.from_residual.result c.from_residual.ensures.1 in
    rw (p.1, p.2) (other_fault (texts_of c.args.patterns.now) c.args.source.now.tags c.in_err-check_entries.field-0.0 c.in_err-check_entries.ensures.refused)

pub returns-in_err-check_each_if-clause-refused : goal.returns-in_err-check_each_if-clause-refused
returns-in_err-check_each_if-clause-refused g c =
    let p = err_from_is_err_and c.from_residual-in_err-check_each_if.result c.from_residual-in_err-check_each_if.ensures.1 in
    rw (p.1, p.2) (other_fault (texts_of c.args.patterns.now) c.args.source.now.tags c.in_err-check_each_if.field-0.0 c.in_err-check_each_if.ensures.refused)

pub returns-in_err-untagged-clause-refused : goal.returns-in_err-untagged-clause-refused
returns-in_err-untagged-clause-refused g c =
    let p = err_from_is_err_and c.from_residual-in_err-untagged.result c.from_residual-in_err-untagged.ensures.1 in
    rw (p.1, p.2) (other_fault (texts_of c.args.patterns.now) c.args.source.now.tags c.in_err-untagged.field-0.0 c.in_err-untagged.ensures.refused)

pub returns-in_err-roots-clause-refused : goal.returns-in_err-roots-clause-refused
returns-in_err-roots-clause-refused g c =
    let p = err_from_is_err_and c.from_residual-in_err-roots.result c.from_residual-in_err-roots.ensures.1 in
    rw (p.1, p.2) (other_fault (texts_of c.args.patterns.now) c.args.source.now.tags c.in_err-roots.field-0.0 c.in_err-roots.ensures.refused)

pub returns-clause-refused : goal.returns-clause-refused
returns-clause-refused g c =
    IfErr-weaker c.with_tags.result (λ (e : ProgramFault). e ≡ program.Memory) (IsNoTagsFault (texts_of c.args.patterns.now) c.args.source.now.tags) (λ e is. rw is tt) c.with_tags.ensures.memory
