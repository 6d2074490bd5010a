use Rattle.std.proofs.Common.{◌≡◌, ◌∙◌, [], List, ℕ, map, refl, sym, ap, subst}
use Rattle.std.specs.List.{All}
use Rattle.std.specs.Map.{keys_of}
use Rattle.oci_manifest.specs.Descriptor.{Descriptor}
use Rattle.oci_store.specs.Tags.{Tags, by_bytes}
use Rattle.oci_layout_store.specs.Entries.{entry_of, said}
use Rattle.oci_prune.specs.Attached.{follows_one}
use Rattle.oci_layout_copy.specs.Goal.{entries_of_names}
use Rattle.oci_selection.specs.Selected.{set_tags}
use Rattle.oci_layout_copy.proofs.Goals.{both_named, filtered_named, IsNamed}
use Rattle.oci_layout_copy.proofs.kept.keep_exactly.Goals as goal

pub returns-clause-kept : goal.returns-clause-kept
returns-clause-kept g c =
    let own = by_bytes c.in_ok-own.own.items in
    let entries = (said c.args.destination.now.opened.content).entries in
    let names : c.in_ok-set_of.field-0 ≡ set_tags [] own = c.in_ok-set_of.ensures ∙ ap (λ ts. set_tags [] (by_bytes ts)) c.deref.ensures.value in
    let named : map entry_of c.in_ok-named.named.items ≡ entries_of_names (set_tags [] own) entries = rw (names, c.entries.ensures.entries) at c.in_ok-named.ensures in
    record {
      own = own;
      independent = c.in_ok-own.ensures;
      keys = c.in_ok-keys.keys.items;
      of_names = rw (c.deref-2.ensures.value, c.deref-3.ensures.value, named) at c.in_ok-keys.ensures;
      belonging = c.in_ok-attached.field-0;
      belongs = rw c.deref-4.ensures.value at c.in_ok-attached.ensures;
      kept = c.in_ok-tags.ensures;
      with_them = refl;
    }

pub returns-clause-named : goal.returns-clause-named
returns-clause-named g c =
    let own = by_bytes c.in_ok-own.own.items in
    let spared = by_bytes c.args.spared.now in
    let following = by_bytes c.in_ok-attached.field-0.tags.items in
    let independent = c.in_ok-own.ensures in
    let first : All IsNamed (keys_of own) = subst (λ (ts : Tags). All IsNamed (keys_of ts)) (sym independent.2) (filtered_named _ spared c.requires.named) in
    let second : All IsNamed (keys_of following) =
    subst (λ (ts : Tags). All IsNamed (keys_of ts)) (sym c.in_ok-attached.ensures.complete.tags)
    (filtered_named (λ (t : List ℕ × Descriptor). follows_one c.in_ok-attached.field-0.members.keys t.0) spared c.requires.named) in
    subst (λ (ts : Tags). All IsNamed (keys_of ts)) (sym c.in_ok-tags.ensures) (both_named own following first second)
