use Rattle.std.proofs.Common.{◌≡◌, ◌∙◌, sym, ap, subst}
use Rattle.std.specs.List.{All}
use Rattle.std.specs.Map.{keys_of}
use Rattle.oci_store.specs.Tags.{Tags, by_bytes}
use Rattle.oci_layout_copy.specs.Goal.{spared_tags}
use Rattle.oci_entries.specs.Pattern.{texts_of, unmatched_tags}
use Rattle.oci_selection.specs.Selected.{other_tags}
use Rattle.oci_layout_copy.proofs.Goals.{spared_named, IsNamed}
use Rattle.oci_layout_copy.proofs.kept.kept_tags.Goals as goal

pub keep_exactly-requires : goal.keep_exactly-requires
keep_exactly-requires g c =
    let patterns = texts_of c.args.patterns.now in
    let tags = c.args.destination.now.tags in
    let unmatched : by_bytes c.in_ok-unmatched.unmatched.items ≡ unmatched_tags patterns tags = c.in_ok-unmatched.ensures ∙ ap (unmatched_tags patterns) (ap by_bytes c.deref.ensures.value ∙ c.in_ok-tags.ensures.exact) in
    let spared : by_bytes c.in_ok-spared.spared.items ≡ spared_tags patterns tags c.args.selected.now.1 =
    c.in_ok-spared.ensures ∙ ap (λ (ts : Tags). other_tags ts (by_bytes c.tags-2.result.now)) (ap by_bytes c.deref-2.ensures.value ∙ unmatched) ∙ ap (other_tags (unmatched_tags patterns tags)) c.tags-2.ensures.tags in
    record { named = subst (λ (ts : Tags). All IsNamed (keys_of ts)) (sym (ap by_bytes c.deref-then-not-is_empty.ensures.value ∙ spared)) (spared_named patterns tags c.args.selected.now.1 c.tags.ensures.names.named) }

pub returns-clause-named : goal.returns-clause-named
returns-clause-named g c =
    let patterns = texts_of c.args.patterns.now in
    let tags = c.args.destination.now.tags in
    let unmatched : by_bytes c.in_ok-unmatched.unmatched.items ≡ unmatched_tags patterns tags = c.in_ok-unmatched.ensures ∙ ap (unmatched_tags patterns) (ap by_bytes c.deref.ensures.value ∙ c.in_ok-tags.ensures.exact) in
    let spared : by_bytes c.in_ok-spared.spared.items ≡ spared_tags patterns tags c.args.selected.now.1 =
    c.in_ok-spared.ensures ∙ ap (λ (ts : Tags). other_tags ts (by_bytes c.tags-2.result.now)) (ap by_bytes c.deref-2.ensures.value ∙ unmatched) ∙ ap (other_tags (unmatched_tags patterns tags)) c.tags-2.ensures.tags in
    subst (λ (ts : Tags). All IsNamed (keys_of ts)) (sym spared) (spared_named patterns tags c.args.selected.now.1 c.tags.ensures.names.named)
