use Rattle.std.proofs.Common.{◌≡◌, ◌∙◌, [], List, map, ap, subst}
use Rattle.oci_store.specs.Tags.{Tags, by_bytes}
use Rattle.oci_layout_store.specs.Brought.{Forgets}
use Rattle.oci_layout_store.specs.Entries.{IndexEntry, entry_of}
use Rattle.oci_layout_copy.specs.Goal.{forgotten_entries}
use Rattle.oci_entries.specs.Pattern.{texts_of}
use Rattle.oci_selection.specs.Selected.{other_tags, set_tags}
use Rattle.oci_layout_copy.proofs.kept.forget_others.Goals as goal

pub returns-clause-forgotten : goal.returns-clause-forgotten
returns-clause-forgotten g c =
    let patterns = texts_of c.args.patterns.now in
    let kept = by_bytes c.args.kept.now in
    let old = c.args.destination.now in
    let all : by_bytes c.deref.result.now ≡ old.tags = ap by_bytes c.deref.ensures.value ∙ c.in_ok-tags.ensures.exact in
    let others : by_bytes c.deref-2.result.now ≡ other_tags old.tags kept = ap by_bytes c.deref-2.ensures.value ∙ c.in_ok-other_tags.ensures ∙ ap (λ (ts : Tags). other_tags ts kept) all in
    let gone : c.in_ok-gone.gone ≡ set_tags [] (other_tags old.tags kept) = c.in_ok-gone.ensures ∙ ap (set_tags []) others in
    let chosen : c.in_ok-chosen.chosen ≡ set_tags [] c.args.selected.now.1 = c.in_ok-chosen.ensures ∙ ap (set_tags []) c.tags-2.ensures.tags in
    let forgotten : map entry_of c.in_ok-forgotten.forgotten.items ≡ forgotten_entries patterns (set_tags [] (other_tags old.tags kept)) (set_tags [] c.args.selected.now.1) (map entry_of old.opened.content.entries) =
    rw (gone, chosen, c.entries-2.ensures.entries) at c.in_ok-forgotten.ensures in
    subst (λ (es : List IndexEntry). Forgets es old.opened c.forget.new.self.opened) (ap (map entry_of) c.deref-3.ensures.value ∙ forgotten) c.in_ok-forget.ensures.forgotten
