use Rattle.std.proofs.Common.{◌≡◌, [], ap, ◌∙◌}
use Rattle.std.specs.Prelude.{Contains}
use Rattle.std.proofs.lemmas.List.Elements.{All-nil}
use Rattle.oci_manifest.specs.Descriptor.{Descriptor}
use Rattle.std.specs.Map.{values_of}
use Rattle.oci_store.specs.Tags.{Tags, by_bytes}
use Rattle.oci_selection.specs.Selected.{other_tags, set_tags, without_tags}
use Rattle.oci_layout_copy.proofs.Retagged.{others_ordered, others_there, retagged, values_set}
use Rattle.oci_selection.proofs.Selections.{among_held}
use Rattle.oci_layout_copy.proofs.retag.retag.Goals as goal

pub tag_all-requires-clause-held : goal.tag_all-requires-clause-held
tag_all-requires-clause-held g c = rw c.tags-tags.ensures.tags (among_held c.args.layout.now.graph c.args.goal.now.0 (values_of c.args.goal.now.1) c.requires.held c.tags-tags.ensures.of_roots.rooted)

pub untag_all-requires-clause-there : goal.untag_all-requires-clause-there
untag_all-requires-clause-there g c =
    let old = c.args.layout.now.tags in
    let kept = c.args.goal.now.1 in
    let all : by_bytes c.deref.result.now ≡ old = ap by_bytes c.deref.ensures.value ∙ c.in_ok-tags.ensures.exact in
    let others : by_bytes c.deref-2.result.now ≡ other_tags old kept =
    ap by_bytes c.deref-2.ensures.value ∙ c.in_ok-others.ensures ∙ ap (λ (ts : Tags). other_tags ts (by_bytes c.tags-tags.result.now)) all ∙ ap (other_tags old) c.tags-tags.ensures.tags in
    let set : c.tag_all.new.destination.tags ≡ set_tags old kept = c.in_default.ensures.tagged ∙ ap (set_tags old) c.tags-tags.ensures.tags in
    rw (others, set) (others_there kept old c.tags.ensures.names.named)

pub untag_all-requires-clause-order : goal.untag_all-requires-clause-order
untag_all-requires-clause-order g c =
    let old = c.args.layout.now.tags in
    let kept = c.args.goal.now.1 in
    let all : by_bytes c.deref.result.now ≡ old = ap by_bytes c.deref.ensures.value ∙ c.in_ok-tags.ensures.exact in
    let others : by_bytes c.deref-2.result.now ≡ other_tags old kept =
    ap by_bytes c.deref-2.ensures.value ∙ c.in_ok-others.ensures ∙ ap (λ (ts : Tags). other_tags ts (by_bytes c.tags-tags.result.now)) all ∙ ap (other_tags old) c.tags-tags.ensures.tags in
    rw others (others_ordered kept old (rw c.in_ok-tags.ensures.exact at c.in_ok-tags.ensures.order))

pub returns-clause-tags : goal.returns-clause-tags
returns-clause-tags g c =
    let old = c.args.layout.now.tags in
    let kept = c.args.goal.now.1 in
    let all : by_bytes c.deref.result.now ≡ old = ap by_bytes c.deref.ensures.value ∙ c.in_ok-tags.ensures.exact in
    let others : by_bytes c.deref-2.result.now ≡ other_tags old kept =
    ap by_bytes c.deref-2.ensures.value ∙ c.in_ok-others.ensures ∙ ap (λ (ts : Tags). other_tags ts (by_bytes c.tags-tags.result.now)) all ∙ ap (other_tags old) c.tags-tags.ensures.tags in
    let set : c.tag_all.new.destination.tags ≡ set_tags old kept = c.in_default.ensures.tagged ∙ ap (set_tags old) c.tags-tags.ensures.tags in
    c.in_default-untag_all.ensures.untagged ∙ ap (without_tags c.tag_all.new.destination.tags) others ∙ ap (λ (ts : Tags). without_tags ts (other_tags old kept)) set
    ∙ retagged kept old (rw c.in_ok-tags.ensures.exact at c.in_ok-tags.ensures.order)

pub returns-clause-rooted : goal.returns-clause-rooted
returns-clause-rooted g c =
    let old = c.args.layout.now.tags in
    let kept = c.args.goal.now.1 in
    let all : by_bytes c.deref.result.now ≡ old = ap by_bytes c.deref.ensures.value ∙ c.in_ok-tags.ensures.exact in
    let others : by_bytes c.deref-2.result.now ≡ other_tags old kept =
    ap by_bytes c.deref-2.ensures.value ∙ c.in_ok-others.ensures ∙ ap (λ (ts : Tags). other_tags ts (by_bytes c.tags-tags.result.now)) all ∙ ap (other_tags old) c.tags-tags.ensures.tags in
    let set : c.tag_all.new.destination.tags ≡ set_tags old kept = c.in_default.ensures.tagged ∙ ap (set_tags old) c.tags-tags.ensures.tags in
    let exact : c.untag_all.new.layout.tags ≡ set_tags [] kept =
    c.in_default-untag_all.ensures.untagged ∙ ap (without_tags c.tag_all.new.destination.tags) others ∙ ap (λ (ts : Tags). without_tags ts (other_tags old kept)) set
    ∙ retagged kept old (rw c.in_ok-tags.ensures.exact at c.in_ok-tags.ensures.order) in
    let P : Descriptor → Type 0 = λ (k : Descriptor). Contains c.args.goal.now.0 k in
    rw exact (values_set P kept [] (All-nil P) c.tags-tags.ensures.of_roots.rooted)
