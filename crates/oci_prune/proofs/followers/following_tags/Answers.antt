use Rattle.std.proofs.Common.{◌≡◌, List, ℕ, true, false, string_bytes, sym, ap, ◌∙◌}
use Rattle.std.specs.BTreeSet.{contains_text}
use Rattle.oci_manifest.specs.Descriptor.{Descriptor}
use Rattle.oci_prune.specs.Attached.{stem, follows_one}
use Rattle.oci_prune.proofs.Following.{tags_kept, tags_passed}
use Rattle.oci_prune.proofs.followers.following_tags.Goals as goal

pub loop-tag-preserved-then-not-contains : goal.loop-tag-preserved-then-not-contains
loop-tag-preserved-then-not-contains c =
    let name = string_bytes c.tag-item.result.0 in
    let text : c.stem.result.now ≡ stem name = c.stem.ensures ∙ ap stem c.as_str.ensures.value in
    let test : follows_one c.args.subjects.now name ≡ false = sym (c.in_ok-stems.ensures (stem name)) ∙ ap (λ (t : List ℕ). contains_text c.in_ok-stems.stems t) (sym text) ∙ sym c.contains.ensures ∙ c.if-not-contains.true in
    tags_passed (λ (tag : List ℕ × Descriptor). follows_one c.args.subjects.now tag.0) c.args.tags.now c.loop-tag.following.items c.loop-tag.tag-index c.tag-item.result c.loop-tag-test.true c.tag-item.is c.loop-tag.invariant test

pub loop-tag-preserved : goal.loop-tag-preserved
loop-tag-preserved c =
    let name = string_bytes c.tag-item.result.0 in
    let text : c.stem.result.now ≡ stem name = c.stem.ensures ∙ ap stem c.as_str.ensures.value in
    let test : follows_one c.args.subjects.now name ≡ true = sym (c.in_ok-stems.ensures (stem name)) ∙ ap (λ (t : List ℕ). contains_text c.in_ok-stems.stems t) (sym text) ∙ sym c.contains.ensures ∙ c.if-not-contains.false in
    rw c.in_ok-push.ensures.items
    (tags_kept (λ (tag : List ℕ × Descriptor). follows_one c.args.subjects.now tag.0) c.args.tags.now c.loop-tag.following.items c.loop-tag.tag-index c.tag-item.result (c.in_ok-clone.field-0, c.in_ok-try_clone.field-0) c.loop-tag-test.true c.tag-item.is c.loop-tag.invariant test
    c.in_ok-clone.ensures.cases c.in_ok-try_clone.ensures)
