use Rattle.std.proofs.Common.{◌≡◌, ◌≢◌, ℕ, List, [], String, Global, string_bytes, None, true, false, sym, ap, subst, ◌∙◌, arith}
use Rattle.std.specs.BTreeSet.{contains}
use Rattle.std.specs.List.{All}
use Rattle.std.specs.Map.{keys_of}
use Rattle.std.proofs.lemmas.List.Elements.{recursion_from_All}
use Rattle.oci_manifest.specs.Descriptor.{Descriptor, key_cmp}
use Rattle.oci_store.specs.Tags.{Tags, by_bytes, tag_at, without_tag}
use Rattle.oci_layout_store.proofs.OrderedTags.{IsOrdered}
use Rattle.oci_prune.specs.Untagged.{tags_of_kept}
use Rattle.oci_prune.proofs.Parting.{all_left, name_at, never_refused, next_goes, next_stays, next_there}
use Rattle.oci_prune.proofs.untagged.untag_others.Goals as goal

pub loop-name-preserved-then-contains : goal.loop-name-preserved-then-contains
loop-name-preserved-then-contains g c =
    let was = c.loop-name.invariant in
    let stays : contains key_cmp c.args.kept.now c.loop-name-item.result.1 ≡ true = sym c.contains.ensures ∙ c.if-contains.true in
    record {
      tags = was.tags ∙ sym (next_stays (λ (t : List ℕ × Descriptor). contains key_cmp c.args.kept.now t.1) c.deref-name-items.result.now c.loop-name.name-index c.loop-name-item.result c.loop-name-test.true c.loop-name-item.is stays);
      graph = was.graph;
      dir = was.dir;
      opened = was.opened;
    }

pub unreachable-requires : goal.unreachable-requires
unreachable-requires g c =
    let items = c.deref-name-items.result.now in
    let i = c.loop-name.name-index in
    let item = c.loop-name-item.result in
    let all : c.args.layout.now.tags ≡ by_bytes items = sym (ap by_bytes c.deref-name-items.ensures.value ∙ c.in_ok-tags.ensures.exact) in
    let IsNamed : List ℕ → Type 0 = λ (n : List ℕ). n ≢ [] in
    let named = name_at items i item c.loop-name-test.true c.loop-name-item.is (recursion_from_All IsNamed (keys_of (by_bytes items)) (subst (λ (ts : Tags). All IsNamed (keys_of ts)) all c.tags.ensures.names.named)) in
    let there = subst (λ (ts : Tags). tag_at ts (string_bytes item.0) ≢ None) (sym c.loop-name.invariant.tags) (next_there (λ (t : List ℕ × Descriptor). contains key_cmp c.args.kept.now t.1) items i item c.loop-name-test.true c.loop-name-item.is) in
    never_refused c.loop-name.layout.tags c.deref.result.now c.in-Err.field-0 c.in-Err.ensures.answer c.in-Err.ensures.memory (rw c.deref.ensures named) (rw c.deref.ensures there)

pub loop-name-preserved : goal.loop-name-preserved
loop-name-preserved g c =
    let was = c.loop-name.invariant in
    let items = c.deref-name-items.result.now in
    let item = c.loop-name-item.result in
    let only = c.untag.ensures.only in
    let order : IsOrdered (by_bytes items) = subst (λ (es : List (String Global × Descriptor)). IsOrdered (by_bytes es)) (sym c.deref-name-items.ensures.value) c.in_ok-tags.ensures.order in
    let goes : contains key_cmp c.args.kept.now item.1 ≡ false = sym c.contains.ensures ∙ c.if-contains.false in
    record {
      tags = c.in-Ok.ensures.untagged ∙ ap (without_tag c.loop-name.layout.tags) c.deref.ensures ∙ ap (λ (ts : Tags). without_tag ts (string_bytes item.0)) was.tags
          ∙ sym (next_goes (λ (t : List ℕ × Descriptor). contains key_cmp c.args.kept.now t.1) items c.loop-name.name-index item order c.loop-name-test.true c.loop-name-item.is goes);
      graph = only.graph ∙ was.graph;
      dir = only.dir ∙ was.dir;
      opened = only.opened ∙ was.opened;
    }

pub returns-clause-tags : goal.returns-clause-tags
returns-clause-tags g c =
    let items = c.deref-name-items.result.now in
    c.loop-name.invariant.tags ∙ all_left (λ (t : List ℕ × Descriptor). contains key_cmp c.args.kept.now t.1) items c.loop-name.name-index (omega (arith, c.loop-name-test.false))
    ∙ ap (tags_of_kept c.args.kept.now) (ap by_bytes c.deref-name-items.ensures.value ∙ c.in_ok-tags.ensures.exact)
