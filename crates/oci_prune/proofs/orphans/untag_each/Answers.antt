use Rattle.std.proofs.Common.{◌≡◌, ◌≢◌, ℕ, List, [], Bool, String, Global, string_bytes, None, true, false, not, ◌&&◌, sym, ap, subst, ◌∙◌, arith}
use Rattle.std.specs.BTreeSet.{contains_text}
use Rattle.std.specs.List.{All}
use Rattle.std.specs.Map.{keys_of}
use Rattle.std.proofs.lemmas.List.{take_all}
use Rattle.std.proofs.lemmas.List.Elements.{recursion_from_All}
use Rattle.oci_manifest.specs.Descriptor.{Descriptor}
use Rattle.oci_store.specs.Tags.{Tags, by_bytes, tag_at, without_tag}
use Rattle.oci_layout_store.proofs.OrderedTags.{IsOrdered}
use Rattle.oci_prune.specs.Attached.{follows_one, is_stem_of, stem}
use Rattle.oci_prune.specs.Orphans.{is_orphan, orphans_in, without_orphans}
use Rattle.oci_prune.proofs.Following.{tags_kept, tags_passed}
use Rattle.oci_prune.proofs.Parting.{all_left, name_at, never_refused, next_goes, next_stays, next_there}
use Rattle.oci_prune.proofs.orphans.untag_each.Goals as goal

pub loop-name-preserved-then-not-branch : goal.loop-name-preserved-then-not-branch
loop-name-preserved-then-not-branch g c =
    let P = is_orphan c.args.held.now c.args.wanted.now in
    let was = c.loop-name.invariant in
    let items = c.deref-name-items.result.now in
    let i = c.loop-name.name-index in
    let item = c.loop-name-item.result in
    let name = string_bytes item.0 in
    let digest = item.1.digest in
    let stems = c.in_ok-stems.stems in
    let staying = c.in_ok-staying.staying in
    let test : P (name, item.1) ≡ false =
    ap (λ (b : Bool). (b && not (follows_one c.args.wanted.now name)) && not (is_stem_of (stem name) digest)) (sym (c.in_ok-stems.ensures (stem name)))
    ∙ ap (λ (b : Bool). (contains_text stems (stem name) && not b) && not (is_stem_of (stem name) digest)) (sym (c.in_ok-staying.ensures (stem name)))
    ∙ ap (λ (t : List ℕ). (contains_text stems (stem t) && not (contains_text staying (stem t))) && not (is_stem_of (stem t) digest)) (sym c.as_str-text.ensures.value) ∙ sym c.in_ok-is_orphan.ensures ∙ c.if-not-branch.true in
    record {
      tags = was.tags ∙ sym (next_stays (λ (t : List ℕ × Descriptor). not (P t)) items i item c.loop-name-test.true c.loop-name-item.is (ap not test));
      gone = tags_passed P items c.loop-name.gone.items i item c.loop-name-test.true c.loop-name-item.is was.gone test;
      graph = was.graph;
      dir = was.dir;
      opened = was.opened;
    }

pub unreachable-requires : goal.unreachable-requires
unreachable-requires g c =
    let P = is_orphan c.args.held.now c.args.wanted.now in
    let items = c.deref-name-items.result.now in
    let i = c.loop-name.name-index in
    let item = c.loop-name-item.result in
    let all : c.args.layout.now.tags ≡ by_bytes items = sym (ap by_bytes c.deref-name-items.ensures.value ∙ c.in_ok-tags.ensures.exact) in
    let IsNamed : List ℕ → Type 0 = λ (n : List ℕ). n ≢ [] in
    let named = name_at items i item c.loop-name-test.true c.loop-name-item.is (recursion_from_All IsNamed (keys_of (by_bytes items)) (subst (λ (ts : Tags). All IsNamed (keys_of ts)) all c.tags.ensures.names.named)) in
    let there = subst (λ (ts : Tags). tag_at ts (string_bytes item.0) ≢ None) (sym c.loop-name.invariant.tags) (next_there (λ (t : List ℕ × Descriptor). not (P t)) items i item c.loop-name-test.true c.loop-name-item.is) in
    never_refused c.loop-name.layout.tags c.as_str-text.result.now c.in-Err.field-0 c.in-Err.ensures.answer c.in-Err.ensures.memory (rw c.as_str-text.ensures.value named) (rw c.as_str-text.ensures.value there)

pub loop-name-preserved : goal.loop-name-preserved
loop-name-preserved g c =
    let P = is_orphan c.args.held.now c.args.wanted.now in
    let was = c.loop-name.invariant in
    let items = c.deref-name-items.result.now in
    let i = c.loop-name.name-index in
    let item = c.loop-name-item.result in
    let name = string_bytes item.0 in
    let digest = item.1.digest in
    let stems = c.in_ok-stems.stems in
    let staying = c.in_ok-staying.staying in
    let only = c.untag.ensures.only in
    let test : P (name, item.1) ≡ true =
    ap (λ (b : Bool). (b && not (follows_one c.args.wanted.now name)) && not (is_stem_of (stem name) digest)) (sym (c.in_ok-stems.ensures (stem name)))
    ∙ ap (λ (b : Bool). (contains_text stems (stem name) && not b) && not (is_stem_of (stem name) digest)) (sym (c.in_ok-staying.ensures (stem name)))
    ∙ ap (λ (t : List ℕ). (contains_text stems (stem t) && not (contains_text staying (stem t))) && not (is_stem_of (stem t) digest)) (sym c.as_str-text.ensures.value) ∙ sym c.in_ok-is_orphan.ensures ∙ c.if-not-branch.false in
    let order : IsOrdered (by_bytes items) = subst (λ (es : List (String Global × Descriptor)). IsOrdered (by_bytes es)) (sym c.deref-name-items.ensures.value) c.in_ok-tags.ensures.order in
    record {
      tags = c.in-Ok.ensures.untagged ∙ ap (without_tag c.loop-name.layout.tags) c.as_str-text.ensures.value ∙ ap (λ (ts : Tags). without_tag ts name) was.tags
          ∙ sym (next_goes (λ (t : List ℕ × Descriptor). not (P t)) items i item order c.loop-name-test.true c.loop-name-item.is (ap not test));
      gone = rw c.in_ok-push.ensures.items (tags_kept P items c.loop-name.gone.items i item (c.in_ok-clone.field-0, c.in_ok-try_clone.field-0) c.loop-name-test.true c.loop-name-item.is was.gone test c.in_ok-clone.ensures.cases c.in_ok-try_clone.ensures);
      graph = only.graph ∙ was.graph;
      dir = only.dir ∙ was.dir;
      opened = only.opened ∙ was.opened;
    }

pub returns-clause-gone : goal.returns-clause-gone
returns-clause-gone g c =
    let items = c.deref-name-items.result.now in
    let found = orphans_in c.args.held.now c.args.wanted.now in
    c.loop-name.invariant.gone ∙ ap (λ (ts : List (String Global × Descriptor)). found (by_bytes ts)) (take_all c.loop-name.name-index items (omega (arith, c.loop-name-test.false)))
    ∙ ap found (ap by_bytes c.deref-name-items.ensures.value ∙ c.in_ok-tags.ensures.exact)

pub returns-clause-tags : goal.returns-clause-tags
returns-clause-tags g c =
    let items = c.deref-name-items.result.now in
    c.loop-name.invariant.tags ∙ all_left (λ (t : List ℕ × Descriptor). not (is_orphan c.args.held.now c.args.wanted.now t)) items c.loop-name.name-index (omega (arith, c.loop-name-test.false))
    ∙ ap (without_orphans c.args.held.now c.args.wanted.now) (ap by_bytes c.deref-name-items.ensures.value ∙ c.in_ok-tags.ensures.exact)
