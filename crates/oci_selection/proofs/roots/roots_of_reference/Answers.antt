use Rattle.std.proofs.Common.{◌≡◌, ℕ, List, [], map, ap}
use Rattle.std.proofs.lemmas.Result.{IfOk-weaker}
use Rattle.oci_store.specs.Tags.{by_bytes}
use Rattle.oci_layout_store.specs.Meaning.{meaning}
use Rattle.oci_selection.specs.Selected.{AddsTyped, AreReferenceRoots, AreWithAttached}
use Rattle.oci_selection.specs.declared.referrers.Referrers.TheVariants.{Climbed, Attached, OfTypes}
use Rattle.oci_entries.specs.declared.copy_roots.CopyRoots.{CopyRoots}
use Rattle.oci_prune.proofs.Bringing.{ok_both}
use Rattle.oci_selection.proofs.roots.roots_of_reference.Goals as goal

pub returns-in_ok-climb-in-Climbed-clause-exact : goal.returns-in_ok-climb-in-Climbed-clause-exact
returns-in_ok-climb-in-Climbed-clause-exact g c =
    let store = meaning (g.D.Dir.device c.args.source.now.dir) c.args.source.now.graph c.args.source.now.tags in
    let climbed = c.in_ok-climb-in-Climbed.field-0.items in
    let name = c.args.name.now in
    rw (c.in-Climbed.is) (
    IfOk-weaker c.with_attached.result
    (λ (roots : CopyRoots). AreWithAttached store c.deref.result.now name roots.keys.items (by_bytes roots.tags.items))
    (λ (roots : CopyRoots). AreReferenceRoots store (Climbed c.in-Climbed.depth) c.args.key.now name roots.keys.items (by_bytes roots.tags.items))
    (λ roots attached. (climbed, c.in_ok-climb-in-Climbed.ensures, rw c.deref.ensures.value at attached))
    c.with_attached.ensures.exact
    )

pub returns-in-Attached-clause-exact : goal.returns-in-Attached-clause-exact
returns-in-Attached-clause-exact g c =
    let store = meaning (g.D.Dir.device c.args.source.now.dir) c.args.source.now.graph c.args.source.now.tags in
    rw (c.in-Attached.is) (
    IfOk-weaker c.with_attached-in-Attached.result
    (λ (roots : CopyRoots). AreWithAttached store c.from_ref.result.now c.args.name.now roots.keys.items (by_bytes roots.tags.items))
    (λ (roots : CopyRoots). AreReferenceRoots store Attached c.args.key.now c.args.name.now roots.keys.items (by_bytes roots.tags.items))
    (λ roots attached. rw c.from_ref.ensures.value at attached)
    c.with_attached-in-Attached.ensures.exact
    )

pub returns-in-OfTypes-clause-exact : goal.returns-in-OfTypes-clause-exact
returns-in-OfTypes-clause-exact g c =
    let store = meaning (g.D.Dir.device c.args.source.now.dir) c.args.source.now.graph c.args.source.now.tags in
    let types : List (List ℕ) = map (λ t. t.now) c.in-OfTypes.types.now in
    let k = c.args.key.now in
    rw (c.in-OfTypes.is) (
    ok_both c.with_typed.result
    (λ (roots : CopyRoots). AddsTyped store types c.from_ref-in-OfTypes.result.now roots.keys.items)
    (λ (roots : CopyRoots). roots.tags.items ≡ [])
    (λ (roots : CopyRoots). AreReferenceRoots store (OfTypes c.in-OfTypes.types) k c.args.name.now roots.keys.items (by_bytes roots.tags.items))
    (λ roots adds none. (rw c.from_ref-in-OfTypes.ensures.value at adds, ap by_bytes none)) c.with_typed.ensures.keys c.with_typed.ensures.tags
    )
