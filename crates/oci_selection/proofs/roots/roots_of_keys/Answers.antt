use Rattle.std.proofs.Common.{◌≡◌, ℕ, List, [], map, ap}
use Rattle.std.proofs.lemmas.Result.{IfOk-weaker}
use Rattle.oci_store.specs.Tags.{by_bytes}
use Rattle.oci_layout_store.specs.Meaning.{meaning}
use Rattle.oci_entries.specs.Pattern.{texts_of}
use Rattle.oci_selection.specs.Selected.{AddsAttached, AddsTyped, AreAllRoots}
use Rattle.oci_selection.specs.declared.referrers.Referrers.TheVariants.{Climbed, Attached, OfTypes}
use Rattle.oci_entries.specs.declared.copy_roots.CopyRoots.{CopyRoots}
use Rattle.oci_prune.proofs.Bringing.{ok_both}
use Rattle.oci_selection.proofs.roots.roots_of_keys.Goals as goal

pub returns-in_ok-climbed-in-Climbed-clause-exact : goal.returns-in_ok-climbed-in-Climbed-clause-exact
returns-in_ok-climbed-in-Climbed-clause-exact g c =
    let store = meaning (g.D.Dir.device c.args.source.now.dir) c.args.source.now.graph c.args.source.now.tags in
    let patterns = texts_of c.args.patterns.now in
    let climbed = c.in_ok-climbed-in-Climbed.climbed.items in
    rw (c.in-Climbed.is) (
    IfOk-weaker c.add_attached.result
    (λ (roots : CopyRoots). AddsAttached store patterns c.deref.result.now roots.keys.items (by_bytes roots.tags.items))
    (λ (roots : CopyRoots). AreAllRoots store patterns (Climbed c.in-Climbed.depth) c.args.keys.now roots.keys.items (by_bytes roots.tags.items))
    (λ roots attached. (climbed, c.in_ok-climbed-in-Climbed.ensures, rw c.deref.ensures.value at attached))
    c.add_attached.ensures.exact
    )

pub returns-in_ok-climbed-in-Attached-clause-exact : goal.returns-in_ok-climbed-in-Attached-clause-exact
returns-in_ok-climbed-in-Attached-clause-exact g c =
    let store = meaning (g.D.Dir.device c.args.source.now.dir) c.args.source.now.graph c.args.source.now.tags in
    let patterns = texts_of c.args.patterns.now in
    let climbed = c.in_ok-climbed-in-Attached.climbed.items in
    rw (c.in-Attached.is) (
    IfOk-weaker c.add_attached-in-Attached.result
    (λ (roots : CopyRoots). AddsAttached store patterns c.deref-in-Attached.result.now roots.keys.items (by_bytes roots.tags.items))
    (λ (roots : CopyRoots). AreAllRoots store patterns Attached c.args.keys.now roots.keys.items (by_bytes roots.tags.items))
    (λ roots attached. (climbed, c.in_ok-climbed-in-Attached.ensures, rw c.deref-in-Attached.ensures.value at attached))
    c.add_attached-in-Attached.ensures.exact
    )

pub returns-in_ok-once-in-OfTypes-clause-exact : goal.returns-in_ok-once-in-OfTypes-clause-exact
returns-in_ok-once-in-OfTypes-clause-exact g c =
    let store = meaning (g.D.Dir.device c.args.source.now.dir) c.args.source.now.graph c.args.source.now.tags in
    let patterns = texts_of c.args.patterns.now in
    let types : List (List ℕ) = map (λ t. t.now) c.in-OfTypes.types.now in
    let once = c.in_ok-once-in-OfTypes.once.items in
    rw (c.in-OfTypes.is) (
    ok_both c.with_typed.result
    (λ (roots : CopyRoots). AddsTyped store types c.deref-in-OfTypes.result.now roots.keys.items)
    (λ (roots : CopyRoots). roots.tags.items ≡ [])
    (λ (roots : CopyRoots). AreAllRoots store patterns (OfTypes c.in-OfTypes.types) c.args.keys.now roots.keys.items (by_bytes roots.tags.items))
    (λ roots adds none. ((once, c.in_ok-once-in-OfTypes.ensures, rw c.deref-in-OfTypes.ensures.value at adds), ap by_bytes none)) c.with_typed.ensures.keys c.with_typed.ensures.tags
    )
