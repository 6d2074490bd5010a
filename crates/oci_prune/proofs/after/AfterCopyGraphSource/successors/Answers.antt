use Rattle.std.proofs.Common.{◌≡◌, Some, None, refl, sym, ◌∙◌}
use Rattle.std.specs.BTreeSet.{contains}
use Rattle.std.proofs.lemmas.Result.{IfOk-weaker}
use Rattle.oci_manifest.specs.Descriptor.{key_cmp}
use Rattle.oci_store.specs.Keyed.{value_at}
use Rattle.oci_prune.proofs.Arriving.{absent_value, found_as, not_found_as, value_new, value_there}
use Rattle.oci_prune.proofs.after.AfterCopyGraphSource.successors.Goals as goal

pub returns-in-Some : goal.returns-in-Some
returns-in-Some g c =
    let s = c.args.self.now in
    let old = (g.D.Store.state s.destination.now).nodes in
    let there : value_at old c.args.key.now ≡ Some c.in-Some.listed.items = found_as _ c.in_ok-listed.field-0 _ c.in-Some.listed c.in_ok-listed.ensures c.in-Some.is in
    sym (value_there (contains key_cmp s.arriving.now) (g.S.Store.state s.source.now).nodes old c.args.key.now c.in-Some.listed.items there)

pub returns-in-None : goal.returns-in-None
returns-in-None g c =
    let s = c.args.self.now in
    let old = (g.D.Store.state s.destination.now).nodes in
    let none : value_at old c.args.key.now ≡ None = not_found_as _ c.in_ok-listed.field-0 _ c.in_ok-listed.ensures c.in-None.is in
    IfOk-weaker c.arriving_successors.result _ _
    (λ listed is. is ∙ sym (value_new (contains key_cmp s.arriving.now) (contains key_cmp s.arriving.now c.args.key.now) (g.S.Store.state s.source.now).nodes old c.args.key.now (absent_value old c.args.key.now none) refl)) c.arriving_successors.ensures
