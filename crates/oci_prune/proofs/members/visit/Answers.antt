use Rattle.std.proofs.Common.{◌≡◌, Some, option_map, sym, ap, ◌∙◌}
use Rattle.std.specs.Global.{Vec}
use Rattle.oci_manifest.specs.Descriptor.{Descriptor}
use Rattle.oci_store.specs.Keyed.{value_at}
use Rattle.oci_prune.proofs.Keeping.{visit_held}
use Rattle.oci_prune.proofs.members.visit.Goals as goal

pub returns-clause-found : goal.returns-clause-found
returns-clause-found g c =
    let graph = (g.S.Store.state c.args.source.now).nodes in
    let k = c.args.key.now in
    let listed : value_at graph k ≡ Some c.in-Some.successors.items = sym c.in_ok-successors.ensures ∙ ap (option_map (λ (keys : Vec Descriptor). keys.items)) c.in-Some.is in
    visit_held graph c.args.attachments.now k c.args.found.now c.place_attached.new.found c.in-Some.successors.items listed (rw (c.in_ok-place_all.ensures, c.deref.ensures.value) at c.in_ok-place_attached.ensures)
