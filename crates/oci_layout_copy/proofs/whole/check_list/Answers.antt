use Rattle.std.proofs.Common.{◌≡◌, Some, option_map, sym, ap, ◌∙◌}
use Rattle.std.specs.Global.{Vec}
use Rattle.std.specs.List.{All}
use Rattle.std.proofs.lemmas.Result.{on_ok_weaker}
use Rattle.oci_manifest.specs.Descriptor.{Descriptor}
use Rattle.oci_store.specs.Keyed.{value_at}
use Rattle.oci_layout_copy.specs.Mirror.{IsHeldManifest, ListsHeldManifests}
use Rattle.oci_layout_copy.proofs.Listed.{lists_held, lists_nothing}
use Rattle.oci_layout_copy.proofs.whole.check_list.Goals as goal

pub returns-in-Some : goal.returns-in-Some
returns-in-Some g c =
    let graph = c.args.source.now.graph in
    let k = c.args.key.now in
    let keys = c.in-Some.listed.items in
    let listed : value_at graph k ≡ Some keys = sym c.in_ok-listed.ensures ∙ ap (option_map (λ (found : Vec Descriptor). found.items)) c.in-Some.is in
    on_ok_weaker {P = All (IsHeldManifest graph) c.deref.result.now} {Q = ListsHeldManifests graph k} c.check_keys.result (λ all. lists_held graph k keys listed (rw c.deref.ensures.value at all)) c.check_keys.ensures

pub returns-in-None : goal.returns-in-None
returns-in-None g c =
    lists_nothing c.args.source.now.graph c.args.key.now (sym c.in_ok-listed.ensures ∙ ap (option_map (λ (found : Vec Descriptor). found.items)) c.in-None.is)
