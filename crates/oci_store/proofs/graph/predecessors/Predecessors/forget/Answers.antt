use Rattle.std.proofs.Common.{◌≡◌, Some, sym, ap, ◌∙◌}
use Rattle.std.specs.BTreeMap.{get}
use Rattle.std.specs.Option.{option_copied_mut}
use Rattle.oci_manifest.specs.Descriptor.{key_cmp}
use Rattle.oci_store.proofs.Predecessors.{forgotten, is_there}
use Rattle.oci_store.proofs.graph.predecessors.Predecessors.forget.Goals as goal

pub returns-in-Some : goal.returns-in-Some
returns-in-Some c =
    let lists = c.args.self.now.lists in
    let keys = c.in-Some.keys.now in
    let less = c.take_out.new.keys in
    let was : get key_cmp lists c.args.listed.now ≡ Some keys = sym c.get_mut.ensures.value ∙ ap option_copied_mut c.in-Some.is in
    let updates = (c.get_mut.follows.holds less).3 (is_there (get key_cmp lists c.args.listed.now) keys was) in
    forgotten lists (c.get_mut.follows.lender less) c.args.predecessor.now c.args.listed.now keys less updates was c.take_out.ensures
