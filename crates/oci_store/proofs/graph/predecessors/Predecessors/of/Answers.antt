use Rattle.std.proofs.Common.{◌≡◌, List, sym, ap, subst, ◌∙◌}
use Rattle.std.specs.BTreeSet.{contains}
use Rattle.std.specs.Option.{option_copied}
use Rattle.oci_manifest.specs.Descriptor.{Descriptor, key_cmp, is_among}
use Rattle.oci_store.proofs.Predecessors.{AreTold-some, sorted_nil}
use Rattle.oci_store.proofs.graph.predecessors.Predecessors.of.Goals as goal

pub returns-in_default-clause-order : goal.returns-in_default-clause-order
returns-in_default-clause-order c = rw c.new.ensures.items sorted_nil

pub returns-clause-each : goal.returns-clause-each
returns-clause-each c =
    let keys = c.in-Some.keys.now in
    let set = c.in_ok-set.set in
    let each = subst (λ (ks : List Descriptor). (k : Descriptor) → contains key_cmp set k ≡ is_among ks k) c.deref.ensures.value c.in_ok-set.ensures in
    AreTold-some c.args.self.now.lists c.args.listed.now keys set c.in_ok-keys.keys.items (sym c.get.ensures.value ∙ ap option_copied c.in-Some.is) each c.in_ok-keys.ensures.keys
