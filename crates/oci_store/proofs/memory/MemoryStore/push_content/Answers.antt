use Rattle.std.proofs.Common.{◌≡◌, false, ◌∙◌, rules}
use Rattle.oci_store.specs.Graph.{nodes_of}
use Rattle.oci_store.specs.Keyed.{has_key}
use Rattle.oci_store.proofs.Checks.{content_check-ok, push_check-fresh}
use Rattle.oci_store.proofs.memory.MemoryStore.push_content.Goals as goal

pub returns-clause-checked : goal.returns-clause-checked
returns-clause-checked c =
    let graph = nodes_of c.args.self.now.entries in
    let content = c.content.inside in
    let fresh : has_key graph c.args.content.0 ≡ false = search rules in (
      (
        content.successors.items,
        push_check-fresh graph c.args.content.0 c.args.content.1 fresh ∙ rw (← c.content.view_is) (content_check-ok content.key content.bytes content.successors.items c.content.invariant),
      ),
      tt,
    )
