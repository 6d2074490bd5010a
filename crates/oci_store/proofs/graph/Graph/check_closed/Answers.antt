use Rattle.std.proofs.Common.{◌≡◌, false, Some, None, ap, ◌∙◌}
use Rattle.oci_store.specs.Keyed.{has_key, first_missing}
use Rattle.oci_store.specs.Push.{held_check}
use Rattle.oci_store.proofs.Checks.{closed_check-fresh}
use Rattle.oci_store.proofs.graph.Graph.check_closed.Goals as goal

pub returns-in_default-clause-checked : goal.returns-in_default-clause-checked
returns-in_default-clause-checked c =
    let graph = c.args.self.now in
    let content = c.args.content.now in
    let ks = c.successors.result.now in
    let fresh : has_key graph content.0 ≡ false = cc (c.if-holds.ensures, c.key.ensures) in
    let none : first_missing graph ks ≡ None = cc c.in_default.ensures in
    ((ks, closed_check-fresh graph content.0 content.1 ks fresh c.successors.ensures ∙ ap (held_check ks) none), tt)

pub returns-in-Ok-clause-checked : goal.returns-in-Ok-clause-checked
returns-in-Ok-clause-checked c =
    let graph = c.args.self.now in
    let content = c.args.content.now in
    let ks = c.successors.result.now in
    let fresh : has_key graph content.0 ≡ false = cc (c.if-holds.ensures, c.key.ensures) in
    let missing : first_missing graph ks ≡ Some c.in-Ok.missing = cc (c.in-Some.ensures, c.in-Ok.ensures) in
    (closed_check-fresh graph content.0 content.1 ks fresh c.successors.ensures ∙ ap (held_check ks) missing, tt)
