use Rattle.std.proofs.Common.{◌≡◌, true, sym, ◌∙◌}
use Rattle.oci_store.specs.Keyed.{has_key}
use Rattle.oci_store.proofs.References.{AreNames-set}
use Rattle.oci_layout_store.proofs.index.tags.own_one.Goals as goal

pub returns-clause-names : goal.returns-clause-names
returns-clause-names c =
    let held : has_key c.args.graph.now c.args.key.now ≡ true = sym c.holds.ensures ∙ c.if-not-holds.false in
    rw c.in_ok-set.ensures.set
    (AreNames-set c.args.graph.now c.args.tags.now c.as_str-text.result.now c.args.key.now c.requires.names (λ empty. cc (rw empty at c.if-is_empty.ensures, c.if-is_empty.false)) held)
