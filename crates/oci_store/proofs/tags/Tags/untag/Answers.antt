use Rattle.std.proofs.Common.{sym, subst}
use Rattle.oci_store.specs.Tags.{AreNames}
use Rattle.oci_store.proofs.References.{AreNames-without}
use Rattle.oci_store.proofs.tags.Tags.untag.Goals as goal

pub returns-in_default-clause-names : goal.returns-in_default-clause-names
returns-in_default-clause-names c =
    subst (AreNames c.args.graph.now) (sym c.remove.ensures.removed) (AreNames-without c.args.graph.now c.args.self.now c.args.name.now c.requires.names)
