use Rattle.std.proofs.Common.{sym, ◌∙◌}
use Rattle.oci_layout_store.proofs.Stored.{has_key-stored}
use Rattle.oci_reference.proofs.platform.if_held.Goals as goal

pub returns-then-exists-clause-held : goal.returns-then-exists-clause-held
returns-then-exists-clause-held g c =
    sym (has_key-stored (g.D.Dir.device c.args.layout.now.dir).file c.args.layout.now.graph c.args.picked.key) ∙ sym c.exists.ensures ∙ c.if-exists.true

pub not_held-requires : goal.not_held-requires
not_held-requires g c =
    sym (has_key-stored (g.D.Dir.device c.args.layout.now.dir).file c.args.layout.now.graph c.args.picked.key) ∙ sym c.exists.ensures ∙ c.if-exists.false
