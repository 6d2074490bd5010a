use Rattle.std.proofs.Common.{sym, ◌∙◌}
use Rattle.oci_layout_store.proofs.Stored.{has_key-stored}
use Rattle.oci_layout_store.proofs.layout.source.LayoutSource.exists.Goals as goal

pub returns : goal.returns
returns g c = rw (← c.self.view_is) (c.holds.ensures ∙ sym (has_key-stored (g.D.Dir.device c.self.inside.dir).file c.self.inside.graph c.args.key.now))
