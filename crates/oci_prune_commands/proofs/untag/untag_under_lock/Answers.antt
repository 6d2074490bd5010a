use Rattle.oci_prune_commands.proofs.Untagging.{untag_run}
use Rattle.oci_prune_commands.proofs.untag.untag_under_lock.Goals as goal

pub returns-clause-untagged : goal.returns-clause-untagged
returns-clause-untagged g c = untag_run g.D.Dir.device c.args.dir c.args.tag.now c.in_ok-layout.layout c.untag_layout.new.layout c.untag_layout.result c.in_ok-layout.ensures c.untag_layout.ensures.untagged
