use Rattle.oci_tag_commands.proofs.Tagging.{tag_run}
use Rattle.oci_tag_commands.proofs.tag.tag_under_lock.Goals as goal

pub returns-clause-tagged : goal.returns-clause-tagged
returns-clause-tagged g c = tag_run g.D.Dir.device c.args.dir c.args.reference.now c.args.tag.now c.in_ok-layout.layout c.tag_layout.new.layout c.tag_layout.result c.in_ok-layout.ensures c.tag_layout.ensures.tagged
