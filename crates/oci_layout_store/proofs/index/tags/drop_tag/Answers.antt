use Rattle.oci_layout_store.proofs.Opened.{untagged}
use Rattle.oci_layout_store.proofs.index.tags.drop_tag.Goals as goal

pub returns-clause-removed : goal.returns-clause-removed
returns-clause-removed c = untagged c.args.tags.now c.untag.new.self c.args.name.now c.untag.result c.requires.name c.untag.ensures.memory c.untag.ensures.answer c.untag.ensures.untagged c.untag.ensures.refused
