use Rattle.oci_prune.proofs.Flagging.{removes_if}
use Rattle.oci_prune.proofs.removal.remove_draft.Goals as goal

pub returns-in-Ok-clause-flag : goal.returns-in-Ok-clause-flag
returns-in-Ok-clause-flag g c = λ honest. removes_if (g.D.Dir.device c.args.layout.now.dir).draft (g.D.Dir.device c.remove_leftover.new.self.dir).draft c.args.path.now _ (c.in-Ok.ensures.found honest) (c.in-Ok.ensures.removed honest)
