use Rattle.oci_prune_commands.proofs.Untagging.{along_unsaved}
use Rattle.oci_prune_commands.proofs.along.save_without.Goals as goal

pub returns-in-Ok-Some-clause-refused : goal.returns-in-Ok-Some-clause-refused
returns-in-Ok-Some-clause-refused g c =
    let fault = c.in-Err-save_others.fault in
    let planned = rw c.in-Ok-Some.field-0-is at c.in-Ok-Some.ensures.planned in
    (c.in-Err-save_others.ensures.cause, along_unsaved g.D.Dir.device c.args.tag.now c.args.going.now c.args.layout.now c.save_others.new.layout c.in-Ok-Some.kept fault planned.0 planned.1 c.in-Err-save_others.ensures.unsaved)
