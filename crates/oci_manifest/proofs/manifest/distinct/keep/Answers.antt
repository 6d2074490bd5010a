use Rattle.oci_manifest.proofs.Seen.{remembers_more}
use Rattle.oci_manifest.proofs.manifest.distinct.keep.Goals as goal

pub returns-in_ok-push-clause-remembers : goal.returns-in_ok-push-clause-remembers
returns-in_ok-push-clause-remembers c =
    rw c.in_ok-push.ensures.items (rw c.in_ok-try_clone.ensures at (remembers_more c.args.seen.now c.insert.new.self c.args.kept.now.items c.in_ok-try_clone.field-0 c.requires c.in_ok-insert.ensures.updates))
