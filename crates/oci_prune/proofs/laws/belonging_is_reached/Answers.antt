use Rattle.oci_prune.specs.Attached.{AttachedBy}
use Rattle.oci_prune.proofs.Reaching.{members_reached, member_from_reached}
use Rattle.oci_prune.proofs.laws.belonging_is_reached.Goals as goal

pub returns : goal.returns
returns c graph entries tags keys found are k =
    (members_reached graph keys found (AttachedBy entries tags) are k, λ p. member_from_reached graph keys found (AttachedBy entries tags) are k p.0 p.1)
