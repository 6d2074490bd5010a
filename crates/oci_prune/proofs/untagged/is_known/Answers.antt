use Rattle.std.proofs.lemmas.Result.{IfOk-weaker}
use Rattle.oci_prune.proofs.untagged.is_known.Goals as goal

pub returns : goal.returns
returns g c = IfOk-weaker c.knows_listed.result _ _ (λ it iff. (λ yes. (c.in_ok-has_whole_index.ensures.0 c.if-not-branch.false, iff.0 yes), λ known. iff.1 known.1)) c.knows_listed.ensures
