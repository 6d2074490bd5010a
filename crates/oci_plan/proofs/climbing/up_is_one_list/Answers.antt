use Rattle.oci_plan.proofs.Ups.{up_is_one_list as proof}
use Rattle.oci_plan.proofs.climbing.up_is_one_list.Goals as goal

pub returns : goal.returns
returns c = proof
