use Rattle.oci_store.proofs.TagNames.{tag_at-set, tag_at-kept, Resolves-set}
use Rattle.oci_store.proofs.laws.tagging_moves_one_name.Goals as goal

pub returns-clause-set : goal.returns-clause-set
returns-clause-set c tags name k = tag_at-set tags name k

pub returns-clause-kept : goal.returns-clause-kept
returns-clause-kept c tags name other k differ = tag_at-kept tags name other k differ

pub returns-clause-resolves : goal.returns-clause-resolves
returns-clause-resolves c keys tags name k found = Resolves-set keys tags name k found
