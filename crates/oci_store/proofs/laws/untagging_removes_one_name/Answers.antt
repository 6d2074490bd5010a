use Rattle.oci_store.proofs.TagNames.{tag_at-removed, tag_at-left}
use Rattle.oci_store.proofs.laws.untagging_removes_one_name.Goals as goal

pub returns-clause-removed : goal.returns-clause-removed
returns-clause-removed c tags name = tag_at-removed tags name

pub returns-clause-kept : goal.returns-clause-kept
returns-clause-kept c tags name other differ = tag_at-left tags name other differ
