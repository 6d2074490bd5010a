use Rattle.oci_store.proofs.KeyLists.{IsDistinct-from_index}
use Rattle.oci_store.proofs.key_list.KeyList.into_keys.Goals as goal

pub returns-clause-distinct : goal.returns-clause-distinct
returns-clause-distinct c = IsDistinct-from_index c.self.inside.index c.self.inside.keys.items c.self.invariant
