use Rattle.oci_pool.proofs.Balances.{puts}
use Rattle.oci_pool.proofs.deque.OwnDeque.put.Goals as goal

pub push_as-requires-clause-pushes : goal.push_as-requires-clause-pushes
push_as-requires-clause-pushes c = puts _ _ _
