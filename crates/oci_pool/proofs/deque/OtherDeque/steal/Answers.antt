use Rattle.oci_pool.proofs.Balances.{takes}
use Rattle.oci_pool.proofs.deque.OtherDeque.steal.Goals as goal

pub steal_as-requires-clause-takes : goal.steal_as-requires-clause-takes
steal_as-requires-clause-takes c = takes _ _
