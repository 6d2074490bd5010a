use Rattle.oci_pool.proofs.Balances.{takes}
use Rattle.oci_pool.proofs.deque.OwnDeque.take.Goals as goal

pub pop_as-requires-clause-fifo : goal.pop_as-requires-clause-fifo
pop_as-requires-clause-fifo c _ = takes _ _
