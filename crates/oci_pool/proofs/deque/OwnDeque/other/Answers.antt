use Rattle.oci_pool.proofs.Balances.{admits}
use Rattle.oci_pool.proofs.deque.OwnDeque.other.Goals as goal

pub pass-port-requires : goal.pass-port-requires
pass-port-requires c = admits
