use Rattle.std.proofs.Common.{vec_len}
use Rattle.oci_pool.proofs.running.crew.workers_of.Given as goal

abbrev pub decreases-loop-own : goal.decreases-loop-own
decreases-loop-own g l = vec_len l.deques
