use Rattle.std.proofs.Common.{All, vec_len}
use Rattle.oci_pool.proofs.table.Table.put_all.Given as goal

abbrev pub invariant-loop-k : goal.invariant-loop-k
invariant-loop-k g l = All (λ (p : _). g.T.RunStart.answers p.0 p.1) l.done.items

abbrev pub decreases-loop-k : goal.decreases-loop-k
decreases-loop-k g l = vec_len l.done
