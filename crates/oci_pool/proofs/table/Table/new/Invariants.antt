use Rattle.std.proofs.Common.{◌≡◌, vec_len}
use Rattle.oci_pool.specs.Workers.{InPlace}
use Rattle.oci_pool.proofs.table.Table.new.Given as goal

abbrev pub invariant-loop : goal.invariant-loop
invariant-loop g l = (vec_len l.places ≡ l.counter) × InPlace g.T.RunStart.answers l.places.items
