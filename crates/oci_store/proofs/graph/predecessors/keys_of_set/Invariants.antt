use Rattle.std.proofs.Common.{◌≡◌, ◌++◌}
use Rattle.oci_store.proofs.graph.predecessors.keys_of_set.Given as goal

-- the keys so far and those that are left are all
abbrev pub invariant-loop-key : goal.invariant-loop-key
invariant-loop-key l = l.keys.items ++ l.key-iterator ≡ l.set.keys
