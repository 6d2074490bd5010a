use Rattle.std.proofs.Common.{◌≡◌, ◌++◌}
use Rattle.oci_layout_store.proofs.layout.loose.list_of.Given as goal

-- the elements so far and those that are left are all
abbrev pub invariant-loop-key : goal.invariant-loop-key
invariant-loop-key l = l.list.items ++ l.key-iterator ≡ l.set.keys
