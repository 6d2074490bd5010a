use Rattle.std.proofs.Common.{◌≡◌, ◌≤◌, length, take}
use Rattle.std.specs.List.{filter}
use Rattle.oci_plan.specs.Plan.{Number}
use Rattle.oci_store.specs.Visiting.{with_keys}
use Rattle.oci_plan.specs.Visiting.{is_fresh}
use Rattle.oci_plan.proofs.gathering.walk.number_fresh.Given as goal

-- as far as the loop has come
abbrev pub invariant-loop-key : goal.invariant-loop-key
invariant-loop-key g l = record {
  keys : l.keys ≡ with_keys l.initial.keys (filter (is_fresh (g.D.Store.state l.destination).nodes) (take l.key-index l.successors));
  numbers : Number l.keys l.numbers.items (filter (is_fresh (g.D.Store.state l.destination).nodes) (take l.key-index l.successors));
  few : length l.keys ≤ 4294967295;
}
