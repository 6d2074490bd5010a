-- The faults of an order and of a plan: their numbers, and the keys that they name.
use Rattle.std.specs.Prelude.{ℕ, List}
use Rattle.oci_manifest.specs.Descriptor.{Descriptor}
use Rattle.oci_plan.specs.Graph.{IsGraph, IsCycle, IsFirstBad}
use Rattle.oci_plan.specs.declared.fault.OrderFault.{OrderFault}
use Rattle.oci_plan.specs.declared.fault.OrderFault.TheVariants.{Cycle, BadNumber, Memory}
use Rattle.oci_plan.specs.declared.fault.PlanFault.{PlanFault}
use Rattle.oci_plan.specs.declared.fault.PlanFault.TheVariants as plan

-- the number of an order's fault
abbrev pub number_of : OrderFault → ℕ
number_of (Cycle numbers) = 50
number_of (BadNumber list number) = 51
number_of Memory = 52

-- the fault is true of the graph: this is a cycle of it; or this list is the first with a bad
-- number, and this is its first bad number
abbrev pub IsCauseOf : List (List ℕ) → OrderFault → Type 0
IsCauseOf lists (Cycle numbers) = IsGraph lists × IsCycle lists numbers.items
IsCauseOf lists (BadNumber list number) = IsFirstBad lists list number
IsCauseOf lists Memory = Unit {0}

-- the number of a plan's fault
abbrev pub plan_number_of : PlanFault → ℕ
plan_number_of (plan.NotFound k) = 53
plan_number_of (plan.TooLarge k limit) = 54
plan_number_of (plan.Cycle keys) = 55
plan_number_of (plan.Manifest k e) = 56
plan_number_of (plan.Fetch k e) = 57
plan_number_of plan.Memory = 58
plan_number_of plan.TooMany = 59

-- statements about a plan's fault: the first is about its key, the second about the keys of its
-- cycle, and the third must hold if there are too many keys
abbrev pub Names : (Descriptor → Type 0) → (List Descriptor → Type 0) → Type 0 → PlanFault → Type 0
Names key cycle many (plan.NotFound k) = key k
Names key cycle many (plan.TooLarge k limit) = key k
Names key cycle many (plan.Cycle keys) = cycle keys.items
Names key cycle many (plan.Manifest k e) = key k
Names key cycle many (plan.Fetch k e) = key k
Names key cycle many plan.Memory = Unit {0}
Names key cycle many plan.TooMany = many
