use Rattle.std.proofs.Common.{◌≡◌, ◌+◌, ◌<◌, ℕ, length, take, get_or}
use Rattle.oci_plan.specs.Doubles.{has}
use Rattle.oci_pool.specs.Kept.{unit_if}
use Rattle.oci_pool.proofs.board.issuing.lower.Given as goal

abbrev pub invariant-loop-number : goal.invariant-loop-number
invariant-loop-number l = record {
  len : length l.waiting.items ≡ length l.initial.waiting.items;
  each : (n : ℕ) → n < length l.waiting.items → get_or l.waiting.items n 0 + unit_if (has n (take l.number-index l.list)) ≡ get_or l.initial.waiting.items n 0;
}
