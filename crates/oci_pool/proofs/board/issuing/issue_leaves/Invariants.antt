use Rattle.std.proofs.Common.{◌≡◌, eqb, length, get_or, vec_capacity}
use Rattle.std.specs.Prelude.{filter}
use Rattle.std.specs.List.{range_with_len}
use Rattle.oci_pool.specs.Kept.{IsListed}
use Rattle.oci_pool.proofs.board.issuing.issue_leaves.Given as goal

abbrev pub invariant-loop-number : goal.invariant-loop-number
invariant-loop-number l = record {
  issue : l.issue.items ≡ filter (λ n. eqb (get_or l.waiting.items n 0) 0) (range_with_len 0 l.number);
  listed : IsListed l.issue.items (vec_capacity l.issue) l.issued.items;
  len : length l.issued.items ≡ length l.initial.issued.items;
}
