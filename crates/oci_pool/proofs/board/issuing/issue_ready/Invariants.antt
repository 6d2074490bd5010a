use Rattle.std.proofs.Common.{◌≡◌, ◌++◌, eqb, length, take, get_or, vec_capacity}
use Rattle.std.specs.Prelude.{filter}
use Rattle.oci_pool.specs.Kept.{IsListed}
use Rattle.oci_pool.proofs.board.issuing.issue_ready.Given as goal

abbrev pub invariant-loop-number : goal.invariant-loop-number
invariant-loop-number l = record {
  issue : l.issue.items ≡ l.initial.issue.items ++ filter (λ n. eqb (get_or l.waiting.items n 0) 0) (take l.number-index l.list);
  listed : IsListed l.issue.items (vec_capacity l.issue) l.issued.items;
  len : length l.issued.items ≡ length l.initial.issued.items;
}
