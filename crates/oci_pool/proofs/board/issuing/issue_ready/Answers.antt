use Rattle.std.proofs.Common.{eqb, get_or, ap, ◌∙◌, rules}
use Rattle.oci_plan.specs.Doubles.{has}
use Rattle.oci_pool.proofs.Marks.{fresh_more}
use Rattle.oci_pool.proofs.board.issuing.issue_ready.Goals as goal

pub issue_if_ready-requires-clause-unissued : goal.issue_if_ready-requires-clause-unissued
issue_if_ready-requires-clause-unissued c = record {
  number = search rules;
  fresh = ap (has (get_or c.args.list.now c.loop-number.number-index 0)) c.loop-number.invariant.issue
      ∙ fresh_more c.args.issue.now.items c.args.list.now (λ n. eqb (get_or c.args.waiting.now.items n 0) 0) c.loop-number.number-index c.loop-number-test.true c.requires.list.distinct c.requires.fresh;
}
