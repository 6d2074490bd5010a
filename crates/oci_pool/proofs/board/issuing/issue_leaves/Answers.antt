use Rattle.std.proofs.Common.{ℕ, List, [], ◌∷◌, ◌++◌, eqb, get_or, cond, ap, sym, ◌∙◌, rules}
use Rattle.oci_plan.specs.Doubles.{has}
use Rattle.oci_pool.proofs.Marks.{fresh_range, filter_range_more}
use Rattle.oci_pool.proofs.board.issuing.issue_leaves.Goals as goal

pub issue_if_ready-requires-clause-unissued : goal.issue_if_ready-requires-clause-unissued
issue_if_ready-requires-clause-unissued c = record {
  number = search rules;
  fresh = ap (has c.loop-number.number) c.loop-number.invariant.issue ∙ fresh_range (λ n. eqb (get_or c.args.waiting.now.items n 0) 0) c.loop-number.number;
}

pub loop-number-preserved : goal.loop-number-preserved
loop-number-preserved c = record {
  issue = c.issue_if_ready.ensures.issue_is
      ∙ ap (λ (xs : List ℕ). xs ++ cond (eqb (get_or c.args.waiting.now.items c.loop-number.number 0) 0) (c.loop-number.number ∷ []) []) c.loop-number.invariant.issue
      ∙ sym (filter_range_more (λ n. eqb (get_or c.args.waiting.now.items n 0) 0) c.loop-number.number);
  listed = c.issue_if_ready.ensures.listed;
  len = c.issue_if_ready.ensures.len ∙ c.loop-number.invariant.len;
}
