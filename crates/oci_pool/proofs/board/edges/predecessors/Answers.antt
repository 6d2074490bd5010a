use Rattle.std.proofs.Common.{◌≡◌, ℕ, length, ap, ◌∙◌, arith}
use Rattle.std.specs.Prelude.{filter}
use Rattle.std.specs.List.{range_with_len}
use Rattle.oci_plan.specs.Graph.{successors_of}
use Rattle.oci_plan.specs.Doubles.{has}
use Rattle.oci_pool.proofs.Boards.{predecessors_more}
use Rattle.oci_pool.proofs.board.edges.predecessors.Goals as goal

pub loop-number-preserved : goal.loop-number-preserved
loop-number-preserved c = record {
  len = c.in_ok-add_predecessor.ensures.len ∙ c.loop-number.invariant.len;
  predecessors = predecessors_more c.args.order.now.lists c.loop-number.number c.list_of.result.now c.loop-number.predecessors.items c.add_predecessor.new.predecessors.items c.list_of.ensures c.loop-number.invariant.len
      c.loop-number.invariant.predecessors c.in_ok-add_predecessor.ensures.added;
}

pub returns : goal.returns
returns c =
    let end : c.loop-number.number ≡ length c.args.order.now.lists = omega (arith, c.loop-number-test.false, c.loop-number.auto.number-end, c.len-count.ensures.len) in
    record {
      len = c.loop-number.predecessors.ok.0 ∙ c.loop-number.invariant.len;
      predecessors_are = λ k below. c.loop-number.invariant.predecessors k below ∙ ap (λ (n : ℕ). filter (λ m. has k (successors_of c.args.order.now.lists m)) (range_with_len 0 n)) end;
    }
