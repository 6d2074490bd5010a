use Rattle.std.proofs.Common.{get_or, ◌∙◌}
use Rattle.std.proofs.lemmas.List.{length-set}
use Rattle.oci_pool.proofs.Boards.{predecessor_more}
use Rattle.oci_pool.proofs.board.edges.add_predecessor.Goals as goal

pub loop-listed-preserved : goal.loop-listed-preserved
loop-listed-preserved c = record {
  len = length-set c.loop-listed.predecessors.items (get_or c.args.list.now c.loop-listed.listed-index 0) c.push.new.self ∙ c.loop-listed.invariant.len;
  added = predecessor_more c.args.list.now c.loop-listed.listed-index c.args.number c.loop-listed.predecessors.items c.args.predecessors.now.items c.index_mut.result.now c.push.new.self c.loop-listed-test.true c.requires.distinct
      c.requires.numbers c.loop-listed.invariant.len c.index_mut.ensures.value c.in_ok-push.ensures.items c.loop-listed.invariant.added;
}
