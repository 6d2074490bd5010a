use Rattle.std.proofs.Common.{◌≡◌, ◌≤◌, ◌-◌, ℕ, get_or, sym, subst, ◌∙◌}
use Rattle.std.proofs.lemmas.List.{length-set}
use Rattle.oci_pool.proofs.Marks.{lower_fits, lower_more, lower_reads}
use Rattle.oci_pool.proofs.board.issuing.lower.Goals as goal

pub overflow_sub-index_mut : goal.overflow_sub-index_mut
overflow_sub-index_mut c =
    let read : c.index_mut.result.now ≡ get_or c.loop-number.waiting.items (get_or c.args.list.now c.loop-number.number-index 0) 0 =
    lower_reads c.args.list.now c.loop-number.number-index c.loop-number.waiting.items c.args.waiting.now.items c.index_mut.result.now c.loop-number-test.true c.requires.list.numbers c.loop-number.invariant.len c.index_mut.ensures.value in
    subst (λ (m : ℕ). 1 ≤ m) (sym read)
    (lower_fits c.args.list.now c.loop-number.number-index c.loop-number.waiting.items c.args.waiting.now.items c.loop-number-test.true c.requires.list.distinct c.requires.list.numbers c.requires.positive c.loop-number.invariant.len c.loop-number.invariant.each)

pub loop-number-preserved : goal.loop-number-preserved
loop-number-preserved c =
    let read : c.index_mut.result.now ≡ get_or c.loop-number.waiting.items (get_or c.args.list.now c.loop-number.number-index 0) 0 =
    lower_reads c.args.list.now c.loop-number.number-index c.loop-number.waiting.items c.args.waiting.now.items c.index_mut.result.now c.loop-number-test.true c.requires.list.numbers c.loop-number.invariant.len c.index_mut.ensures.value in
    record {
      len = length-set c.loop-number.waiting.items (get_or c.args.list.now c.loop-number.number-index 0) (c.index_mut.result.now - 1) ∙ c.loop-number.invariant.len;
      each = rw read (lower_more c.args.list.now c.loop-number.number-index c.loop-number.waiting.items c.args.waiting.now.items c.loop-number-test.true c.requires.list.distinct c.requires.list.numbers c.requires.positive c.loop-number.invariant.len c.loop-number.invariant.each);
    }
