use Rattle.std.proofs.Common.{ℕ, sym, subst, ◌∙◌, arith}
use Rattle.oci_plan.specs.Graph.{lists_of, successors_of, HasEdge}
use Rattle.oci_plan.proofs.Cycles.{cycle_from_tail}
use Rattle.oci_plan.proofs.Ends.{length-lists_of, past_end, read_progress, open_end, end_below, edge_at, next_below, EndsWith-same}
use Rattle.oci_plan.proofs.ordering.search.Search.step.Goals as goal

pub index-requires : goal.index-requires
index-requires c =
    let below = end_below (lists_of c.args.lists.now) c.args.self.now.progress.items c.args.self.now.path.items c.args.self.now.sequence.items c.args.number c.requires.searching.between c.requires.last in
    omega (arith, below, c.requires.searching.between.known, c.args.self.now.progress.ok.0)

pub unreachable-requires : goal.unreachable-requires
unreachable-requires c =
    let below = end_below (lists_of c.args.lists.now) c.args.self.now.progress.items c.args.self.now.path.items c.args.self.now.sequence.items c.args.number c.requires.searching.between c.requires.last in
    let held = open_end (lists_of c.args.lists.now) c.args.self.now.progress.items c.args.self.now.path.items c.args.self.now.sequence.items c.args.number c.requires.searching.between c.requires.last in
    let read = read_progress c.args.self.now.progress.items c.args.number c.index.result.now (omega (arith, below, c.requires.searching.between.known)) c.index.ensures in
    c.in_default.not-Open held.0 (sym read ∙ held.1)

pub successor-requires : goal.successor-requires
successor-requires c =
    let below = end_below (lists_of c.args.lists.now) c.args.self.now.progress.items c.args.self.now.path.items c.args.self.now.sequence.items c.args.number c.requires.searching.between c.requires.last in
    omega (arith, below, length-lists_of c.args.lists.now)

pub finish-requires-clause-at : goal.finish-requires-clause-at
finish-requires-clause-at c =
    let below = end_below (lists_of c.args.lists.now) c.args.self.now.progress.items c.args.self.now.path.items c.args.self.now.sequence.items c.args.number c.requires.searching.between c.requires.last in
    record { number = omega (arith, below, length-lists_of c.args.lists.now); between = c.requires.searching.between }

pub finish-requires-clause-spent : goal.finish-requires-clause-spent
finish-requires-clause-spent c =
    let below = end_below (lists_of c.args.lists.now) c.args.self.now.progress.items c.args.self.now.path.items c.args.self.now.sequence.items c.args.number c.requires.searching.between c.requires.last in
    record {
      last = c.requires.last;
      progress = read_progress c.args.self.now.progress.items c.args.number c.index.result.now (omega (arith, below, c.requires.searching.between.known)) c.index.ensures ∙ c.in-Open.is;
      all = past_end (successors_of (lists_of c.args.lists.now) c.args.number) c.in-Open.finished (sym c.successor.ensures.value ∙ c.in_default-successor.is);
    }

pub index-requires-2 : goal.index-requires-2
index-requires-2 c =
    let below = next_below (lists_of c.args.lists.now) c.args.number c.in-Open.finished c.in-Some.next c.requires.searching.graph (sym c.successor.ensures.value ∙ c.in-Some.is) in
    omega (arith, below, c.requires.searching.between.known, c.args.self.now.progress.ok.0)

pub enter-requires-clause-at : goal.enter-requires-clause-at
enter-requires-clause-at c =
    let below = next_below (lists_of c.args.lists.now) c.args.number c.in-Open.finished c.in-Some.next c.requires.searching.graph (sym c.successor.ensures.value ∙ c.in-Some.is) in
    record { number = omega (arith, below, length-lists_of c.args.lists.now); between = c.requires.searching.between }

pub enter-requires-clause-edge : goal.enter-requires-clause-edge
enter-requires-clause-edge c = λ last ends.
    let edge = edge_at (lists_of c.args.lists.now) c.args.number c.in-Open.finished c.in-Some.next (sym c.successor.ensures.value ∙ c.in-Some.is) in
    subst (λ (k : ℕ). HasEdge (lists_of c.args.lists.now) k c.in-Some.next) (EndsWith-same c.args.self.now.path.items c.args.number last c.requires.last ends) edge

pub path_from-requires : goal.path_from-requires
path_from-requires c =
    let below = next_below (lists_of c.args.lists.now) c.args.number c.in-Open.finished c.in-Some.next c.requires.searching.graph (sym c.successor.ensures.value ∙ c.in-Some.is) in
    let read = read_progress c.args.self.now.progress.items c.in-Some.next c.index-2.result.now (omega (arith, below, c.requires.searching.between.known)) c.index-2.ensures in
    c.requires.searching.between.open_path c.in-Some.next c.in-Open-index.field-0 (read ∙ c.in-Open-index.is)

pub advance-requires-clause-at : goal.advance-requires-clause-at
advance-requires-clause-at c =
    let below = end_below (lists_of c.args.lists.now) c.args.self.now.progress.items c.args.self.now.path.items c.args.self.now.sequence.items c.args.number c.requires.searching.between c.requires.last in
    record { number = omega (arith, below, length-lists_of c.args.lists.now); between = c.requires.searching.between }

pub advance-requires-clause-done : goal.advance-requires-clause-done
advance-requires-clause-done c =
    let below = next_below (lists_of c.args.lists.now) c.args.number c.in-Open.finished c.in-Some.next c.requires.searching.graph (sym c.successor.ensures.value ∙ c.in-Some.is) in
    read_progress c.args.self.now.progress.items c.in-Some.next c.index-2.result.now (omega (arith, below, c.requires.searching.between.known)) c.index-2.ensures ∙ c.in-Done.is

pub returns-in_ok-path_from-in-Open-index : goal.returns-in_ok-path_from-in-Open-index
returns-in_ok-path_from-in-Open-index c =
    let edge = edge_at (lists_of c.args.lists.now) c.args.number c.in-Open.finished c.in-Some.next (sym c.successor.ensures.value ∙ c.in-Some.is) in
    (c.requires.searching.graph, cycle_from_tail (lists_of c.args.lists.now) c.args.self.now.path.items c.args.number c.in-Some.next c.in_ok-path_from-in-Open-index.field-0.items c.requires.last c.requires.searching.between.path_distinct c.requires.searching.between.is_path edge c.in_ok-path_from-in-Open-index.ensures)
