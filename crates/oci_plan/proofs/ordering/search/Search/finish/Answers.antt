use Rattle.oci_plan.specs.Graph.{lists_of}
use Rattle.oci_plan.proofs.Steps.{left, less_work, keeps_met}
use Rattle.oci_plan.specs.declared.ordering.search.Progress.TheVariants.{Open, Done}
use Rattle.std.proofs.Common.{◌≡◌, ◌<◌, ◌-◌, ℕ, List, length, take, ap, ◌∙◌, arith}
use Rattle.std.proofs.lemmas.List.{length-map}
use Rattle.oci_plan.proofs.ordering.search.Search.finish.Goals as goal

pub returns : goal.returns
returns c =
    let below : c.args.number < length (lists_of c.args.lists.now) = rw length-map c.requires.at.number in
    let path : List ℕ = c.args.self.now.path.items in
    let front : c.pop.new.self.items ≡ take (length path - 1) path = c.pop.ensures.rest ∙ ap (λ (k : ℕ). take (k - 1) path) c.args.self.now.path.ok.0 in
    let within : c.args.number < length c.args.self.now.progress.items = omega (arith, below, c.requires.at.between.known) in
    record {
      between = rw (c.in_ok-push.ensures.items, front) (left (lists_of c.args.lists.now) c.args.self.now.progress.items c.args.self.now.path.items c.args.self.now.sequence.items c.args.number c.args.finished below c.requires.spent.last c.requires.spent.progress c.requires.spent.all c.requires.at.between);
      smaller = less_work c.args.self.now.progress.items c.args.number (Open c.args.finished) Done within c.requires.spent.progress (omega (arith, c.ranges.finished));
      keeps = keeps_met c.args.self.now.progress.items c.args.number Done within (λ e. cc e);
    }
