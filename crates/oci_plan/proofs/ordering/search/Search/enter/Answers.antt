use Rattle.oci_plan.specs.Graph.{lists_of}
use Rattle.oci_plan.proofs.Steps.{entered, less_work, keeps_met}
use Rattle.oci_plan.specs.declared.ordering.search.Progress.TheVariants.{New, Open}
use Rattle.std.proofs.Common.{◌<◌, length, arith}
use Rattle.std.proofs.lemmas.List.{length-map}
use Rattle.oci_plan.proofs.ordering.search.Search.enter.Goals as goal

pub returns-clause-step : goal.returns-clause-step
returns-clause-step c =
    let below : c.args.number < length (lists_of c.args.lists.now) = rw length-map c.requires.at.number in
    let within : c.args.number < length c.args.self.now.progress.items = omega (arith, below, c.requires.at.between.known) in
    record {
      between = rw c.in_ok-push.ensures.items (entered (lists_of c.args.lists.now) c.args.self.now.progress.items c.args.self.now.path.items c.args.self.now.sequence.items c.args.number below c.requires.fresh c.requires.edge c.requires.at.between);
      smaller = less_work c.args.self.now.progress.items c.args.number New (Open 0) within c.requires.fresh (omega arith);
      keeps = keeps_met c.args.self.now.progress.items c.args.number (Open 0) within (λ e. cc e);
    }
