use Rattle.oci_plan.specs.Graph.{lists_of}
use Rattle.oci_plan.proofs.Steps.{advanced, less_work, keeps_met}
use Rattle.oci_plan.specs.declared.ordering.search.Progress.TheVariants.{Open}
use Rattle.std.proofs.Common.{◌+◌, ◌<◌, length, arith}
use Rattle.std.proofs.lemmas.List.{length-map}
use Rattle.oci_plan.proofs.ordering.search.Search.advance.Goals as goal

pub returns : goal.returns
returns c =
    let below : c.args.number < length (lists_of c.args.lists.now) = rw length-map c.requires.at.number in
    let within : c.args.number < length c.args.self.now.progress.items = omega (arith, below, c.requires.at.between.known) in
    record {
      between = advanced (lists_of c.args.lists.now) c.args.self.now.progress.items c.args.self.now.path.items c.args.self.now.sequence.items c.args.number c.args.finished c.args.next below c.requires.open c.requires.next c.requires.done c.requires.at.between;
      smaller = less_work c.args.self.now.progress.items c.args.number (Open c.args.finished) (Open (c.args.finished + 1)) within c.requires.open (omega (arith, c.requires.within));
      keeps = keeps_met c.args.self.now.progress.items c.args.number (Open (c.args.finished + 1)) within (λ e. cc e);
    }
