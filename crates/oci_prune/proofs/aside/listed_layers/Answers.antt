use Rattle.std.specs.Option.{option_copied}
use Rattle.oci_prune.specs.Aside.{is_one_of}
use Rattle.oci_prune.proofs.Passing.{picked_aside}
use Rattle.oci_prune.proofs.aside.listed_layers.Goals as goal

pub returns-in_ok-pick_layers-in-Some-clause-exact : goal.returns-in_ok-pick_layers-in-Some-clause-exact
returns-in_ok-pick_layers-in-Some-clause-exact g c = λ honest.
    let layout = c.args.layout.now in
    picked_aside (is_one_of (option_copied c.args.among)) (g.D.Dir.device layout.dir).file layout.graph c.in-Some.pairs.now c.in_ok-pick_layers-in-Some.field-0.items (c.in-Some.ensures honest) c.in_ok-pick_layers-in-Some.ensures
