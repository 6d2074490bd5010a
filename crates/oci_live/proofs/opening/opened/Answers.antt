use Rattle.std.proofs.Common.{ap}
use Rattle.left_right.specs.Sides.{view}
use Rattle.oci_live.specs.declared.shelf.Shared.{Shared}
use Rattle.oci_live.proofs.Steps.{stays}
use Rattle.oci_live.proofs.opening.opened.Goals as goal

pub publish_as-requires : goal.publish_as-requires
publish_as-requires g c next is =
    let publisher = c.in_ok-publisher.publisher in
    let to = rw c.in_ok-publisher.ensures.1 at is in
    stays publisher.desk.place.id (view publisher.desk.place) publisher.desk.shown.value next (ap (λ (t : Shared). t.list) to) (ap (λ (t : Shared). t.log) to) (ap (λ (t : Shared). t.name) to)
