use Rattle.std.proofs.Common.{◌≡◌, [], sym, ap, ◌∙◌, arith}
use Rattle.std.specs.Vec.{vec_len}
use Rattle.std.proofs.lemmas.Bool.{eqb-true}
use Rattle.oci_store.specs.Tags.{by_bytes}
use Rattle.oci_store.proofs.Lookups.{HasAll-from_first_missing}
use Rattle.oci_layout_store.specs.Layout.{manifests_of}
use Rattle.oci_layout_store.proofs.Loose.{empty_list}
use Rattle.oci_layout_copy.proofs.mirror.check_plan.Goals as goal

pub returns-in-Ok-clause-damaged : goal.returns-in-Ok-clause-damaged
returns-in-Ok-clause-damaged g c = λ some.
    HasAll-from_first_missing c.args.layout.now.graph (manifests_of c.args.layout.now.opened.damaged) c.in-Ok.ensures.checked.sound
