use Rattle.oci_layout_store.specs.Index.{layout_file}
use Rattle.oci_layout_store.proofs.Created.{created}
use Rattle.oci_layout_store.proofs.layout.Layout.create.Goals as goal

pub returns-clause-created : goal.returns-clause-created
unfolding layout_file
returns-clause-created g c =
    let put = c.in_default.ensures in
    rw c.of.ensures
    (created (g.D.Dir.device c.args.dir) _ tt (λ honest. cc (c.in-Ok-false.ensures.found honest, c.in-Ok-false.field-0-test)) put.files put.settled put.other put.device)
