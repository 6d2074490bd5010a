use Rattle.oci_layout_store.proofs.Lasting as lasting
use Rattle.oci_layout_store.proofs.layout.lasting_is_left.Goals as goal

pub returns : goal.returns
returns g c = lasting.lasting_is_left (g.D.Dir.device c.args._dir.now)
