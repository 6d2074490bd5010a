use Rattle.oci_layout_store.proofs.Law as law
use Rattle.oci_layout_store.proofs.layout.opens_as_saved.Goals as goal

pub returns : goal.returns
returns c = law.opens_as_saved
