use Rattle.oci_layout_store.proofs.Law as law
use Rattle.oci_layout_store.proofs.layout.keys_of_one_digest.Goals as goal

pub returns : goal.returns
returns c = law.keys_of_one_digest
