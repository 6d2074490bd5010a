use Rattle.oci_layout_store.proofs.Kept as kept
use Rattle.oci_layout_store.proofs.layout.opens_as_kept.Goals as goal

pub returns : goal.returns
returns c = kept.opens_as_kept
