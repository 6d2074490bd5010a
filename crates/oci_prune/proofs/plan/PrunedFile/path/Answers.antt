use Rattle.std.proofs.Common.{rules}
use Rattle.oci_layout_store.specs.Blobs.{blob_path}
use Rattle.oci_prune.proofs.plan.PrunedFile.path.Goals as goal

pub returns : goal.returns
unfolding blob_path
returns c = search rules
