use Rattle.oci_dir.proofs.Memory.{copied-same}
use Rattle.oci_dir.proofs.mem_dir.copied.Goals as goal

pub returns : goal.returns
returns c = copied-same c.args.files.now c.in_ok-clone.field-0 c.in_ok-clone.ensures.cases
