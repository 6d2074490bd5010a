use Rattle.oci_live.proofs.Steps.{enters}
use Rattle.oci_live.proofs.reading.asked.Goals as goal

pub enter_as-requires : goal.enter_as-requires
enter_as-requires g c = enters _ _
