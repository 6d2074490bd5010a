use Rattle.std.proofs.lemmas.Result.{IfOk-weaker}
use Rattle.serde_json.specs.View.{view}
use Rattle.oci_reference.proofs.Stated.{shallow-read}
use Rattle.oci_reference.proofs.platform.index_of.Goals as goal

pub returns-in-Ok-clause-shallow : goal.returns-in-Ok-clause-shallow
returns-in-Ok-clause-shallow g c = IfOk-weaker c.json_of.result _ _ (λ index is. shallow-read _ (view index) is) c.json_of.ensures.read
