use Rattle.std.proofs.lemmas.Result.{IfOk-weaker}
use Rattle.oci_copy_commands.proofs.copy.copy_selected.Goals as goal

pub returns : goal.returns
returns g c =
    IfOk-weaker c.copy_under_lock.result _ _ (λ done made. record { old = c.in_ok-destination.destination; ready = c.in_ok-destination.ensures; indexed = c.in_ok-check_index_if.ensures.indexed; made = made }) c.copy_under_lock.ensures
