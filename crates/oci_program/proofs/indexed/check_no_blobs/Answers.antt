use Rattle.std.proofs.lemmas.Result.{on_ok_weaker}
use Rattle.oci_program.proofs.indexed.check_no_blobs.Goals as goal

pub returns-in-Ok-clause-none : goal.returns-in-Ok-clause-none
returns-in-Ok-clause-none g c =
    on_ok_weaker c.check_empty-in-Ok.result (λ empty honest. record { sha256 = c.in-Ok.ensures.empty honest; sha512 = empty honest }) c.check_empty-in-Ok.ensures.empty
