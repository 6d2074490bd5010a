use Rattle.std.proofs.Common.{refl}
use Rattle.oci_copy_commands.proofs.copy.copy_and_end.Goals as goal

pub returns-in-Ok : goal.returns-in-Ok
returns-in-Ok g c =
    let made = c.copy_between-left.ensures in
    let ok = c.in-Ok.is in
    record {
      left = c.copy_between-left.result.0;
      workers = rw (ok, c.options_of.ensures) at made.workers;
      tagged = rw ok at made.tagged;
      brought = rw ok at made.brought;
      held = rw ok at made.held;
      met = made.met;
      reported = rw (ok, c.options_of.ensures) at made.report;
      reached = rw ok at made.reached;
      copied = rw ok at made.copied;
      files = rw ok at made.files;
      lasts = rw ok at made.lasts;
      kept = refl;
      behind = c.in_ok-behind-in-Ok.ensures.left;
    }
