use Rattle.oci_copy_commands.proofs.copy.mirror_and_end.Goals as goal

pub returns-in-Ok : goal.returns-in-Ok
returns-in-Ok g c =
    let made = c.mirror-left.ensures in
    let ok = c.in-Ok.is in
    record {
      left = c.mirror-left.result.0;
      workers = rw (ok, c.options_of.ensures) at made.workers;
      tags = rw ok at made.tags;
      brought = rw ok at made.brought;
      saved = rw ok at made.saved;
      mirrored = rw (ok, c.options_of.ensures, c.is_exact.ensures) at made.pruned;
      reached = rw ok at made.reached;
      held = rw ok at made.held;
      only = rw (ok, c.is_exact.ensures) at made.only;
      lasts = rw ok at made.lasts;
      behind = c.in_ok-behind-in-Ok.ensures.left;
    }
