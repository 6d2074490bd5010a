use Rattle.oci_copy_commands.proofs.Archived.{Appends-kept}
use Rattle.oci_copy_commands.proofs.archive.write_flushed.Goals as goal

pub returns-in-Ok : goal.returns-in-Ok
returns-in-Ok g c = let made = c.in_ok-write_archive.ensures.written in (made.0, made.1, Appends-kept _ _ _ _ made.2 c.flush.ensures.bytes)
