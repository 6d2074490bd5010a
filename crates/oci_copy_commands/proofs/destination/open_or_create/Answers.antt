use Rattle.oci_copy_commands.proofs.destination.open_or_create.Goals as goal

pub returns : goal.returns
returns g c = record { first = c.in_ok-layout.layout; found = c.in_ok-layout.ensures; settled = c.in_ok-ready.ensures }
