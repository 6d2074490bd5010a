use Rattle.oci_dir.specs.Memory.{device_of}
use Rattle.oci_copy_commands.specs.Run.{store_of}
use Rattle.oci_copy_commands.proofs.Archived.{is_index}
use Rattle.oci_copy_commands.proofs.archive.index_of_roots.Goals as goal

pub save_selected-requires : goal.save_selected-requires
save_selected-requires g c = record { held = rw c.roots.ensures at c.in-Ok.ensures.held }

pub returns : goal.returns
returns g c =
    let made = c.in-Ok.ensures in
    is_index device_of (store_of g.S.Dir.device c.args.source.now) c.args.selected.now c.in-Ok.index c.save_selected.new.layout
    (rw c.roots.ensures at made.held) (rw c.roots.ensures at made.listed) made.tags made.opened tt made.version c.in_ok-save_selected.ensures.saved
