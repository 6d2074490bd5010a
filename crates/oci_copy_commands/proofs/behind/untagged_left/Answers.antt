use Rattle.std.proofs.Common.{◌≡◌, List, subst}
use Rattle.oci_layout_store.specs.Meaning.{meaning}
use Rattle.oci_prune.specs.Free.{IsFree}
use Rattle.oci_prune.specs.Plan.{roots_of}
use Rattle.oci_selection.proofs.Selections.{set_in_order}
use Rattle.oci_copy_commands.proofs.Leaving.{left_of}
use Rattle.oci_copy_commands.proofs.behind.untagged_left.Goals as goal

pub returns-in_ok-keys_unheld-in-Ok-clause-left : goal.returns-in_ok-keys_unheld-in-Ok-clause-left
returns-in_ok-keys_unheld-in-Ok-clause-left g c = λ honest.
    let source = c.args.source.now in
    let is_free = IsFree (meaning (g.S.Dir.device source.dir) source.graph source.tags) (roots_of source) in
    let free = c.in_ok-free-in-Ok.free in
    left_of is_free c.args.destination.now.graph free.items c.in_ok-keys_unheld-in-Ok.field-0.items
    (set_in_order is_free c.in-Ok.free free.items (c.in-Ok.ensures.exact honest) c.in_ok-free-in-Ok.ensures.keys) (rw c.deref.ensures.value at c.in_ok-keys_unheld-in-Ok.ensures)
