use Rattle.oci_selection.proofs.Selections.{roots_placed}
use Rattle.oci_selection.proofs.roots.place_climbed.Goals as goal

pub returns : goal.returns
returns g c =
    let more = c.in_ok-more.more.items in
    roots_placed (g.A.Store.state c.args.source.now).nodes c.args.referrers c.args.key.now c.args.roots.now more _ c.in_ok-more.ensures (rw c.deref.ensures.value at c.in_ok-place_all.ensures)
