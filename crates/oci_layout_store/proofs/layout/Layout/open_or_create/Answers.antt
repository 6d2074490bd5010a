use Rattle.std.proofs.Common.{sym, subst}
use Rattle.oci_layout_store.specs.Blobs.{HasMatchingFiles, IsSound}
use Rattle.oci_layout_store.proofs.layout.Layout.open_or_create.Goals as goal

pub returns-in-Ok-clause-sound : goal.returns-in-Ok-clause-sound
returns-in-Ok-clause-sound g c =
    let layout = c.in-Ok.layout in
    subst (λ d. (g.D.Dir.device c.args.dir).is_honest → HasMatchingFiles (g.D.Dir.device d).file layout.graph
    → IsSound (g.D.Dir.device d).is_honest (g.D.Dir.device d).file layout.graph)
    (sym c.in-Ok.ensures.same) c.in-Ok.ensures.sound
