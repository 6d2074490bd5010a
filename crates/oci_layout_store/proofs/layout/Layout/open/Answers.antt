use Rattle.std.proofs.Common.{false}
use Rattle.oci_layout_store.specs.Entries.{entry_keys}
use Rattle.oci_layout_store.proofs.Walk.{IsSound-opened}
use Rattle.oci_layout_store.proofs.layout.Layout.open.Goals as goal

pub returns-in-Ok-clause-opened : goal.returns-in-Ok-clause-opened
returns-in-Ok-clause-opened g c = rw c.of.ensures c.in-Ok.ensures.opened

pub returns-in-Ok-clause-sound : goal.returns-in-Ok-clause-sound
returns-in-Ok-clause-sound g c =
    let dir = g.D.Dir.device c.args.dir in
    rw c.of.ensures (λ honest matching.
    (let o = c.in-Ok.ensures.opened honest in
    IsSound-opened dir.is_honest false dir.file (entry_keys o.content.entries) c.in-Ok.held.graph honest c.in-Ok.ensures.distinct o.read.walked matching))
