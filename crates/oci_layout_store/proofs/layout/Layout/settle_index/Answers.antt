use Rattle.oci_layout_store.proofs.Unchanged.{AreRemembered-same, IsLayout-same}
use Rattle.oci_layout_store.proofs.layout.Layout.settle_index.Goals as goal

pub invariant_of-self : goal.invariant_of-self
invariant_of-self g c =
    let s = c.self.inside in
    let old = g.D.Dir.device s.dir in
    let new = g.D.Dir.device c.settle.new.self in (
      IsLayout-same old new s.graph s.tags c.settle.ensures.only.honest.1 c.settle.ensures.only.files c.self.invariant.0,
      AreRemembered-same old new s.graph s.stated c.settle.ensures.only.honest.1 c.settle.ensures.only.files c.self.invariant.1,
    )

pub invariant_of-self-2 : goal.invariant_of-self-2
invariant_of-self-2 g c =
    let s = c.self.inside in
    let old = g.D.Dir.device s.dir in
    let new = g.D.Dir.device c.settle.new.self in (
      IsLayout-same old new s.graph s.tags c.settle.ensures.only.honest.1 c.settle.ensures.only.files c.self.invariant.0,
      AreRemembered-same old new s.graph s.stated c.settle.ensures.only.honest.1 c.settle.ensures.only.files c.self.invariant.1,
    )
