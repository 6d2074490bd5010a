use Rattle.oci_layout_store.proofs.Unchanged.{IsLayout-touched}
use Rattle.oci_layout_store.proofs.layout.Layout.replace_draft.Goals as goal

pub invariant_of-self : goal.invariant_of-self
invariant_of-self g c =
    let s = c.self.inside in
    let other = rw (c.deref.ensures, c.in_ok-path.ensures, c.digest.ensures) at c.restore.ensures.other in (
      IsLayout-touched (g.D.Dir.device s.dir) (g.D.Dir.device c.restore.new.self) s.graph s.tags c.args.key.now.digest c.restore.ensures.device.honest.1 other c.self.invariant.0,
      tt,
    )

pub invariant_of-self-2 : goal.invariant_of-self-2
invariant_of-self-2 g c =
    let s = c.self.inside in
    let other = rw (c.deref.ensures, c.in_ok-path.ensures, c.digest.ensures) at c.restore.ensures.other in (
      IsLayout-touched (g.D.Dir.device s.dir) (g.D.Dir.device c.restore.new.self) s.graph s.tags c.args.key.now.digest c.restore.ensures.device.honest.1 other c.self.invariant.0,
      tt,
    )

pub returns-clause-whole : goal.returns-clause-whole
returns-clause-whole g c =
    rw (← c.self.view_is)
    (λ bytes drafted. (rw (c.deref.ensures, c.in_ok-path.ensures, c.digest.ensures) at c.restore.ensures.replaced bytes drafted).whole)
