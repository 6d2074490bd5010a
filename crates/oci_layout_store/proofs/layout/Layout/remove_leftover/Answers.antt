use Rattle.std.proofs.Common.{refl}
use Rattle.oci_layout_store.proofs.Crash.{Lasts-no_more}
use Rattle.oci_layout_store.proofs.Unchanged.{AreRemembered-same, IsLayout-same, OnlyFiles-same}
use Rattle.oci_layout_store.proofs.layout.Layout.remove_leftover.Goals as goal

pub invariant_of-self : goal.invariant_of-self
invariant_of-self g c =
    let s = c.self.inside in
    let old = g.D.Dir.device s.dir in
    let new = g.D.Dir.device c.remove_draft.new.self in
    let removal = c.remove_draft.ensures in (
      IsLayout-same old new s.graph s.tags removal.device.honest.1 removal.files c.self.invariant.0,
      AreRemembered-same old new s.graph s.stated removal.device.honest.1 removal.files c.self.invariant.1,
    )

pub returns-clause-only : goal.returns-clause-only
returns-clause-only g c =
    let removal = c.remove_draft.ensures in
    rw (← c.self.view_is) (OnlyFiles-same g.D.Dir.device _ _ (record { graph = refl; tags = refl; opened = refl }) removal.device.honest.0 removal.files)

pub returns-clause-lasts : goal.returns-clause-lasts
returns-clause-lasts g c =
    let old = g.D.Dir.device c.self.inside.dir in
    let new = g.D.Dir.device c.remove_draft.new.self in
    let removal = c.remove_draft.ensures in
    rw (← c.self.view_is) (λ entries tags. Lasts-no_more old new entries tags removal.device.honest.0 removal.left)
