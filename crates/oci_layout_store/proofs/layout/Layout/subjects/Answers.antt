use Rattle.std.proofs.Common.{subst}
use Rattle.oci_layout_store.specs.Stated.{AreRemembered, AreStated}
use Rattle.oci_layout_store.proofs.layout.Layout.subjects.Goals as goal

pub returns-in-Some : goal.returns-in-Some
returns-in-Some g c =
    let s = c.self.inside in
    let dir = g.D.Dir.device s.dir in
    let kept : dir.is_honest → AreStated dir.file s.graph c.in-Some.stated = subst (AreRemembered dir s.graph) c.in-Some.is c.self.invariant.1 in
    rw (← c.self.view_is, c.deref.ensures.value) (λ honest. (kept honest).subjects)
