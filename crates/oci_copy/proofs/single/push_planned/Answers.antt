use Rattle.std.proofs.Common.{Ok, Err, subst}
use Rattle.oci_manifest.specs.Descriptor.{Descriptor}
use Rattle.oci_copy.specs.Brought.{IsBrought}
use Rattle.oci_copy.proofs.Pushes.{brought, refused}
use Rattle.oci_copy.proofs.single.push_planned.Goals as goal

pub returns-in-Ok : goal.returns-in-Ok
returns-in-Ok g c =
    let it = c.in_ok-content.ensures in
    subst (λ (k : Descriptor). IsBrought g.D.Store.state g.D.Dest.shares (g.A.Store.state c.args.source.now) (g.D.Store.state c.args.destination.now) (g.D.Store.state c.push_checked.new.self) k (Ok (tt))) it.key
    (brought {listed = it.checked.0} (rw it.key c.requires) (rw it.key it.checked.1) (rw it.key it.own) c.in-Ok.ensures.pushed)

pub returns-in-Err : goal.returns-in-Err
returns-in-Err g c =
    let it = c.in_ok-content.ensures in
    subst (λ (k : Descriptor). IsBrought g.D.Store.state g.D.Dest.shares (g.A.Store.state c.args.source.now) (g.D.Store.state c.args.destination.now) (g.D.Store.state c.push_checked.new.self) k (Err c.push_fault.result)) it.key
    (refused {listed = it.checked.0} (rw it.key c.requires) (rw it.key it.checked.1) (rw it.key it.own) {reported = c.push_fault.result} c.in-Err.ensures.pushed (rw it.key c.push_fault.ensures))
