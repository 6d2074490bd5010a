use Rattle.std.proofs.Common.{◌≡◌, true, refl, subst}
use Rattle.std.proofs.lemmas.Bool.{false≢true}
use Rattle.oci_manifest.specs.Descriptor.{Descriptor}
use Rattle.oci_prune.specs.Attached.{AttachedIn}
use Rattle.oci_prune.specs.Belongs.{IsUnknown}
use Rattle.oci_prune.specs.Refusal.{IsUnknownFault}
use Rattle.oci_prune_fault.specs.declared.fault.PruneFault.{PruneFault}
use Rattle.oci_prune.proofs.Holding.{knows_listed}
use Rattle.oci_prune.proofs.Parting.{not_listed}
use Rattle.oci_prune.proofs.untagged.knows_listed.Goals as goal

pub returns-in-Ok : goal.returns-in-Ok
returns-in-Ok g c = (λ yes. knows_listed (g.D.Dir.device c.args.layout.now.dir) c.args.layout.now.graph c.args.held.now (AttachedIn c.none-none.result) c.requires (c.in-Ok.ensures.known refl), λ knows. refl)

pub returns-in-Err-Unknown : goal.returns-in-Err-Unknown
returns-in-Err-Unknown g c =
    let graph = c.args.layout.now.graph in
    let attached = AttachedIn c.none-none.result in
    let arm = c.in-Err-Unknown in
    let cause = subst (λ (e : PruneFault). IsUnknownFault (λ (k : Descriptor). (true ≡ true) × IsUnknown graph c.args.held.now attached k) e) arm.field-0-is arm.ensures.cause in
    (λ never. absurd (false≢true never), λ knows. absurd (not_listed graph c.args.held.now attached arm.field-0-0 c.requires c.none-none.ensures cause.1 knows))
