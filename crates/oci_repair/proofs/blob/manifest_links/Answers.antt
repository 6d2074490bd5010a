use Rattle.std.proofs.Common.{true, refl}
use Rattle.oci_layout_store.specs.declared.fault.LayoutFault.TheVariants as fault
use Rattle.oci_layout_store.proofs.Walk.{fault_damaged}
use Rattle.oci_repair.proofs.Whole.{damaged_is_not}
use Rattle.oci_repair.proofs.blob.manifest_links.Goals as goal

pub returns-in-Err-Corrupt : goal.returns-in-Err-Corrupt
returns-in-Err-Corrupt g c =
    let dir = g.D.Dir.device c.args.dir.now in
    let k = c.args.key.now in
    let e = fault.Corrupt c.in-Err-Corrupt.field-0-0 in
    record {
      found = λ honest. damaged_is_not dir.file k c.requires.manifest
          (fault_damaged true dir k e refl tt honest (rw c.in-Err-Corrupt.field-0-is at c.in-Err-Corrupt.ensures.cause));
      failed = λ h. cc h;
    }

pub returns-in-Err-BadManifest : goal.returns-in-Err-BadManifest
returns-in-Err-BadManifest g c =
    let dir = g.D.Dir.device c.args.dir.now in
    let k = c.args.key.now in
    let e = fault.BadManifest c.in-Err-BadManifest.field-0-0 c.in-Err-BadManifest.field-0-1 in
    record {
      found = λ honest. damaged_is_not dir.file k c.requires.manifest
          (fault_damaged true dir k e refl tt honest (rw c.in-Err-BadManifest.field-0-is at c.in-Err-BadManifest.ensures.cause));
      failed = λ h. cc h;
    }
