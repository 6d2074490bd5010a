use Rattle.std.proofs.Common.{◌≡◌, None, rules}
use Rattle.oci_dir.specs.declared.fault.DirFault.TheVariants as dir
use Rattle.test_layouts.proofs.OverMemory.{replaces-over, fails-over}
use Rattle.test_layouts.proofs.tests.faulty.FaultyDirDir.replace.Goals as goal

pub returns-in-Ok : goal.returns-in-Ok
returns-in-Ok c =
    let d = c.args.self.now in
    replaces-over d.dir c.replace.new.self (d.change ≡ None) d.failures _ c.args.path.now c.args.bytes.now c.in-Ok.ensures.replaced (search rules)

pub returns-in-Err-Memory : goal.returns-in-Err-Memory
returns-in-Err-Memory c =
    let d = c.args.self.now in
    fails-over d.dir c.replace.new.self (d.change ≡ None) d.failures _ c.args.path.now c.args.bytes.now c.in-Err-Memory.field-0 dir.Memory (search rules) c.in-Err-Memory.ensures.replaced (search rules)

pub returns-in-Err-Failed : goal.returns-in-Err-Failed
returns-in-Err-Failed c =
    let d = c.args.self.now in
    fails-over d.dir c.replace.new.self (d.change ≡ None) d.failures _ c.args.path.now c.args.bytes.now c.in-Err-Failed.field-0 dir.Failed (λ m. cc m) c.in-Err-Failed.ensures.replaced (search rules)
