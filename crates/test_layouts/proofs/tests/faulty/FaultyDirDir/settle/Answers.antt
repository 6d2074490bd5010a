use Rattle.std.proofs.Common.{◌≡◌, None, map, string_bytes}
use Rattle.test_layouts.proofs.OverMemory.{settles-over}
use Rattle.test_layouts.proofs.tests.faulty.FaultyDirDir.settle.Goals as goal

pub returns : goal.returns
returns c =
    let d = c.args.self.now in
    settles-over d.dir c.settle.new.self (d.change ≡ None) d.failures (map string_bytes c.args.paths.now) c.settle.result c.settle.ensures
