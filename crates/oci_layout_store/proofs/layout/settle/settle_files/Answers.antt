use Rattle.std.proofs.Common.{drop, map, string_bytes}
use Rattle.oci_dir.specs.Crash.{IsSettling}
use Rattle.oci_layout_store.proofs.Settled.{SettlesFiles-all}
use Rattle.oci_layout_store.proofs.layout.settle.settle_files.Goals as goal

pub returns : goal.returns
returns g c =
    let old = g.D.Dir.device c.args.dir.now in
    let new = g.D.Dir.device c.settle.new.self in
    let paths = map string_bytes c.in_ok-paths.paths.items in
    let settling : IsSettling old new paths c.settle.result = rw c.deref.ensures.value at c.settle.ensures in
    SettlesFiles-all old new (drop c.args.from c.args.graph.now) paths c.settle.result c.in_ok-paths.ensures settling
