use Rattle.std.proofs.Common.{drop, ◌∷◌, []}
use Rattle.std.proofs.lemmas.Result.{err_from_is_err_and}
use Rattle.oci_dir.specs.Crash.{IsSettling}
use Rattle.oci_layout_store.specs.Index.{index_file}
use Rattle.oci_layout_store.proofs.Settled.{IsSaved-second, IsSaved-last}
use Rattle.oci_layout_store.proofs.layout.settle.put_settled.Goals as goal

pub returns-in_err-replace_index : goal.returns-in_err-replace_index
returns-in_err-replace_index g c =
    let nodes = drop c.args.from c.args.graph.now in
    let p = err_from_is_err_and c.from_residual-in_err-replace_index.result c.from_residual-in_err-replace_index.ensures.1 in
    rw (p.1, p.2)
    (IsSaved-second (g.D.Dir.device c.args.dir.now) (g.D.Dir.device c.settle_files.new.dir) (g.D.Dir.device c.replace_index.new.dir) nodes c.args.text.now _ c.in_ok-settle_files.ensures c.in_err-replace_index.ensures)

pub returns : goal.returns
returns g c =
    let late = g.D.Dir.device c.replace_index.new.dir in
    let new = g.D.Dir.device c.settle.new.self in
    let settling : IsSettling late new (index_file ∷ []) c.settle.result = rw (c.deref.ensures.value, c.in_ok-index.ensures) at c.settle.ensures in
    IsSaved-last (g.D.Dir.device c.args.dir.now) (g.D.Dir.device c.settle_files.new.dir) late new (drop c.args.from c.args.graph.now) c.args.text.now c.settle.result c.in_ok-settle_files.ensures c.in_ok-replace_index.ensures settling
