use Rattle.std.specs.BTreeSet.{contains}
use Rattle.std.proofs.lemmas.Result.{IfOk-weaker}
use Rattle.oci_manifest.specs.Descriptor.{key_cmp}
use Rattle.oci_query_commands.proofs.BrokenTags.{AreBad-reached}
use Rattle.oci_query_commands.proofs.broken.bad_below.Goals as goal

pub returns : goal.returns
returns g c =
    IfOk-weaker c.bad_among.result _ _
    (λ bad is. AreBad-reached c.args.layout.now.graph (contains key_cmp c.args.corrupt.now) c.args.root.now c.in_ok-reached.reached c.in_ok-keys.keys.items bad.items c.in_ok-reached.ensures c.in_ok-keys.ensures.keys c.in_ok-keys.ensures.order is)
    c.bad_among.ensures
