use Rattle.std.proofs.Common.{◌≡◌, filter}
use Rattle.std.specs.Global.{Vec}
use Rattle.std.specs.Option.{option_copied}
use Rattle.std.proofs.lemmas.Result.{IfOk-weaker}
use Rattle.oci_manifest.specs.Descriptor.{Descriptor}
use Rattle.oci_verify.specs.Corrupt.{is_asked}
use Rattle.oci_query_commands.specs.Foreign.{has_wrong_file, AreCorruptForeign}
use Rattle.oci_query_commands.proofs.ForeignLayers.{corrupt_among}
use Rattle.oci_query_commands.proofs.foreign.corrupt_foreign.Goals as goal

pub returns-in-Ok : goal.returns-in-Ok
returns-in-Ok g c =
    let layout = c.args.layout.now in
    let dir = g.D.Dir.device layout.dir in
    IfOk-weaker c.wrong_among.result _ _
    (λ wrong is honest. corrupt_among (option_copied c.args.asked) dir.file layout.graph c.in-Ok.layers.items wrong.items (c.in-Ok.ensures.exact honest) c.in-Ok.ensures.order (is honest))
    c.wrong_among.ensures
