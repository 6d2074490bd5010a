use Rattle.std.proofs.Common.{◌<◌, inr, arith}
use Rattle.oci_query_commands.specs.Written.{most_checked_first}
use Rattle.oci_query_commands.proofs.Written.{IfErr-all}
use Rattle.oci_query_commands.proofs.cat.write_blob.Goals as goal

pub returns-else-size-le-MOST_CHECKED_FIRST-clause-unwritten : goal.returns-else-size-le-MOST_CHECKED_FIRST-clause-unwritten
returns-else-size-le-MOST_CHECKED_FIRST-clause-unwritten g c =
    let size = c.size.ensures.size in
    let large : most_checked_first < c.args.key.now.size = omega arith in
    IfErr-all _ c.write_parts.result (λ e. inr (inr large))
