use Rattle.std.proofs.Common.{◌≡◌, filter}
use Rattle.oci_query_commands.specs.Foreign.{has_wrong_file}
use Rattle.oci_query_commands.proofs.foreign.wrong_among.Given as goal

-- as far as the loop has come
abbrev pub invariant-loop-key : goal.invariant-loop-key
invariant-loop-key g l =
    let dir = g.D.Dir.device l.layout.dir in
    dir.is_honest → l.wrong.items ≡ filter (has_wrong_file dir.file) l.yielded
