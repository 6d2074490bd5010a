use Rattle.std.proofs.Common.{◌≡◌, filter}
use Rattle.std.specs.BTreeSet.{contains}
use Rattle.oci_manifest.specs.Descriptor.{key_cmp}
use Rattle.oci_query_commands.specs.Broken.{is_bad}
use Rattle.oci_query_commands.proofs.broken.bad_among.Given as goal

-- as far as the loop has come
abbrev pub invariant-loop-key : goal.invariant-loop-key
invariant-loop-key g l = l.bad.items ≡ filter (is_bad l.layout.graph (contains key_cmp l.corrupt)) l.yielded
