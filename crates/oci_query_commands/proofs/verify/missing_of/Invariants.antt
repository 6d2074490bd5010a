use Rattle.std.proofs.Common.{◌≡◌, drop}
use Rattle.std.specs.BTreeSet.{contains}
use Rattle.oci_manifest.specs.Descriptor.{key_cmp}
use Rattle.oci_query_commands.specs.Found.{has_file, without_file}
use Rattle.oci_query_commands.proofs.verify.missing_of.Given as goal

-- the keys that are passed have files
abbrev pub invariant-loop-key : goal.invariant-loop-key
invariant-loop-key g l =
    let has = has_file l.layout.graph (contains key_cmp l.damaged) in
    without_file has (drop l.key-index l.keys) ≡ without_file has l.keys
