use Rattle.std.proofs.Common.{◌≡◌, drop}
use Rattle.std.specs.BTreeSet.{contains}
use Rattle.std.specs.Option.{option_copied}
use Rattle.oci_manifest.specs.Descriptor.{key_cmp}
use Rattle.oci_verify.specs.Corrupt.{is_asked}
use Rattle.oci_query_commands.specs.Found.{first_without_file, has_file}
use Rattle.oci_query_commands.proofs.Found.{asked_in}
use Rattle.oci_query_commands.proofs.verify.open_key.Given as goal

-- the keys that are passed list only keys with files, or are not asked for
abbrev pub invariant-loop-place : goal.invariant-loop-place
invariant-loop-place g l =
    let has = has_file l.layout.graph (contains key_cmp l.damaged) in
    let test = is_asked (option_copied l.asked) in
    first_without_file has (asked_in test (drop l.place l.layout.graph)) ≡ first_without_file has (asked_in test l.layout.graph)
