use Rattle.std.proofs.Common.{◌≡◌, ◌++◌, drop, map}
use Rattle.oci_layout_store.specs.Entries.{entry_of}
use Rattle.oci_query_commands.specs.Found.{shadowed_in, tagged_of}
use Rattle.oci_query_commands.proofs.verify.shadowed_entries.Given as goal

-- what was found so far, followed by what is left, is all
abbrev pub invariant-loop-place : goal.invariant-loop-place
invariant-loop-place l =
    let entries = map entry_of l.entries in
    map tagged_of l.shadowed.items ++ shadowed_in (drop l.place entries) ≡ shadowed_in entries
