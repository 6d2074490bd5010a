use Rattle.std.proofs.Common.{◌≡◌, None, [], take}
use Rattle.oci_query_commands.proofs.left_out.fault_of_entries.Given as goal

-- as far as the loop has come
abbrev pub invariant-loop-place : goal.invariant-loop-place
invariant-loop-place g l = l.last ≡ None → take l.place-index l.places ≡ []
