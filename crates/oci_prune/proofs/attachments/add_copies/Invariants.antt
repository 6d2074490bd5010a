use Rattle.std.proofs.Common.{◌≡◌, ◌++◌, take}
use Rattle.oci_prune.proofs.attachments.add_copies.Given as goal

-- as far as the loop has come
abbrev pub invariant-loop-key : goal.invariant-loop-key
invariant-loop-key l = l.keys.items ≡ l.initial.keys.items ++ take l.key-index l.found
