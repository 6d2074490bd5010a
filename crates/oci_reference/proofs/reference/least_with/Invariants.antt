use Rattle.std.proofs.Common.{take}
use Rattle.std.specs.Option.{option_copied}
use Rattle.oci_store.specs.Tags.{IsLeastOf}
use Rattle.oci_reference.proofs.reference.least_with.Given as goal

-- as far as the loop has come
abbrev pub invariant-loop-key : goal.invariant-loop-key
invariant-loop-key l = IsLeastOf (take l.key-index l.keys) l.digest (option_copied l.least)
