use Rattle.std.proofs.Common.{◌≡◌, filter, take}
use Rattle.std.specs.Option.{option_copied}
use Rattle.oci_prune.specs.Aside.{is_one_of}
use Rattle.oci_prune.proofs.aside.keys_among.Given as goal

-- as far as the loop has come
abbrev pub invariant-loop-key : goal.invariant-loop-key
invariant-loop-key l = l.asked.items ≡ filter (is_one_of (option_copied l.among)) (take l.key-index l.keys)
