use Rattle.std.proofs.Common.{take}
use Rattle.std.specs.Option.{option_copied}
use Rattle.oci_verify.specs.Corrupt.{is_asked}
use Rattle.oci_verify.proofs.Corrupt.{HasAsked}
use Rattle.oci_verify.proofs.search.asked_of.Given as goal

-- as far as the loop has come
abbrev pub invariant-loop-key : goal.invariant-loop-key
invariant-loop-key l = HasAsked (is_asked (option_copied l.asked)) (take l.key-index l.keys) l.set
