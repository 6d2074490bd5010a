use Rattle.std.proofs.Common.{take}
use Rattle.std.specs.Option.{option_copied}
use Rattle.oci_prune.specs.Aside.{is_one_of, ArePicked}
use Rattle.oci_prune.proofs.aside.pick_layers.Given as goal

-- as far as the loop has come
abbrev pub invariant-loop-pair : goal.invariant-loop-pair
invariant-loop-pair l = ArePicked (is_one_of (option_copied l.among)) (take l.pair-index l.pairs) l.layers.items
