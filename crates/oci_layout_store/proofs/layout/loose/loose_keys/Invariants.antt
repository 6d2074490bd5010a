use Rattle.std.proofs.Common.{take}
use Rattle.std.specs.Map.{keys_of}
use Rattle.oci_layout_store.proofs.Loose.{HasNew}
use Rattle.oci_layout_store.proofs.layout.loose.loose_keys.Given as goal

abbrev pub invariant-loop-place : goal.invariant-loop-place
invariant-loop-place l = HasNew l.graph l.tagged l.unnamed l.loose (keys_of (take l.place l.graph))
