use Rattle.std.proofs.Common.{take}
use Rattle.std.specs.Map.{keys_of}
use Rattle.oci_layout_store.proofs.Loose.{HasKeys}
use Rattle.oci_prune.proofs.held.held_keys.Given as goal

-- as far as the loop has come
abbrev pub invariant-loop-place : goal.invariant-loop-place
invariant-loop-place g l = HasKeys l.held (keys_of (take l.place l.layout.graph))
