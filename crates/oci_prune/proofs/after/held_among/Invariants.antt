use Rattle.std.proofs.Common.{◌≡◌, filter, take}
use Rattle.oci_store.specs.Keyed.{has_key}
use Rattle.oci_prune.proofs.after.held_among.Given as goal

-- as far as the loop has come
abbrev pub invariant-loop-key : goal.invariant-loop-key
invariant-loop-key g l = l.held.items ≡ filter (has_key (g.S.Store.state l.source).entries) (take l.key-index l.keys)
