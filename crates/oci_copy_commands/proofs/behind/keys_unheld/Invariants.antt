use Rattle.std.proofs.Common.{◌≡◌, not, filter, take}
use Rattle.oci_manifest.specs.Descriptor.{Descriptor}
use Rattle.oci_store.specs.Keyed.{has_key}
use Rattle.oci_copy_commands.proofs.behind.keys_unheld.Given as goal

-- as far as the loop has come
abbrev pub invariant-loop-key : goal.invariant-loop-key
invariant-loop-key g l = l.unheld.items ≡ filter (λ (k : Descriptor). not (has_key (g.S.Store.state l.store).nodes k)) (take l.key-index l.keys)
