use Rattle.std.proofs.Common.{◌≡◌, ◌&&◌, not, filter, take}
use Rattle.std.specs.BTreeSet.{contains}
use Rattle.oci_manifest.specs.Descriptor.{Descriptor, key_cmp}
use Rattle.oci_store.specs.Keyed.{has_key}
use Rattle.oci_prune.proofs.after.AfterCopy.new_among.Given as goal

-- as far as the loop has come
abbrev pub invariant-loop-key : goal.invariant-loop-key
invariant-loop-key g l =
    l.found.items ≡ filter (λ (k : Descriptor). contains key_cmp l.self.arriving.now k && not (has_key (g.D.Store.state l.self.destination.now).entries k)) (take l.key-index l.keys)
