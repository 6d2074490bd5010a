use Rattle.std.proofs.Common.{◌≡◌, ◌||◌, not, filter}
use Rattle.std.specs.BTreeSet.{contains}
use Rattle.oci_manifest.specs.Descriptor.{key_cmp}
use Rattle.oci_layout_store.proofs.opened_index.remaining.Given as goal

-- as far as the loop has come
abbrev pub invariant-loop-key : goal.invariant-loop-key
invariant-loop-key l = l.remaining.items ≡ filter (λ k. contains key_cmp l.stay k || not (contains key_cmp l.listed k)) l.yielded
