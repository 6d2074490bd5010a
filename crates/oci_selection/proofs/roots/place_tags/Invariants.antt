use Rattle.std.proofs.Common.{◌≡◌, drop}
use Rattle.std.specs.Map.{values_of}
use Rattle.oci_store.specs.Tags.{by_bytes}
use Rattle.oci_store.specs.Visiting.{with_keys}
use Rattle.oci_selection.proofs.roots.place_tags.Given as goal

-- placing the remaining keys now has the effect of placing all at first
abbrev pub invariant-loop-key : goal.invariant-loop-key
invariant-loop-key l = with_keys l.keys (values_of (by_bytes (drop l.key-index l.tags))) ≡ with_keys l.fn.keys (values_of (by_bytes l.tags))
