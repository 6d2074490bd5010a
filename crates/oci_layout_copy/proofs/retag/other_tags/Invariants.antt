use Rattle.std.proofs.Common.{◌≡◌, ◌++◌, drop}
use Rattle.oci_store.specs.Tags.{by_bytes}
use Rattle.oci_selection.specs.Selected.{other_tags}
use Rattle.oci_layout_copy.proofs.retag.other_tags.Given as goal

-- the others found so far, followed by those that are left
abbrev pub invariant-loop-name : goal.invariant-loop-name
invariant-loop-name l = by_bytes l.others.items ++ other_tags (by_bytes (drop l.name-index l.tags)) (by_bytes l.fn.kept) ≡ other_tags (by_bytes l.tags) (by_bytes l.fn.kept)
