use Rattle.std.proofs.Common.{take}
use Rattle.std.specs.Map.{values_of}
use Rattle.oci_store.specs.Tags.{by_bytes}
use Rattle.oci_layout_store.proofs.Loose.{HasKeys}
use Rattle.oci_layout_store.proofs.layout.loose.tagged_keys.Given as goal

abbrev pub invariant-loop-tag : goal.invariant-loop-tag
invariant-loop-tag l = HasKeys l.tagged (values_of (by_bytes (take l.tag-index l.tags)))
