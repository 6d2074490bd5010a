use Rattle.std.proofs.Common.{drop, map}
use Rattle.std.specs.BTreeSet.{contains}
use Rattle.oci_manifest.specs.Descriptor.{key_cmp}
use Rattle.oci_store.specs.Tags.{by_bytes}
use Rattle.oci_query_commands.specs.Broken.{broken_of}
use Rattle.oci_query_commands.proofs.BrokenTags.{IsBreaking}
use Rattle.oci_query_commands.proofs.broken.broken_among.Given as goal

-- as far as the loop has come
abbrev pub invariant-loop-tag : goal.invariant-loop-tag
invariant-loop-tag g l = IsBreaking l.layout.graph (contains key_cmp l.corrupt) (by_bytes l.tags) (map broken_of l.broken.items) (by_bytes (drop l.tag-index l.tags))
