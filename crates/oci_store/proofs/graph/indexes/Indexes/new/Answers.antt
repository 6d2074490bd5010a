use Rattle.std.proofs.Common.{ap}
use Rattle.std.specs.Map.{lookup}
use Rattle.std.specs.Ordering.{is_eq}
use Rattle.oci_manifest.specs.Descriptor.{key_cmp}
use Rattle.oci_store.proofs.Indexes.{IsIndexed-nil}
use Rattle.oci_store.proofs.graph.indexes.Indexes.new.Goals as goal

pub returns : goal.returns
returns c = IsIndexed-nil c.new.result c.new-2.result.lists c.new-3.result.keys (λ k. ap (lookup (λ other. is_eq (key_cmp k other))) c.new.ensures.empty) c.new-2.ensures c.new-3.ensures
