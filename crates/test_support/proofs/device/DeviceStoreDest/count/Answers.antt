use Rattle.std.proofs.Common.{sym, subst}
use Rattle.std.specs.List.{IsDistinct}
use Rattle.oci_manifest.specs.Descriptor.{same_key}
use Rattle.oci_store.specs.GraphLaws.{keys_of-nodes_of}
use Rattle.test_support.proofs.device.DeviceStoreDest.count.Goals as goal

pub returns-clause-distinct : goal.returns-clause-distinct
returns-clause-distinct c = subst (IsDistinct same_key) (sym (keys_of-nodes_of c.args.self.now.0)) (rw (← c.self.view_is) c.len.ensures.content.distinct)
