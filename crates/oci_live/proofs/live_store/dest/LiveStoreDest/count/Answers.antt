use Rattle.std.proofs.Common.{sym, subst}
use Rattle.std.specs.List.{IsDistinct}
use Rattle.oci_manifest.specs.Descriptor.{same_key}
use Rattle.oci_store.specs.Content.{IsContent}
use Rattle.oci_store.specs.GraphLaws.{keys_of-nodes_of}
use Rattle.oci_live.proofs.live_store.dest.LiveStoreDest.count.Goals as goal

pub returns-clause-distinct : goal.returns-clause-distinct
returns-clause-distinct g c = subst (IsDistinct same_key) (sym (keys_of-nodes_of c.args.self.now.entries)) (subst IsContent c.shelf.ensures.entries c.len.ensures.content).distinct
