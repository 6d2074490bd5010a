use Rattle.std.proofs.Common.{List, subst}
use Rattle.oci_manifest.specs.Descriptor.{Descriptor}
use Rattle.oci_prune.specs.Files.{HasDigests}
use Rattle.oci_prune.proofs.Typing.{reached_exact}
use Rattle.oci_prune.proofs.typed.reached_digests.Goals as goal

pub returns-clause-exact : goal.returns-clause-exact
returns-clause-exact g c =
    reached_exact (g.S.Store.state c.args.source.now).nodes c.args.keys.now c.in_ok-reached.reached.items c.none.result c.in_ok-members.members c.in_ok-digests.digests c.none.ensures c.in_ok-members.ensures.members c.in_ok-reached.ensures.keys
    (subst (λ (ks : List Descriptor). HasDigests ks c.in_ok-digests.digests) c.deref.ensures.value c.in_ok-digests.ensures)
