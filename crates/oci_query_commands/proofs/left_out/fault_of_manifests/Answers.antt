use Rattle.std.proofs.Common.{◌≡◌, true, false, List, subst}
use Rattle.std.proofs.lemmas.List.{take_all}
use Rattle.std.proofs.lemmas.List.Elements.{All-more}
use Rattle.oci_layout_store.specs.Opened.{is_damaged}
use Rattle.oci_manifest.specs.Descriptor.{Descriptor}
use Rattle.oci_query_commands.specs.Answered.{AreUndamaged}
use Rattle.oci_query_commands.proofs.Answered.{AreUndamaged-none}
use Rattle.oci_query_commands.proofs.left_out.fault_of_manifests.Goals as goal

pub loop-key-init : goal.loop-key-init
loop-key-init g c = (λ none. none, λ none. AreUndamaged-none (g.D.Dir.device c.args.layout.now.dir) c.args.manifests.now)

pub loop-key-preserved-in_default : goal.loop-key-preserved-in_default
loop-key-preserved-in_default g c = (
  c.loop-key.invariant.0,
  λ none honest. (
      let P : Descriptor → Type 0 = λ (k : Descriptor). is_damaged true (g.D.Dir.device c.args.layout.now.dir).file k ≡ false in
      All-more P c.args.manifests.now c.loop-key.key-index c.key-item.result c.loop-key-test.true (c.loop-key.invariant.1 none honest)
      (subst P c.key-item.is (c.in_default.ensures.whole honest))
      ),
)

pub loop-key-preserved : goal.loop-key-preserved
loop-key-preserved g c = (λ none. cc none, λ none. cc none)

pub returns-clause-undamaged : goal.returns-clause-undamaged
returns-clause-undamaged g c = λ none.
    subst (λ (keys : List Descriptor). AreUndamaged (g.D.Dir.device c.args.layout.now.dir) keys)
    (take_all c.loop-key.key-index c.args.manifests.now c.loop-key-test.false) (c.loop-key.invariant.1 none)
