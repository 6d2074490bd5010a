use Rattle.std.specs.BTreeSet.{contains}
use Rattle.std.specs.List.{All}
use Rattle.std.specs.Map.{values_of}
use Rattle.std.proofs.Common.{◌≡◌, true}
use Rattle.oci_manifest.specs.Descriptor.{Descriptor, key_cmp}
use Rattle.oci_layout_store.proofs.Retained.{IsLayout-retained, IsSound-retained}
use Rattle.oci_layout_store.proofs.layout.Layout.retain.Goals as goal

pub invariant_of-self : goal.invariant_of-self
invariant_of-self g c =
    let s = c.self.inside in
    let kept : All (λ (k : Descriptor). contains key_cmp c.args.kept.now k ≡ true) (values_of s.tags) = rw (← c.self.view_is) at c.requires.tagged in
    (IsLayout-retained (g.D.Dir.device s.dir) (λ (k : Descriptor). contains key_cmp c.args.kept.now k) s.graph c.in_ok-self-inside.field-0 s.tags c.in_ok-self-inside.ensures kept c.self.invariant.0, tt)

pub returns-clause-sound : goal.returns-clause-sound
returns-clause-sound g c =
    let s = c.self.inside in
    let dir = g.D.Dir.device s.dir in
    rw (← c.self.view_is)
    (λ sound. IsSound-retained dir.is_honest dir.file (λ (k : Descriptor). contains key_cmp c.args.kept.now k) s.graph c.in_ok-self-inside.field-0 c.in_ok-self-inside.ensures sound)
