use Rattle.std.proofs.Common.{◌≡◌, true, false, sym, ap, subst, ◌∙◌}
use Rattle.std.specs.Map.{keys_of}
use Rattle.std.specs.Option.{option_copied}
use Rattle.std.proofs.lemmas.Result.{IfOk-weaker}
use Rattle.oci_manifest.specs.Descriptor.{Descriptor}
use Rattle.oci_store.specs.Keyed.{has_key}
use Rattle.oci_store.specs.Tags.{tag_at, IsLeastOf, IsLeastWith}
use Rattle.oci_layout_store.specs.Layout.{manifests_of}
use Rattle.oci_reference.specs.Reference.{Names}
use Rattle.oci_reference.proofs.Preferred.{manifest_held, names_least, names_manifest}
use Rattle.oci_reference.proofs.reference.named_key.Goals as goal

pub returns-then-is_manifest-clause-found : goal.returns-then-is_manifest-clause-found
returns-then-is_manifest-clause-found g c =
    names_manifest (keys_of c.args.layout.now.graph) c.args.reference.now c.args.key (tag_at c.args.layout.now.tags c.args.reference.now) (sym c.is_manifest.ensures ∙ c.if-is_manifest.true) c.requires.resolved

pub returns-in-Some-clause-found : goal.returns-in-Some-clause-found
returns-in-Some-clause-found g c =
    let layout = c.args.layout.now in
    let m = c.in-Some.manifest.now in
    let least : IsLeastWith (manifests_of (keys_of layout.graph)) c.args.key.digest m =
    subst (IsLeastOf (manifests_of (keys_of layout.graph)) c.args.key.digest) (ap option_copied c.in-Some.is) (rw (c.deref.ensures.value, c.in_ok-manifests.ensures, c.digest.ensures) at c.least_with.ensures) in
    let named = names_least (keys_of layout.graph) c.args.reference.now c.args.key m (tag_at layout.tags c.args.reference.now) (sym c.in_ok-is_tag.ensures ∙ c.if-branch.false) c.requires.resolved least in
    IfOk-weaker c.try_clone.result _ _ (λ k is. subst (Names (keys_of layout.graph) layout.tags c.args.reference.now) (sym is) named) c.try_clone.ensures

pub returns-in-Some-clause-there : goal.returns-in-Some-clause-there
returns-in-Some-clause-there g c =
    let layout = c.args.layout.now in
    let m = c.in-Some.manifest.now in
    let least : IsLeastWith (manifests_of (keys_of layout.graph)) c.args.key.digest m =
    subst (IsLeastOf (manifests_of (keys_of layout.graph)) c.args.key.digest) (ap option_copied c.in-Some.is) (rw (c.deref.ensures.value, c.in_ok-manifests.ensures, c.digest.ensures) at c.least_with.ensures) in
    IfOk-weaker c.try_clone.result _ _ (λ k is. subst (λ (other : Descriptor). has_key layout.graph other ≡ true) (sym is) (manifest_held layout.graph m least.there)) c.try_clone.ensures
