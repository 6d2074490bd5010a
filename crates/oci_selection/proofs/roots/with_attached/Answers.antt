use Rattle.std.proofs.Common.{◌++◌, ◌∙◌, ℕ, List, not, ap}
use Rattle.std.specs.Str.{bytes_eq}
use Rattle.oci_manifest.specs.Descriptor.{Descriptor}
use Rattle.oci_store.specs.Tags.{by_bytes, without_tag}
use Rattle.oci_store.proofs.Membership.{Keys}
use Rattle.oci_selection.specs.Selected.{each_once}
use Rattle.oci_selection.proofs.AttachedRoots.{others_of_roots}
use Rattle.oci_selection.proofs.roots.with_attached.Goals as goal

pub returns-clause-exact : goal.returns-clause-exact
returns-clause-exact g c = (
  c.in_ok-belonging.belonging,
  c.in_ok-belonging.ensures.exact,
  c.in_ok-keys.ensures ∙ ap (λ (ks : Keys). each_once (c.args.climbed.now ++ ks)) c.deref.ensures.value,
  c.in_ok-tags.ensures ∙ ap (λ ts. without_tag (by_bytes ts) c.args.name.now) c.deref-2.ensures.value,
)

pub returns-clause-tagged : goal.returns-clause-tagged
unfolding returns-clause-exact
returns-clause-tagged g c =
    let exact = returns-clause-exact g c in
    let belonging = c.in_ok-belonging.belonging in
    rw (exact.2, exact.3) (
    others_of_roots c.args.source.now.graph c.args.climbed.now c.args.source.now.tags belonging c.source_belonging.ensures.names c.in_ok-belonging.ensures.exact.complete (λ (t : List ℕ × Descriptor). not (bytes_eq c.args.name.now t.0))
    )
