use Rattle.std.proofs.Common.{◌++◌, ◌∙◌, ap}
use Rattle.oci_store.proofs.Membership.{Keys}
use Rattle.oci_selection.specs.Selected.{each_once}
use Rattle.oci_selection.proofs.roots.add_typed.Goals as goal

pub returns-clause-exact : goal.returns-clause-exact
returns-clause-exact g c = (
  c.in_ok-belonging.belonging,
  c.in_ok-belonging.ensures.exact,
  c.in_ok-both.ensures ∙ ap (λ (ks : Keys). each_once (c.args.keys.now ++ ks)) c.deref.ensures.value,
)
