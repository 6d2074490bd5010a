use Rattle.std.proofs.Common.{◌∙◌, ap}
use Rattle.oci_store.specs.Visiting.{with_keys}
use Rattle.oci_store.proofs.Membership.{Keys}
use Rattle.oci_selection.proofs.AttachedRoots.{once_both}
use Rattle.oci_selection.proofs.roots.both.Goals as goal

pub returns : goal.returns
returns c =
    c.into_keys.ensures.keys
    ∙ once_both c.args.first.now c.args.second.now c.place_all.new.self c.place_all-2.new.self (c.in_ok-place_all.ensures ∙ ap (λ (ks : Keys). with_keys ks c.args.first.now) c.new-keys.ensures) c.in_ok-place_all-2.ensures
