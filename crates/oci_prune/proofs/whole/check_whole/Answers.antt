use Rattle.std.proofs.Common.{◌≡◌, ◌∙◌, None, sym}
use Rattle.std.specs.List.{slice_get}
use Rattle.oci_store.specs.Keyed.{first_missing}
use Rattle.oci_layout_store.specs.Layout.{manifests_of}
use Rattle.oci_prune.proofs.Plans.{checks_whole}
use Rattle.oci_prune.proofs.whole.check_whole.Goals as goal

pub returns-in-None-clause-whole : goal.returns-in-None-clause-whole
returns-in-None-clause-whole g c =
    let graph = (g.S.Store.state c.args.store.now).nodes in
    let opened = c.args.layout.now.opened in
    let no_absent : slice_get opened.absent 0 ≡ None = cc (c.in_default.ensures.value, c.absent.ensures) in
    let none_damaged : first_missing graph (manifests_of opened.damaged) ≡ None = sym c.in_ok-key.ensures ∙ c.in_default-2.is in
    checks_whole graph opened no_absent none_damaged c.in_default-check_entries.ensures.readable
