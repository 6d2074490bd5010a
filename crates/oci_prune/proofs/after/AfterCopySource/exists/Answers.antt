use Rattle.std.proofs.Common.{sym, ◌∙◌}
use Rattle.std.specs.BTreeSet.{contains}
use Rattle.oci_manifest.specs.Descriptor.{key_cmp}
use Rattle.oci_prune.proofs.Arriving.{has_key_gone, has_key_new, has_key_there}
use Rattle.oci_prune.proofs.after.AfterCopySource.exists.Goals as goal

pub returns-then-exists : goal.returns-then-exists
returns-then-exists g c =
    let s = c.args.self.now in
    sym (has_key_there (contains key_cmp s.arriving.now) (g.S.Store.state s.source.now).entries (g.D.Store.state s.destination.now).entries c.args.key.now (sym c.exists.ensures ∙ c.if-exists.true))

pub returns-then-contains : goal.returns-then-contains
returns-then-contains g c =
    let s = c.args.self.now in
    c.exists-then-contains.ensures
    ∙ sym (has_key_new (contains key_cmp s.arriving.now) (g.S.Store.state s.source.now).entries (g.D.Store.state s.destination.now).entries c.args.key.now (sym c.exists.ensures ∙ c.if-exists.false) (sym c.contains.ensures ∙ c.if-contains.true))

pub returns : goal.returns
returns g c =
    let s = c.args.self.now in
    sym (has_key_gone (contains key_cmp s.arriving.now) (g.S.Store.state s.source.now).entries (g.D.Store.state s.destination.now).entries c.args.key.now (sym c.exists.ensures ∙ c.if-exists.false) (sym c.contains.ensures ∙ c.if-contains.false))
