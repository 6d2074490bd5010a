use Rattle.std.proofs.Common.{sym, ◌∙◌}
use Rattle.oci_prune.proofs.Arriving.{held_by_keys}
use Rattle.oci_copy_commands.proofs.behind.holds.Goals as goal

pub returns : goal.returns
returns g c =
    let store = g.S.Store.state c.args.store.now in
    c.exists.ensures ∙ sym (held_by_keys store.nodes store.entries c.args.key.now (g.S.Store.same_keys c.args.store.now))
