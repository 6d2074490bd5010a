use Rattle.std.proofs.Common.{◌≡◌, ◌∙◌, Some, option_map, sym, ap}
use Rattle.std.proofs.lemmas.Result.{on_ok_weaker}
use Rattle.std.specs.Global.{Vec}
use Rattle.oci_manifest.specs.Descriptor.{Descriptor}
use Rattle.oci_store.specs.Keyed.{value_at}
use Rattle.oci_prune.proofs.Filing.{keys_added}
use Rattle.oci_prune.proofs.files.add_listed.Goals as goal

pub returns-in-Some : goal.returns-in-Some
returns-in-Some g c =
    let graph = (g.S.Store.state c.args.source.now).nodes in
    let key = c.args.key.now in
    let lists : value_at graph key ≡ Some c.in-Some.listed.items = sym c.in_ok-listed.ensures ∙ ap (option_map (λ (keys : Vec Descriptor). keys.items)) c.in-Some.is in
    on_ok_weaker c.add_all.result (keys_added graph key c.args.needed.now.items c.push.new.self.items c.add_all.new.needed.items c.in-Some.listed.items lists (rw c.in_ok-try_clone.ensures at c.in_ok-push.ensures.items)) c.add_all.ensures
