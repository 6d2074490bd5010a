use Rattle.std.proofs.Common.{option_map, sym, ap, arith}
use Rattle.oci_store.specs.Content.{Entry}
use Rattle.oci_tag_commands.proofs.Items.{keys_pushed}
use Rattle.oci_tag_commands.proofs.mem.sorted_keys.Goals as goal

pub loop-place-preserved : goal.loop-place-preserved
loop-place-preserved c =
    let at = rw c.in-Some.is at c.entry.ensures in
    keys_pushed c.args.store.now.entries c.loop-place.place c.in-Some.key c.loop-place.keys.items c.push.new.self.items (omega (arith, c.loop-place-test.true, c.len-place-end.ensures.count))
    (ap (option_map (λ (e : Entry). e.0)) (sym at)) c.in_ok-push.ensures.items c.loop-place.invariant
