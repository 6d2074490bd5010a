use Rattle.std.proofs.Common.{◌≡◌, true}
use Rattle.oci_layout_store.proofs.Loose.{key_added}
use Rattle.oci_verify.proofs.search.add_if.Goals as goal

pub returns-in_ok-insert : goal.returns-in_ok-insert
returns-in_ok-insert c =
    key_added c.args.keys.now c.insert.new.self c.args.key.now c.in_ok-try_clone.field-0 (c.args.answer ≡ true) c.in_ok-try_clone.ensures c.in_ok-insert.ensures.updates.0 c.if-answer.true
