use Rattle.std.proofs.Common.{subst, arith}
use Rattle.std.proofs.lemmas.List.{take_all}
use Rattle.std.proofs.lemmas.Result.{IfOk-weaker}
use Rattle.oci_layout_store.proofs.SavedEntries.{HasAmong, HasAmong-more}
use Rattle.oci_repair_commands.proofs.Tasks.{in_set}
use Rattle.oci_repair_commands.proofs.plan.in_order.Goals as goal

pub loop-key-preserved : goal.loop-key-preserved
loop-key-preserved c =
    HasAmong-more c.loop-key.set c.insert.new.self c.args.keys.now c.loop-key.key-index c.key-item.result _ c.loop-key-test.true c.key-item.is c.in_ok-try_clone.ensures c.loop-key.invariant c.in_ok-insert.ensures.updates.0

pub returns-clause-each : goal.returns-clause-each
returns-clause-each c =
    let keys = c.args.keys.now in
    let all = subst (HasAmong c.loop-key.set) (take_all c.loop-key.key-index keys (omega (arith, c.loop-key-test.false))) c.loop-key.invariant in
    IfOk-weaker c.keys_of_set.result _ _ (λ sorted are. in_set c.loop-key.set keys sorted.items all are) c.keys_of_set.ensures.keys
