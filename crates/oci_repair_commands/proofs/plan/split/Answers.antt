use Rattle.std.proofs.Common.{◌≡◌, ◌+◌, ◌++◌, ◌∷◌, [], take, sym, subst, ap, ◌∙◌, arith}
use Rattle.std.proofs.lemmas.List.{take_all, take_more}
use Rattle.oci_repair_commands.specs.Repaired.{IsSplit}
use Rattle.oci_repair_commands.proofs.Tasks.{split_more}
use Rattle.oci_repair_commands.proofs.plan.split.Goals as goal

pub loop-key-preserved : goal.loop-key-preserved
loop-key-preserved g c =
    let all = c.args.all.now in
    let i = c.loop-key.key-index in
    let m = c.loop-key-item.result in
    let more : take (i + 1) all ≡ take i all ++ m ∷ [] = take_more all i m c.loop-key-test.true ∙ ap (λ x. take i all ++ x ∷ []) (sym c.loop-key-item.is) in
    subst (λ ms. IsSplit ms c.sort_in.new.mends.items c.sort_in.new.blocked.items) (sym more)
    (split_more (take i all) c.loop-key.mends.items c.loop-key.blocked.items c.sort_in.new.mends.items c.sort_in.new.blocked.items m _ c.loop-key.invariant c.in_ok-sort_in.ensures.mends c.in_ok-sort_in.ensures.blocked)

pub returns : goal.returns
returns g c =
    let all = c.args.all.now in
    subst (λ ms. IsSplit ms c.loop-key.mends.items c.loop-key.blocked.items) (take_all c.loop-key.key-index all (omega (arith, c.loop-key-test.false))) c.loop-key.invariant
