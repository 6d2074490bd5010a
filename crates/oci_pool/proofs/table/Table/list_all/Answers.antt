use Rattle.std.proofs.Common.{rules, ◌≡◌, ℕ, List, ◌∙◌, sym, subst, arith, length, get_or}
use Rattle.oci_pool.proofs.Pushes.{push_each}
use Rattle.oci_pool.proofs.table.Table.list_all.Goals as goal

pub loop-k-preserved : goal.loop-k-preserved
loop-k-preserved g c =
    let P = g.T.RunStart.answers in
    let here : length c.loop-k.all.items ≡ c.loop-k.k = sym c.loop-k.all.ok.0 ∙ c.loop-k.invariant.here in
    record {
      room = search rules;
      here = search rules;
      untouched = λ j d le. c.take.ensures.others j d (omega (arith, le)) ∙ c.loop-k.invariant.untouched j d (omega (arith, le));
      related = λ k d lt. subst (λ (xs : List g.row.J-Out.Denot). P k (get_or xs k d)) (sym c.push_reserved.ensures.items)
          (push_each P c.loop-k.all.items c.in-Some.x (λ i e below. c.loop-k.invariant.related i e (omega (arith, below, c.loop-k.all.ok.0))) (subst (λ (n : ℕ). P n c.in-Some.x) (sym here) c.in-Some.ensures.answer) k d (omega (arith, lt, here, c.loop-k.invariant.here, c.push_reserved.ensures.len)));
    }
