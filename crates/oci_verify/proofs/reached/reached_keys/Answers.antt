use Rattle.std.proofs.Common.{◌≡◌, ℕ, length, sym, subst, ◌∙◌, arith}
use Rattle.std.proofs.lemmas.Result.{IfOk-weaker}
use Rattle.oci_verify.specs.Reached.{IsWalking}
use Rattle.oci_verify.proofs.Reaching.{IsWalking-start, IsWalking-step, inside_step, walked}
use Rattle.oci_verify.proofs.reached.reached_keys.Goals as goal

pub loop-place-init : goal.loop-place-init
loop-place-init g c = record {
  walking = IsWalking-start (g.S.Store.state c.args.source.now).nodes c.args.key.now c.place.new.self (rw c.new-found.ensures at c.in_ok-place.ensures.keys);
  inside = omega arith;
}

pub loop-place-preserved : goal.loop-place-preserved
loop-place-preserved g c =
    let graph = (g.S.Store.state c.args.source.now).nodes in
    record {
      walking = IsWalking-step graph c.args.key.now c.loop-place.found c.place_listed.new.found c.loop-place.place c.loop-place.invariant.walking c.in_ok-place_listed.ensures;
      inside = inside_step graph c.loop-place.place c.loop-place.found c.place_listed.new.found c.in_ok-place_listed.ensures;
    }

pub returns : goal.returns
returns g c =
    let graph = (g.S.Store.state c.args.source.now).nodes in
    let ended : c.loop-place.place ≡ length c.loop-place.found = omega (arith, c.loop-place-test.false, c.len.ensures, c.loop-place.invariant.inside) in
    let all = subst (λ (n : ℕ). IsWalking graph c.args.key.now c.loop-place.found n) ended c.loop-place.invariant.walking in
    IfOk-weaker c.set_of.result _ _
    (λ set are. walked graph c.args.key.now c.loop-place.found c.deref.result.now set all (c.deref.ensures.value ∙ c.into_keys.ensures.keys) are)
    c.set_of.ensures
