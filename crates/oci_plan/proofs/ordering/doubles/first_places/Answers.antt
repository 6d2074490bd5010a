use Rattle.std.proofs.Common.{◌≡◌, ◌+◌, ◌++◌, ◌∷◌, [], ℕ, List, take, get_or, sym, ap, ◌∙◌}
use Rattle.std.proofs.lemmas.List.{take_more}
use Rattle.oci_plan.specs.Graph.{without_doubles}
use Rattle.oci_plan.specs.Doubles.{with_number}
use Rattle.oci_plan.proofs.Doubles.{without_doubles-push}
use Rattle.oci_plan.proofs.ordering.doubles.first_places.Goals as goal

pub loop-number-preserved : goal.loop-number-preserved
loop-number-preserved c =
    let i : ℕ = c.loop-number.number-index in
    let list : List ℕ = c.args.list.now in
    let more : without_doubles (take (i + 1) list) ≡ without_doubles (take i list ++ get_or list i 0 ∷ []) = ap without_doubles (take_more list i 0 c.loop-number-test.true) in
    let kept : c.keep.new.kept.items ≡ without_doubles (take (i + 1) list) =
    c.in_ok-keep.ensures.kept ∙ ap (λ (ns : List ℕ). with_number ns (get_or list i 0)) c.loop-number.invariant.0 ∙ sym (without_doubles-push (take i list) (get_or list i 0)) ∙ sym more in
    (kept, c.in_ok-keep.ensures.stamped, c.keep.ensures.latest)
