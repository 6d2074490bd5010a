use Rattle.std.proofs.Common.{List, sym, ap, subst, ◌∙◌, arith}
use Rattle.std.specs.List.{All}
use Rattle.std.specs.Map.{keys_of}
use Rattle.std.specs.Option.{option_copied}
use Rattle.std.proofs.lemmas.List.{take_all}
use Rattle.oci_store.specs.Graph.{Node}
use Rattle.oci_layout_copy.specs.Mirror.{ListsHeldManifests}
use Rattle.oci_layout_copy.proofs.Listed.{all_listed, listed_more}
use Rattle.oci_layout_copy.proofs.whole.check_listed.Goals as goal

pub loop-place-preserved : goal.loop-place-preserved
loop-place-preserved g c =
    listed_more c.args.source.now.graph c.loop-place.place c.in-Some.key.now (omega (arith, c.loop-place-test.true, c.count-place-end.ensures.count)) (sym c.key.ensures ∙ ap option_copied c.in-Some.is)
    c.loop-place.invariant c.in_ok-check_list.ensures

pub returns : goal.returns
returns g c =
    all_listed c.args.source.now.graph
    (subst (λ (t : List Node). All (ListsHeldManifests c.args.source.now.graph) (keys_of t)) (take_all c.loop-place.place c.args.source.now.graph (omega (arith, c.loop-place-test.false, c.count-place-end.ensures.count))) c.loop-place.invariant)
