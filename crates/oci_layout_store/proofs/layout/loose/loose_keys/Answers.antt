use Rattle.std.proofs.Common.{◌+◌, List, take, map, sym, ap, subst, ◌∙◌, arith}
use Rattle.std.specs.Map.{keys_of}
use Rattle.std.specs.Option.{option_copied}
use Rattle.std.proofs.lemmas.List.{take_all}
use Rattle.oci_store.specs.Graph.{Node}
use Rattle.oci_store.specs.Tags.{by_bytes}
use Rattle.oci_layout_store.specs.Entries.{entry_of}
use Rattle.oci_layout_store.proofs.Loose.{HasNew, HasNew-nil, HasNew-more, keys-more, AreLoose-from_list}
use Rattle.oci_layout_store.proofs.layout.loose.loose_keys.Goals as goal

pub loop-place-init : goal.loop-place-init
loop-place-init c = HasNew-nil c.args.graph.now c.in_ok-tagged.tagged c.in_ok-unnamed.unnamed c.new-loose.result c.new-loose.ensures.empty

pub loop-place-preserved : goal.loop-place-preserved
loop-place-preserved c =
    let graph = c.args.graph.now in
    let i = c.loop-place.place in
    let key = c.in-Some.key.now in
    HasNew-more graph c.in_ok-tagged.tagged c.in_ok-unnamed.unnamed c.loop-place.loose c.add_new.new.loose (keys_of (take i graph)) (keys_of (take (i + 1) graph)) key c.loop-place.invariant
    (keys-more graph i key (omega (arith, c.loop-place-test.true, c.len-place-end.ensures.count)) (sym c.key.ensures ∙ ap option_copied c.in-Some.is)) c.in_ok-add_new.ensures

pub returns : goal.returns
returns c =
    let graph = c.args.graph.now in
    AreLoose-from_list graph (by_bytes c.args.tags.now) (map entry_of c.args.entries.now) c.in_ok-tagged.tagged c.in_ok-unnamed.unnamed c.loop-place.loose c.list_of.result c.in_ok-tagged.ensures c.in_ok-unnamed.ensures
    (subst (λ (g : List Node). HasNew graph c.in_ok-tagged.tagged c.in_ok-unnamed.unnamed c.loop-place.loose (keys_of g))
    (take_all c.loop-place.place graph (omega (arith, c.loop-place-test.false, c.len-place-end.ensures.count))) c.loop-place.invariant)
    c.list_of.ensures.elements c.list_of.ensures.order
