use Rattle.std.proofs.Common.{◌≡◌, ◌<◌, List, length, slice_get, option_map, Some, sym, ap, subst, ◌∙◌, arith}
use Rattle.std.specs.Map.{keys_of}
use Rattle.std.specs.Option.{option_copied}
use Rattle.std.proofs.lemmas.List.{take_all}
use Rattle.oci_manifest.specs.Descriptor.{Descriptor}
use Rattle.oci_store.specs.Graph.{Node}
use Rattle.oci_verify.specs.Corrupt.{is_asked}
use Rattle.oci_verify.proofs.Corrupt.{HasAsked, HasCorrupt, HasCorrupt-none, HasCorrupt-more, AreCorruptOf-all, no_key}
use Rattle.oci_verify.proofs.Intact.{file_at}
use Rattle.oci_verify.proofs.search.keys_found.Goals as goal

pub loop-place-init : goal.loop-place-init
loop-place-init g c = λ has.
    let layout = c.args.layout.now in
    HasCorrupt-none (is_asked (option_copied c.args.asked)) (g.D.Dir.device layout.dir).file layout.opened.damaged layout.graph c.in_ok-found.found
    (subst (λ (keys : List Descriptor). HasAsked (is_asked (option_copied c.args.asked)) keys c.in_ok-found.found) c.damaged.ensures c.in_ok-found.ensures)

pub unreachable-requires : goal.unreachable-requires
unreachable-requires g c =
    let lt : c.loop-place.place < length c.args.layout.now.graph = omega (arith, c.loop-place-test.true, c.count-place-end.ensures.count) in
    no_key c.args.layout.now.graph c.loop-place.place lt (sym c.key.ensures ∙ ap option_copied c.in_default.is)

pub loop-place-preserved : goal.loop-place-preserved
loop-place-preserved g c = λ has.
    let layout = c.args.layout.now in
    let dir = g.D.Dir.device layout.dir in
    let i = c.loop-place.place in
    let key = c.in-Some.key.now in
    let lt : i < length layout.graph = omega (arith, c.loop-place-test.true, c.count-place-end.ensures.count) in
    let at : option_map (λ (n : Node). n.0) (slice_get layout.graph i) ≡ Some key = sym c.key.ensures ∙ ap option_copied c.in-Some.is in
    HasCorrupt-more (is_asked (option_copied c.args.asked)) dir.file layout.opened.damaged layout.graph i c.loop-place.found c.add_if.new.keys key _ lt at
    (c.requires.each i _ (omega (arith, lt, c.requires.count)) key at (file_at dir layout.graph i key lt at has))
    (c.loop-place.invariant has)
    c.in_ok-add_if.ensures

pub returns : goal.returns
returns g c = λ has.
    let layout = c.args.layout.now in
    let file = (g.D.Dir.device layout.dir).file in
    AreCorruptOf-all (is_asked (option_copied c.args.asked)) file layout.opened.damaged layout.graph c.loop-place.found c.in_ok-keys.keys.items
    (subst (λ (graph : List Node). HasCorrupt (is_asked (option_copied c.args.asked)) file layout.opened.damaged (keys_of graph) c.loop-place.found)
    (take_all c.loop-place.place layout.graph (omega (arith, c.loop-place-test.false, c.count-place-end.ensures.count))) (c.loop-place.invariant has))
    c.in_ok-keys.ensures.keys c.in_ok-keys.ensures.order
