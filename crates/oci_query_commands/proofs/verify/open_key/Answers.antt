use Rattle.std.proofs.Common.{◌≡◌, ◌+◌, ◌<◌, length, drop, slice_get, option_map, Option, Some, sym, ap, ◌∙◌, arith}
use Rattle.std.specs.BTreeSet.{contains}
use Rattle.std.specs.Option.{option_copied}
use Rattle.oci_manifest.specs.Descriptor.{Descriptor, key_cmp}
use Rattle.oci_store.specs.Closed.{with_predecessor}
use Rattle.oci_store.specs.Graph.{Node}
use Rattle.oci_query_commands.specs.Found.{first_without_file, has_file}
use Rattle.oci_verify.specs.Corrupt.{is_asked}
use Rattle.oci_query_commands.proofs.Found.{asked_in, next_node}
use Rattle.oci_query_commands.proofs.verify.open_key.Goals as goal

pub returns-in-Some-2 : goal.returns-in-Some-2
returns-in-Some-2 g c =
    let graph = c.args.layout.now.graph in
    let has = has_file graph (contains key_cmp c.args.damaged.now) in
    let place = c.loop-place.place in
    let test = is_asked (option_copied c.args.asked) in
    let key = c.in-Some.holder.now in
    let missing = c.in-Some-2.missing in
    let rest = first_without_file has (asked_in test (drop (place + 1) graph)) in
    let lt : place < length graph = omega (arith, c.loop-place-test.true, c.count-place-end.ensures.count) in
    let at : option_map (λ (n : Node). n.0) (slice_get graph place) ≡ Some key = sym c.key.ensures ∙ ap option_copied c.in-Some.is in
    ap (λ (holder : Descriptor). Some (holder, missing)) c.in_ok-try_clone.ensures
    ∙ ap (λ (o : Option Descriptor). with_predecessor key o rest) (sym c.in-Some-2.is ∙ c.in_ok-missing.ensures)
    ∙ sym (next_node has test graph place key c.count-place-end.ensures.distinct lt at) ∙ c.loop-place.invariant

pub loop-place-preserved : goal.loop-place-preserved
loop-place-preserved g c =
    let graph = c.args.layout.now.graph in
    let has = has_file graph (contains key_cmp c.args.damaged.now) in
    let place = c.loop-place.place in
    let test = is_asked (option_copied c.args.asked) in
    let key = c.in-Some.holder.now in
    let rest = first_without_file has (asked_in test (drop (place + 1) graph)) in
    let lt : place < length graph = omega (arith, c.loop-place-test.true, c.count-place-end.ensures.count) in
    let at : option_map (λ (n : Node). n.0) (slice_get graph place) ≡ Some key = sym c.key.ensures ∙ ap option_copied c.in-Some.is in
    ap (λ (o : Option Descriptor). with_predecessor key o rest) (sym c.in_default-2.is ∙ c.in_ok-missing.ensures)
    ∙ sym (next_node has test graph place key c.count-place-end.ensures.distinct lt at) ∙ c.loop-place.invariant
