use Rattle.std.proofs.Common.{◌≡◌, ◌+◌, ◌<◌, ℕ, Bool, List, cond, filter, length, take, slice_get, option_map, Some, sym, ap, ◌∙◌, arith}
use Rattle.std.specs.Map.{keys_of}
use Rattle.std.specs.Option.{option_copied}
use Rattle.oci_layout_store.proofs.Loose.{keys-more}
use Rattle.oci_manifest.specs.Descriptor.{Descriptor}
use Rattle.oci_store.specs.Graph.{Node}
use Rattle.oci_verify.specs.Corrupt.{is_asked}
use Rattle.oci_query_commands.proofs.Below.{counted}
use Rattle.oci_query_commands.proofs.verify.count_held.Goals as goal

pub loop-place-preserved : goal.loop-place-preserved
loop-place-preserved g c =
    let graph = c.args.layout.now.graph in
    let test = is_asked (option_copied c.args.asked) in
    let place = c.loop-place.place in
    let key = c.in-Some.key.now in
    let before = keys_of (take place graph) in
    let lt : place < length graph = omega (arith, c.loop-place-test.true, c.count-place-end.ensures.count) in
    let at : option_map (λ (n : Node). n.0) (slice_get graph place) ≡ Some key = sym c.key.ensures ∙ ap option_copied c.in-Some.is in
    record {
      counted = ap (λ (n : ℕ). n + c.one_if-count.result) c.loop-place.invariant.counted
          ∙ ap (λ (n : ℕ). length (filter test before) + n) (c.one_if-count.ensures.count ∙ ap (λ (b : Bool). cond b 1 0) c.is_asked.ensures)
          ∙ sym (counted test before key)
          ∙ ap (λ (ks : List Descriptor). length (filter test ks)) (sym (keys-more graph place key lt at));
      few = omega (arith, c.loop-place.invariant.few, c.one_if-count.ensures.most);
    }
