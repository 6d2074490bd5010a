use Rattle.std.proofs.Common.{◌≡◌, ◌+◌, List, true, cond, take, sym, ap, subst, ◌∙◌, arith}
use Rattle.std.specs.BTreeSet.{contains}
use Rattle.std.specs.Map.{keys_of}
use Rattle.std.specs.Option.{option_copied}
use Rattle.std.specs.Ordering.{is_eq}
use Rattle.std.proofs.lemmas.List.{take_all}
use Rattle.oci_manifest.specs.Descriptor.{Descriptor, key_cmp}
use Rattle.oci_store.specs.Graph.{Node}
use Rattle.oci_layout_store.proofs.Loose.{HasKeys, HasKeys-more, keys-more}
use Rattle.oci_prune.proofs.Plans.{held_from_set}
use Rattle.oci_prune.proofs.held.held_keys.Goals as goal

pub loop-place-preserved : goal.loop-place-preserved
loop-place-preserved g c =
    let graph = c.args.layout.now.graph in
    let i = c.loop-place.place in
    let k = c.in-Some.key.now in
    HasKeys-more c.loop-place.held c.insert.new.self (keys_of (take i graph)) (keys_of (take (i + 1) graph)) k c.loop-place.invariant
    (keys-more graph i k (omega (arith, c.loop-place-test.true, c.count-place-end.ensures.count)) (sym c.key.ensures ∙ ap option_copied c.in-Some.is))
    (λ other. subst (λ (x : Descriptor). contains key_cmp c.insert.new.self other ≡ cond (is_eq (key_cmp x other)) true (contains key_cmp c.loop-place.held other)) c.in_ok-try_clone.ensures (c.in_ok-insert.ensures.updates.0 other))

pub returns : goal.returns
returns g c =
    held_from_set c.args.layout.now.graph c.loop-place.held c.in_ok-keys.keys.items
    (subst (λ (t : List Node). HasKeys c.loop-place.held (keys_of t)) (take_all c.loop-place.place c.args.layout.now.graph (omega (arith, c.loop-place-test.false, c.count-place-end.ensures.count))) c.loop-place.invariant)
    c.in_ok-keys.ensures.keys c.in_ok-keys.ensures.order
