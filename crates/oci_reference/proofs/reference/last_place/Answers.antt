use Rattle.std.proofs.Common.{Bool, cond, Some, map, take, sym, ap, ◌∙◌}
use Rattle.oci_layout_store.specs.Entries.{entry_of}
use Rattle.oci_layout_store.specs.Saved.{last_place}
use Rattle.oci_reference.proofs.Named.{last_place-next}
use Rattle.oci_reference.proofs.reference.last_place.Goals as goal
use Rattle.oci_reference.proofs.reference.last_place.Goals.{then-is_named, else-is_named}

pub loop-place-preserved : goal.loop-place-preserved
loop-place-preserved c =
    let es = c.args.entries.now in
    let place = c.loop-place.place in
    let e = c.index-entries-place.result in
    let before = last_place c.args.name.now (map entry_of (take place es)) in
    let next = last_place-next c.args.name.now es place e c.loop-place-test.true c.index-entries-place.is in
    elim c.if-is_named.branch [
      | then-is_named w ↦ w.last-is ∙ ap (λ (b : Bool). cond b (Some place) before) (sym w.if-is_named.true ∙ c.is_named.ensures) ∙ sym next
      | else-is_named w ↦ w.last-is ∙ c.loop-place.invariant ∙ ap (λ (b : Bool). cond b (Some place) before) (sym w.if-is_named.false ∙ c.is_named.ensures) ∙ sym next
    ]
