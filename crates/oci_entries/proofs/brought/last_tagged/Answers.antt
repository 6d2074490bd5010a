use Rattle.std.proofs.Common.{Bool, cond, Some, map, take, sym, ap, ◌∙◌}
use Rattle.oci_layout_store.specs.Entries.{entry_of}
use Rattle.oci_entries.specs.Brought.{is_tagged, last_such}
use Rattle.oci_entries.proofs.BroughtEntries.{last_such-next}
use Rattle.oci_entries.proofs.brought.last_tagged.Goals as goal
use Rattle.oci_entries.proofs.brought.last_tagged.Goals.{then-is_tagged, else-is_tagged}

pub loop-place-preserved : goal.loop-place-preserved
loop-place-preserved c =
    let test = is_tagged c.args.name.now c.args.key.now in
    let es = c.args.entries.now in
    let place = c.loop-place.place in
    let e = c.index-entries-place.result in
    let before = last_such test (map entry_of (take place es)) in
    let next = last_such-next test es place e c.loop-place-test.true c.index-entries-place.is in
    elim c.if-is_tagged.branch [
      | then-is_tagged w ↦ w.last-is ∙ ap (λ (b : Bool). cond b (Some place) before) (sym w.if-is_tagged.true ∙ c.is_tagged.ensures) ∙ sym next
      | else-is_tagged w ↦ w.last-is ∙ c.loop-place.invariant ∙ ap (λ (b : Bool). cond b (Some place) before) (sym w.if-is_tagged.false ∙ c.is_tagged.ensures) ∙ sym next
    ]
