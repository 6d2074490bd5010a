use Rattle.std.proofs.Common.{List, [], ◌∷◌, ◌++◌, sym, ap, ◌∙◌}
use Rattle.oci_store.specs.Content.{Entry}
use Rattle.oci_live.proofs.Takes.{take_more}
use Rattle.oci_live.proofs.opening.history_of.Goals as goal

pub loop-place-preserved : goal.loop-place-preserved
loop-place-preserved c =
    let x : Entry = (c.in-Some.key.now, c.in-Some.bytes.now) in
    let more = sym (take_more c.args.entries.now c.loop-place.place x (sym c.in-Some.ensures)) in
    c.in_ok-append.ensures.appended ∙ (ap (λ (l : List Entry). l ++ x ∷ []) c.loop-place.invariant ∙ more)
