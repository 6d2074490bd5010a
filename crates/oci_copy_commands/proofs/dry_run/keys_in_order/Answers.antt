use Rattle.std.proofs.Common.{◌++◌, ◌∷◌, [], List, sym, ap, ◌∙◌}
use Rattle.std.specs.Borrow.{Bor}
use Rattle.std.proofs.lemmas.List.{map-append}
use Rattle.oci_manifest.specs.Descriptor.{Descriptor}
use Rattle.oci_copy_commands.specs.Printed.{keys_in}
use Rattle.oci_copy_commands.proofs.Printed.{one_key_more}
use Rattle.oci_copy_commands.proofs.dry_run.keys_in_order.Goals as goal

pub loop-place-preserved : goal.loop-place-preserved
loop-place-preserved c =
    let key = c.in-Some.key in
    ap keys_in c.in_ok-push.ensures.items ∙ map-append (λ (k : Bor Descriptor). k.now) c.loop-place.keys.items (key ∷ [])
    ∙ ap (λ (ks : List Descriptor). ks ++ key.now ∷ []) c.loop-place.invariant ∙ sym (one_key_more c.args.plan.now c.loop-place.place key.now c.in-Some.ensures.key)
