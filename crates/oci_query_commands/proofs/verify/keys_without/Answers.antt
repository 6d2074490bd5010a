use Rattle.std.proofs.Common.{◌≡◌, ◌&&◌, ◌++◌, ◌∷◌, [], ◌+◌, List, not, take, Bool, sym, ap, ◌∙◌}
use Rattle.std.specs.Prelude.{filter}
use Rattle.std.specs.BTreeSet.{contains}
use Rattle.std.proofs.lemmas.List.{take_more}
use Rattle.std.proofs.lemmas.List.Elements.{filter-append}
use Rattle.std.specs.Option.{option_copied}
use Rattle.oci_manifest.specs.Descriptor.{Descriptor, key_cmp}
use Rattle.oci_verify.specs.Corrupt.{is_asked}
use Rattle.oci_query_commands.proofs.verify.keys_without.Goals as goal

pub loop-key-preserved : goal.loop-key-preserved
loop-key-preserved c =
    let keys = c.args.keys.now in
    let place = c.loop-key.key-index in
    let k = c.key-item.result in
    let passes : Descriptor → Bool = λ (x : Descriptor). is_asked (option_copied c.args.asked) x && not (contains key_cmp c.args.damaged.now x) in
    let next : take (place + 1) keys ≡ take place keys ++ k ∷ [] = take_more keys place k c.loop-key-test.true ∙ ap (λ (x : Descriptor). take place keys ++ x ∷ []) (sym c.key-item.is) in
    c.in_ok-add_unless.ensures ∙ ap (λ (ks : List Descriptor). ks ++ filter passes (k ∷ [])) c.loop-key.invariant
    ∙ sym (filter-append passes (take place keys) (k ∷ [])) ∙ ap (filter passes) (sym next)
