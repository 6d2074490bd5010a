use Rattle.std.proofs.Common.{◌≡◌, ◌++◌, ◌∷◌, [], List, None, Some, nat_cmp, sym, ap, subst, ◌∙◌}
use Rattle.std.specs.BTreeMap.{Updates, get}
use Rattle.std.specs.Cmp.Lexicographic.{slice_cmp}
use Rattle.std.specs.Option.{option_copied_mut}
use Rattle.oci_manifest.specs.Descriptor.{Descriptor}
use Rattle.oci_store.proofs.Predecessors.{is_there}
use Rattle.oci_prune.specs.Subjects.{Referrers}
use Rattle.oci_prune.proofs.Stating.{keys_at, noted}
use Rattle.oci_prune.proofs.referrers.add.Goals as goal

pub returns-in-Some : goal.returns-in-Some
returns-in-Some c =
    let map = c.args.referrers.now in
    let keys = c.in-Some.keys.now in
    let more = c.put.new.keys in
    let was : get (slice_cmp nat_cmp) map c.args.digest ≡ Some keys = sym c.get_mut.ensures.value ∙ ap option_copied_mut c.in-Some.is in
    let updates = (c.get_mut.follows.holds more).3 (is_there (get (slice_cmp nat_cmp) map c.args.digest) keys was) in
    noted map (c.get_mut.follows.lender more) c.args.key.now c.args.digest keys.items more updates (ap keys_at was)
    (subst (λ (k : Descriptor). more.items ≡ keys.items ++ k ∷ []) c.in_ok-key.ensures c.in_ok-put.ensures)

pub returns : goal.returns
returns c =
    let map = c.args.referrers.now in
    let more = c.put-2.new.keys in
    let none : get (slice_cmp nat_cmp) map c.args.digest ≡ None = sym c.get_mut.ensures.value ∙ ap option_copied_mut c.in_default.is in
    let updates = subst (λ (old : Referrers). Updates (slice_cmp nat_cmp) old c.insert.new.self c.args.digest (Some more)) c.get_mut.follows.holds-at-none c.in_ok-insert.ensures.updates in
    let grown : more.items ≡ [] ++ c.in_ok-key.key ∷ [] = c.in_ok-put-2.ensures ∙ ap (λ (ks : List Descriptor). ks ++ c.in_ok-key.key ∷ []) c.new-keys.ensures.items in
    noted map c.insert.new.self c.args.key.now c.args.digest [] more updates (ap keys_at none) (subst (λ (k : Descriptor). more.items ≡ [] ++ k ∷ []) c.in_ok-key.ensures grown)
