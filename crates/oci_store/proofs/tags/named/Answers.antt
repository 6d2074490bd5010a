use Rattle.std.proofs.Common.{◌≡◌, List, ℕ, Option, None, IfSome, true, sym, ap, subst, ◌∙◌}
use Rattle.std.specs.Map.{keys_of}
use Rattle.std.specs.Option.{option_copied}
use Rattle.std.specs.Str.{bytes_eq}
use Rattle.oci_manifest.specs.Descriptor.{Descriptor}
use Rattle.oci_store.specs.Keyed.{has_key}
use Rattle.oci_store.specs.Tags.{IsLeastOf, tag_at}
use Rattle.oci_store.proofs.References.{IsResolved-digest, IsLeastOf-no_digest, least_held}
use Rattle.std.proofs.lemmas.Map.Views.{IfSome-lookup_from_All}
use Rattle.oci_store.proofs.tags.named.Goals as goal

pub returns-in_default-parsed-clause-resolved : goal.returns-in_default-parsed-clause-resolved
returns-in_default-parsed-clause-resolved c =
    let graph = c.args.graph.now in
    let reference = c.args.reference.now in
    let untagged : tag_at c.args.tags.now reference ≡ None = sym c.get.ensures ∙ ap option_copied c.in_default.is in
    IsResolved-digest (keys_of graph) c.args.tags.now reference None untagged
    (IsLeastOf-no_digest (keys_of graph) reference c.len.ensures.keys c.in_default-parsed.ensures)

pub returns-clause-resolved : goal.returns-clause-resolved
returns-clause-resolved c =
    let graph = c.args.graph.now in
    let reference = c.args.reference.now in
    let found = option_copied c.least_with.result in
    let untagged : tag_at c.args.tags.now reference ≡ None = sym c.get.ensures ∙ ap option_copied c.in_default.is in
    IsResolved-digest (keys_of graph) c.args.tags.now reference found untagged
    (subst (λ (digest : List ℕ). IsLeastOf (keys_of graph) digest found) c.in-Some-parsed.ensures c.least_with.ensures)

pub returns-in-Some-clause-there : goal.returns-in-Some-clause-there
returns-in-Some-clause-there c =
    let P : Descriptor → Type 0 = λ (k : Descriptor). has_key c.args.graph.now k ≡ true in
    let named = IfSome-lookup_from_All P (bytes_eq c.args.reference.now) c.args.tags.now c.requires.names.held in
    subst (λ (o : Option Descriptor). IfSome o P) (sym c.get.ensures ∙ ap option_copied c.in-Some.is) named

pub returns-clause-there : goal.returns-clause-there
returns-clause-there c = least_held c.args.graph.now c.in-Some-parsed.digest (option_copied c.least_with.result) c.least_with.ensures
