use Rattle.std.proofs.Common.{◌∙◌, map, ap}
use Rattle.std.specs.Map.{values_of}
use Rattle.oci_store.specs.Tags.{by_bytes}
use Rattle.oci_store.specs.Visiting.{with_keys}
use Rattle.oci_store.proofs.Membership.{Keys}
use Rattle.oci_layout_store.specs.Entries.{entry_keys, entry_of}
use Rattle.oci_selection.proofs.Selections.{placed_both}
use Rattle.oci_selection.proofs.roots.named_keys.Goals as goal

pub returns : goal.returns
returns c =
    let tagged = values_of (by_bytes c.args.tags.now) in
    let named = entry_keys (map entry_of c.args.named.now) in
    let first = c.in_ok-place_tags.ensures ∙ ap (λ (ks : Keys). with_keys ks tagged) c.new-keys.ensures in
    let placed = c.into_keys.ensures.keys ∙ c.in_ok-place_named.ensures ∙ ap (λ (ks : Keys). with_keys ks named) first in
    placed_both tagged named c.into_keys.result.items placed
