use Rattle.std.proofs.Common.{◌≡◌, ◌∷◌, [], map, string_bytes, sym, ap, ◌∙◌}
use Rattle.std.specs.Option.{option_copied}
use Rattle.std.proofs.lemmas.List.{map-append}
use Rattle.oci_layout_store.specs.Blobs.{blob_path}
use Rattle.oci_layout_store.proofs.Settled.{paths-more}
use Rattle.oci_layout_store.proofs.layout.settle.paths_from.Goals as goal

pub loop-place-preserved : goal.loop-place-preserved
loop-place-preserved c =
    let graph = c.args.graph.now in
    let key = c.in-Some.key.now in
    let were = c.loop-place.paths.items in
    let path = c.in_ok-blob_path.field-0 in
    let path_is : string_bytes path ≡ blob_path key.digest = rw c.digest.ensures at c.in_ok-blob_path.ensures in
    rw c.in_ok-push.ensures.items
    (rw (map-append string_bytes were (path ∷ []), path_is)
    (paths-more graph c.loop-place.place key (map string_bytes were) _ (sym c.key.ensures ∙ ap option_copied c.in-Some.is) c.loop-place.invariant))
