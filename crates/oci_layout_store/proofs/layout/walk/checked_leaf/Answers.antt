use Rattle.std.proofs.Common.{◌≡◌, ◌∙◌, Some, length, option_map, sym}
use Rattle.oci_layout_store.specs.Blobs.{blob_path}
use Rattle.oci_layout_store.proofs.Walk.{leaf_found}
use Rattle.oci_layout_store.proofs.Stated.{leaf_links}
use Rattle.oci_layout_store.proofs.layout.walk.checked_leaf.Goals as goal

pub returns-then-size-clause-found : goal.returns-then-size-clause-found
returns-then-size-clause-found g c = λ honest.
    let file = (g.D.Dir.device c.args.dir.now).file in
    let k = c.args.key.now in
    let found : Some c.in-Some.size ≡ option_map length (file (blob_path k.digest)) =
    sym c.in-Some.is ∙ rw (c.deref.ensures, c.in_ok-path.ensures, c.digest.ensures) at c.in_ok-size.ensures.found honest in
    (leaf_found file k c.in-Some.size c.requires.leaf found (c.if-size.true ∙ c.size-2.ensures.size), leaf_links file k c.none.result c.requires.leaf c.none.ensures.successors c.none.ensures.subject c.none.ensures.undistributed)
