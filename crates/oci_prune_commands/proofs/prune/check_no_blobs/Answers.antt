use Rattle.std.proofs.Common.{◌≡◌, ℕ, List, [], sym, subst, ◌∙◌, arith}
use Rattle.std.specs.Vec.{vec_len}
use Rattle.std.proofs.lemmas.Bool.{eqb-true}
use Rattle.oci_layout_store.specs.BlobFiles.{AreBlobs}
use Rattle.oci_layout_store.proofs.Loose.{empty_list}
use Rattle.oci_prune_commands.proofs.prune.check_no_blobs.Goals as goal

pub returns-then-is_empty : goal.returns-then-is_empty
returns-then-is_empty g c = λ honest.
    let blobs = c.in-Ok.blobs in
    let none : blobs.items ≡ [] = empty_list blobs.items (let e = eqb-true (vec_len blobs) 0 (sym c.is_empty.ensures ∙ c.if-is_empty.true) in omega (arith, e, blobs.ok.0)) in
    subst (λ (found : List (List ℕ × ℕ)). AreBlobs (g.D.Dir.device c.args.layout.now.dir).file found) none (c.in-Ok.ensures.found honest)
