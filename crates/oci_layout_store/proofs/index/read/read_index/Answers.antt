use Rattle.std.proofs.Common.{◌≡◌, ℕ, List, Option, Some, sym, ap, subst, ◌∙◌}
use Rattle.oci_layout_store.specs.Entries.{IsIndexFile, said}
use Rattle.oci_layout_store.specs.Index.{index_file}
use Rattle.oci_layout_store.specs.Refusal.{IsOpenFaultBy}
use Rattle.oci_layout_store.proofs.Refusals.{index_fault}
use Rattle.oci_layout_store.proofs.index.read.read_index.Goals as goal

pub returns-clause-cause : goal.returns-clause-cause
unfolding index_file
returns-clause-cause g c = λ stated.
    let dir = g.D.Dir.device c.args.dir.now in
    let bytes = c.as_slice.result.now in
    let read : dir.is_honest → dir.file index_file ≡ Some bytes =
    λ honest. sym (c.in_ok-bytes.ensures.found honest) ∙ c.in-Some.is ∙ ap Some (sym c.as_slice.ensures) in
    subst (IsOpenFaultBy c.args.as_is dir) (sym c.bad_index.ensures) (index_fault c.args.as_is dir bytes c.in-Err.fault stated read c.in-Err.ensures.cause)

pub returns-in-Ok-clause-read : goal.returns-in-Ok-clause-read
unfolding index_file
returns-in-Ok-clause-read g c = λ honest.
    let dir = g.D.Dir.device c.args.dir.now in
    let bytes = c.as_slice.result.now in
    let read : dir.file index_file ≡ Some bytes = sym (c.in_ok-bytes.ensures.found honest) ∙ c.in-Some.is ∙ ap Some (sym c.as_slice.ensures) in
    subst (λ (found : Option (List ℕ)). IsIndexFile c.args.as_is found (said c.in-Ok.content)) (sym read) c.in-Ok.ensures.read
