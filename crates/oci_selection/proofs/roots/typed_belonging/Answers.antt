use Rattle.std.specs.Prelude.{◌≡◌, true}
use Rattle.oci_store.specs.Keyed.{has_key}
use Rattle.oci_layout_store.specs.Meaning.{meaning}
use Rattle.oci_selection.proofs.Refusals.{subject_other}
use Rattle.oci_selection.proofs.roots.typed_belonging.Goals as goal

pub returns-in-Err-clause-refused : goal.returns-in-Err-clause-refused
returns-in-Err-clause-refused g c =
    let source = c.args.source.now in
    subject_other (meaning (g.D.Dir.device source.dir) source.graph source.tags) (λ k. has_key source.graph k ≡ true) c.in-Err.fault c.in-Err.ensures.cause
