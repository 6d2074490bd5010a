use Rattle.std.specs.Prelude.{◌≡◌, true}
use Rattle.oci_store.specs.Keyed.{has_key}
use Rattle.oci_layout_store.specs.Meaning.{meaning}
use Rattle.oci_prune.specs.Free.{IsFree}
use Rattle.oci_prune.specs.Plan.{roots_of}
use Rattle.oci_selection.proofs.Refusals.{subject_other}
use Rattle.oci_selection.proofs.Selections.{set_in_order}
use Rattle.oci_selection.proofs.roots.all_untagged.Goals as goal

pub returns-in_ok-keys_of_set-in-Ok-clause-exact : goal.returns-in_ok-keys_of_set-in-Ok-clause-exact
returns-in_ok-keys_of_set-in-Ok-clause-exact g c = λ honest.
    let source = c.args.source.now in
    set_in_order (IsFree (meaning (g.D.Dir.device source.dir) source.graph source.tags) (roots_of source)) c.in-Ok.found c.in_ok-keys_of_set-in-Ok.field-0.items (c.in-Ok.ensures.exact honest) c.in_ok-keys_of_set-in-Ok.ensures.keys

pub returns-in-Err-clause-refused : goal.returns-in-Err-clause-refused
returns-in-Err-clause-refused g c =
    let source = c.args.source.now in
    subject_other (meaning (g.D.Dir.device source.dir) source.graph source.tags) (λ k. has_key source.graph k ≡ true) c.in-Err.fault c.in-Err.ensures.cause
