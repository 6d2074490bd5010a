use Rattle.std.proofs.Common.{sym, ◌∙◌}
use Rattle.std.proofs.lemmas.Result.{IfErr-weaker}
use Rattle.oci_layout_store.specs.Index.{index_file}
use Rattle.oci_program.specs.declared.fault.ProgramFault.{ProgramFault}
use Rattle.oci_program.proofs.Indexing.{refused_index}
use Rattle.oci_program.proofs.indexed.check_index.Goals as goal

pub returns-in-Ok-false-clause-cause : goal.returns-in-Ok-false-clause-cause
unfolding index_file
returns-in-Ok-false-clause-cause g c =
    IfErr-weaker c.check_no_blobs.result _ _ (λ (e : ProgramFault) h. refused_index (g.D.Dir.device c.args.dir.now) e (λ honest. sym (c.in-Ok-false.ensures.found honest) ∙ c.in-Ok-false.field-0-test) h) c.check_no_blobs.ensures.cause
