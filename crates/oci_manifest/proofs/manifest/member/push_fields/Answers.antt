use Rattle.std.proofs.Common.{◌∙◌, sym, arith}
use Rattle.std.proofs.lemmas.Result.{err_from_is_err_and}
use Rattle.serde_json.specs.View.{view}
use Rattle.oci_manifest.proofs.Steps.{fields_step-good, fields_step-bad, fields_end}
use Rattle.oci_manifest.proofs.manifest.member.push_fields.Goals as goal

pub returns-in_err-push_field : goal.returns-in_err-push_field
returns-in_err-push_field c =
    let p = err_from_is_err_and c.from_residual.result c.from_residual.ensures.1 in
    rw (p.1, p.2) (fields_step-bad c.loop-field.found.items c.args.found.now.items (view c.args.manifest.now) c.args.fields.now c.loop-field.field-index _ _ (omega arith) c.loop-field.invariant c.in_err-push_field.ensures)

pub loop-field-preserved : goal.loop-field-preserved
loop-field-preserved c =
    sym (fields_step-good c.loop-field.found.items c.push_field.new.found.items (view c.args.manifest.now) c.args.fields.now c.loop-field.field-index _ (omega arith) c.in_ok-push_field.ensures)
    ∙ c.loop-field.invariant

pub returns : goal.returns
returns c =
    sym c.loop-field.invariant ∙ fields_end c.loop-field.found.items (view c.args.manifest.now) c.args.fields.now c.loop-field.field-index (omega arith)
