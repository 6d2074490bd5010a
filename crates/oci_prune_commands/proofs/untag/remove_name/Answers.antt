use Rattle.std.proofs.Common.{ap, subst, ◌∙◌}
use Rattle.oci_program.specs.declared.fault.ProgramFault.{ProgramFault}
use Rattle.oci_program.specs.declared.fault.ProgramFault.TheVariants as program
use Rattle.oci_prune_commands.specs.Refusal.{IsRefusedUntag}
use Rattle.oci_prune_commands.proofs.Untagging.{loses_entries}
use Rattle.oci_prune_commands.proofs.untag.remove_name.Goals as goal

pub returns-in_ok-forget_and_save-in-Err-Reference-UnknownReference : goal.returns-in_ok-forget_and_save-in-Err-Reference-UnknownReference
returns-in_ok-forget_and_save-in-Err-Reference-UnknownReference g c =
    let device = g.D.Dir.device in
    let old = c.args.layout.now in
    let mid = c.untag_and_save.new.layout in
    let arm = c.in-Err-Reference-UnknownReference in
    let refused = subst (λ (e : ProgramFault). IsRefusedUntag device c.args.name.now old mid e) (arm.field-0-is ∙ ap program.Reference arm.field-0-0-is) arm.ensures.refused in
    let e = c.in_ok-forget_and_save-in-Err-Reference-UnknownReference.ensures in
    loses_entries device c.args.name.now old mid c.forget_and_save.new.layout c.args.named.now c.in_ok-forget_and_save-in-Err-Reference-UnknownReference.field-0 c.new.result.items refused.1 c.requires refused.0.1 e.last e.forgotten e.saved e.graph e.tags e.other e.lasts c.new.ensures.items
