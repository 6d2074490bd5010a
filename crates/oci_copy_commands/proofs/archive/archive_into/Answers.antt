use Rattle.oci_dir.specs.Memory.{device_of}
use Rattle.oci_copy_commands.proofs.Archived.{is_archived}
use Rattle.oci_copy_commands.proofs.archive.archive_into.Goals as goal

pub returns-in-Ok : goal.returns-in-Ok
returns-in-Ok g c = (
  c.save_archive-saved.new.to,
  λ honest. (let made = c.in-Ok.ensures.saved honest in (
    made.0,
    is_archived g.S.Dir.device device_of c.args.words.now c.args.source c.in_ok-source.source c.in_ok-source.selected c.in_ok-plan.plan
        c.in_ok-plan.outline made.0 c.in_ok-behind.behind c.in_ok-answer_of-in-Ok.field-0 c.in_ok-source.ensures c.in_ok-plan.ensures tt made.1 c.in_ok-behind.ensures.left c.in_ok-answer_of-in-Ok.ensures,
    made.2,
  )),
)
