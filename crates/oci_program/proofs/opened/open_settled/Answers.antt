use Rattle.oci_program.proofs.Opening.{opened_settled}
use Rattle.oci_program.proofs.opened.open_settled.Goals as goal

pub returns-in-Ok : goal.returns-in-Ok
returns-in-Ok g c =
    let opened = c.in_ok-layout.ensures in
    let settled = c.in-Ok.ensures in
    opened_settled g.D.Dir.device c.args.dir c.in_ok-layout.layout c.settle_index.new.self opened.same opened.opened settled.settled settled.only settled.lasts settled.memory
