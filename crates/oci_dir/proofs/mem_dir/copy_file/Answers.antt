use Rattle.std.proofs.Common.{None}
use Rattle.std.proofs.lemmas.Map.Text.{btree_map_updates_text}
use Rattle.oci_dir.proofs.mem_dir.copy_file.Goals as goal

pub returns-in-None-clause-other : goal.returns-in-None-clause-other
returns-in-None-clause-other c = λ q apart.
    rw apart at (btree_map_updates_text c.args.path.now c.args.others.now c.remove.new.self None c.remove.ensures.updates q)
