use Rattle.std.proofs.Common.{Some, string_bytes}
use Rattle.std.proofs.lemmas.Map.Text.{btree_map_updates_text}
use Rattle.oci_dir.proofs.mem_dir.write.Goals as goal

pub returns-clause-put : goal.returns-clause-put
returns-clause-put c = λ q.
    rw (c.in_ok-path.ensures.ok, c.in_ok-bytes.ensures) at
    (btree_map_updates_text (string_bytes c.in_ok-path.path) c.args.files.now c.insert.new.self (Some c.in_ok-bytes.bytes) c.in_ok-insert.ensures.updates q)
