use Rattle.std.specs.Prelude.{string_bytes}
use Rattle.oci_layout_store.proofs.Noted.{Notes-one}
use Rattle.oci_layout_store.proofs.layout.prune.note_blob.Goals as goal

pub returns : goal.returns
returns c =
    let named = rw (c.in-Some.is, c.as_str.ensures.value) at c.in_ok-digest.ensures in
    Notes-one c.args.algorithm.now (string_bytes c.args.file.now.0) c.args.file.now.1 c.args.sizes.now c.insert.new.self c.in-Some.digest named.1 named.0 c.in_ok-insert.ensures.updates
