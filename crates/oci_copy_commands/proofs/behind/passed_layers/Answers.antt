use Rattle.std.proofs.Common.{◌≡◌, not, is_some, filter, inl, inr}
use Rattle.std.specs.Global.{Vec}
use Rattle.std.proofs.lemmas.Result.{IfOk-weaker, IfErr-weaker}
use Rattle.oci_layout_store.specs.Blobs.{blob_path}
use Rattle.oci_layout_store.specs.Meaning.{meaning}
use Rattle.oci_manifest.specs.Descriptor.{Descriptor}
use Rattle.oci_copy_commands.proofs.Leaving.{passed_left}
use Rattle.oci_copy_commands.specs.Behind.{ArePassedLayers, IsUnknownFile, IsUnreadLayers}
use Rattle.oci_copy_commands.proofs.behind.passed_layers.Goals as goal

pub returns-in-Ok-clause-passed : goal.returns-in-Ok-clause-passed
returns-in-Ok-clause-passed g c =
    let source = c.args.source.now in
    let dir = g.D.Dir.device c.args.destination.now.dir in
    let store = meaning (g.S.Dir.device source.dir) source.graph source.tags in
    IfOk-weaker c.keys_without_file.result (λ (keys : Vec Descriptor). dir.is_honest → keys.items ≡ filter (λ (k : Descriptor). not (is_some (dir.file (blob_path k.digest)))) c.in-Ok.keys.items)
    (λ (keys : Vec Descriptor). (g.S.Dir.device source.dir).is_honest → dir.is_honest → ArePassedLayers store c.args.roots.now dir.file keys.items)
    (λ keys is honest trusted. passed_left store c.args.roots.now c.in-Ok.keys.items keys.items dir.file (c.in-Ok.ensures.exact honest) (is trusted)) (rw c.deref.ensures.value at c.keys_without_file.ensures.without)

pub returns-in-Ok-clause-cause : goal.returns-in-Ok-clause-cause
returns-in-Ok-clause-cause g c =
    let source = c.args.source.now in
    let destination = c.args.destination.now in
    IfErr-weaker c.keys_without_file.result (IsUnknownFile (g.D.Dir.device destination.dir)) (IsUnreadLayers g.S.Dir.device g.D.Dir.device source destination) (λ e h. inr h) c.keys_without_file.ensures.cause

pub returns-in-Err-clause-cause : goal.returns-in-Err-clause-cause
returns-in-Err-clause-cause g c = inl c.in-Err.ensures.cause
