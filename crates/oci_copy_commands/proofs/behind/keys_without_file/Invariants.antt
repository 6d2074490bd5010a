use Rattle.std.proofs.Common.{◌≡◌, not, is_some, filter, take}
use Rattle.oci_layout_store.specs.Blobs.{blob_path}
use Rattle.oci_manifest.specs.Descriptor.{Descriptor}
use Rattle.oci_copy_commands.proofs.behind.keys_without_file.Given as goal

-- as far as the loop has come
abbrev pub invariant-loop-key : goal.invariant-loop-key
invariant-loop-key g l =
    (g.D.Dir.device l.layout.dir).is_honest → l.without.items ≡ filter (λ (k : Descriptor). not (is_some ((g.D.Dir.device l.layout.dir).file (blob_path k.digest)))) (take l.key-index l.keys)
