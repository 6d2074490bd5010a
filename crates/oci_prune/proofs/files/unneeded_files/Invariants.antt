use Rattle.std.proofs.Common.{◌≡◌, take}
use Rattle.oci_prune.specs.Files.{unneeded_in}
use Rattle.oci_prune.proofs.files.unneeded_files.Given as goal

-- as far as the loop has come
abbrev pub invariant-loop-blob : goal.invariant-loop-blob
invariant-loop-blob l = l.files.items ≡ unneeded_in l.needed l.held (take l.blob-index l.blobs)
