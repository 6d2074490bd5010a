use Rattle.std.proofs.Common.{take}
use Rattle.oci_dir.specs.Prunable.{by_name}
use Rattle.oci_layout_store.specs.BlobFiles.{Notes}
use Rattle.oci_layout_store.proofs.layout.prune.note_blobs.Given as goal

abbrev pub invariant-loop-file : goal.invariant-loop-file
invariant-loop-file l = Notes l.algorithm (by_name (take l.file-index l.files)) l.initial.sizes l.sizes
