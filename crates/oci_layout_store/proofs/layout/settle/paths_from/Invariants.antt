use Rattle.std.proofs.Common.{◌≡◌, ◌++◌, drop, map}
use Rattle.std.specs.Prelude.{string_bytes}
use Rattle.oci_store.specs.Graph.{Node}
use Rattle.oci_layout_store.specs.Blobs.{blob_path}
use Rattle.oci_layout_store.specs.Settled.{paths_of}
use Rattle.oci_layout_store.proofs.layout.settle.paths_from.Given as goal

-- the paths so far, and then those of what is left, are all
abbrev pub invariant-loop-place : goal.invariant-loop-place
invariant-loop-place l = map string_bytes l.paths.items ++ map (λ (n : Node). blob_path n.0.digest) (drop l.place l.graph) ≡ paths_of (drop l.from l.graph)
