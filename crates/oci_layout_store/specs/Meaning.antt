-- The meaning of a layout as a store.
use Rattle.std.specs.Prelude.{List, [], true}
use Rattle.oci_store.specs.Graph.{Node}
use Rattle.oci_store.specs.State.{State}
use Rattle.oci_store.specs.Tags.{Tags}
use Rattle.oci_layout_store.specs.Blobs.{stored, IsSound}
use Rattle.oci_dir.specs.Device.{Device}
use Rattle.oci_layout_store.specs.Lasts.{Lasts}

-- the meaning of a layout, from its directory and its graph and tags in memory
abbrev pub meaning : Device → List Node → Tags → State
meaning dir graph names = record {
  nodes = graph;
  entries = stored dir.file graph;
  tags = names;
  name = [];
  lasts = Lasts dir;
  failures = dir.failures;
  fails_at = λ k. true;
  is_honest = dir.is_honest;
  is_sound = IsSound dir.is_honest dir.file graph;
  is_halted = ⊥;
}
