-- A store in memory that counts failed pushes.
use Rattle.std.specs.Prelude.{ℕ, false, [], ⊤}
use Rattle.oci_store.specs.Contents.{Contents}
use Rattle.oci_store.specs.Graph.{nodes_of}
use Rattle.oci_store.specs.State.{State}

-- the meaning of the store with this number of failures
abbrev pub failing : Contents → ℕ → State
failing held failures = record {
  nodes = nodes_of held.entries;
  entries = held.entries;
  tags = held.tags;
  name = [];
  lasts = λ entries tags. ⊥;
  failures = failures;
  fails_at = λ k. false;
  is_honest = ⊤;
  is_sound = ⊤;
  is_halted = ⊥;
}
