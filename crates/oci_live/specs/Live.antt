-- The meaning of a live store, and of a look or a note.
use Rattle.std.specs.Prelude.{◌≡◌, ◌⊎◌, ℕ, Bool, true, false, List, [], length, ⊤}
use mathlib.Core.List.{IsPrefix}
use Rattle.oci_store.specs.Closed.{IsClosed}
use Rattle.oci_store.specs.Content.{Entry}
use Rattle.oci_store.specs.Graph.{nodes_of}
use Rattle.oci_store.specs.State.{State}

-- the name of the store, its published entries, and whether it has halted
pub record Live : Type 0 where
  pub name : List ℕ
  pub entries : List Entry
  pub is_halted : Bool

-- a prefix of a live store's history, with the name of the store
pub record Beginning : Type 0 where
  pub name : List ℕ
  pub entries : List Entry

-- a look or a note of a store moved on: its list only grew, and is closed
pub record MovesOn (old new : Beginning) : Type 0 where
  pub name : new.name ≡ old.name
  pub later : IsPrefix old.entries new.entries
  pub closed : IsClosed (nodes_of new.entries)

-- a look or a note took the longer of its list and the list of a note, and one of the two begins the
-- other
pub record Learns (old note new : Beginning) : Type 0 where
  pub name : new.name ≡ old.name
  pub one : (new.entries ≡ old.entries) ⊎ (new.entries ≡ note.entries)
  pub later : IsPrefix old.entries new.entries
  pub told : IsPrefix note.entries new.entries

-- the list is closed and has this length
pub record IsClosedList (entries : List Entry) (n : ℕ) : Type 0 where
  pub len : n ≡ length entries
  pub closed : IsClosed (nodes_of entries)

-- a live store as a store: it holds exactly its published entries
abbrev pub state_of : Live → State
state_of live = record {
  nodes = nodes_of live.entries;
  entries = live.entries;
  tags = [];
  name = live.name;
  lasts = λ entries tags. ⊥;
  failures = 0;
  fails_at = λ k. false;
  is_honest = ⊤;
  is_sound = ⊤;
  is_halted = live.is_halted ≡ true;
}
