-- The meaning of a store at one moment.
use Rattle.std.specs.Prelude.{◌≡◌, ◌↔◌, ℕ, Bool, true, false, List, [], ⊤, Result, OnOk, IsErrOf}
use Rattle.oci_manifest.specs.Descriptor.{Descriptor}
use Rattle.oci_store.specs.Content.{Entry}
use Rattle.oci_store.specs.Graph.{Node, nodes_of}
use Rattle.oci_store.specs.Keyed.{has_key}
use Rattle.oci_store.specs.Tags.{Tags}
use Rattle.oci_store.specs.declared.fault.FetchFault.{FetchFault}
use Rattle.oci_store.specs.declared.fault.FetchFault.TheVariants as fault

-- The meaning of a store, independent of how it keeps its contents. Keys and the keys that they
-- list are always exact. Statements about bytes depend on the device: a file may have been changed,
-- and a failed put may have left anything in it.
pub record State : Type 1 where
  -- the held keys in order of arrival, each with the keys that its content listed when it arrived
  pub nodes : List Node
  -- the held keys in the same order, each with the bytes that the device has for it
  pub entries : List Entry
  -- the names of keys
  pub tags : Tags
  -- the name of the store: empty, unless others look into the store while it grows
  pub name : List ℕ
  -- a closed content with these entries and tags that the store had lasts: whatever a crash leaves, it
  -- is there
  pub lasts : List Entry → Tags → Type 0
  -- the number of failed puts of the device, which stays at the greatest `u64`
  pub failures : ℕ
  -- whether a fetch of a key may fail although the key is held
  pub fails_at : Descriptor → Bool
  -- the device returns the written bytes, and nobody else writes to it
  pub is_honest : Type 0
  -- the store is honest, and the bytes under each key are the ones that were pushed
  pub is_sound : Type 0
  -- the store accepts no more content
  pub is_halted : Type 0

-- at most the tags of a store changed
pub record OnlyTagsDiffer (old new : State) : Type 0 where
  pub nodes : new.nodes ≡ old.nodes
  pub entries : new.entries ≡ old.entries
  pub name : new.name ≡ old.name
  pub failures : new.failures ≡ old.failures
  pub fails_at : (k : Descriptor) → new.fails_at k ≡ old.fails_at k
  pub honest : old.is_honest ↔ new.is_honest
  pub sound : old.is_sound ↔ new.is_sound
  pub halted : old.is_halted ↔ new.is_halted
  -- what lasts stays
  pub lasts : (entries : List Entry) (tags : Tags) → old.lasts entries tags → new.lasts entries tags

-- the answer to a fetch of a key: it is held, or the error says why it could not be read
pub record AnswersFetch {X : Type 0} (store : State) (k : Descriptor) (answer : Result X FetchFault) : Type 0 where
  pub held : OnOk answer (has_key store.entries k ≡ true)
  pub not_found : IsErrOf answer fault.NotFound ↔ (has_key store.entries k ≡ false)
  -- only a store whose fetch of the key may fail reports these
  pub corrupt : IsErrOf answer fault.Corrupt → store.fails_at k ≡ true
  pub device : IsErrOf answer fault.Device → store.fails_at k ≡ true

-- a store that keeps these entries and tags in memory
abbrev pub in_memory : List Entry → Tags → State
in_memory held tags = record {
  nodes = nodes_of held;
  entries = held;
  tags = tags;
  name = [];
  lasts = λ entries tags. ⊥;
  failures = 0;
  fails_at = λ k. false;
  is_honest = ⊤;
  is_sound = ⊤;
  is_halted = ⊥;
}
