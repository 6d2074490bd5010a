-- Contents that are read in parts.
use Rattle.std.specs.Prelude.{◌≡◌, ◌≤◌, ◌<◌, ◌⊎◌, ℕ, ◌+◌, List, [], take, drop, length, Option, Some, Result, Ok, Err, if◌then◌else◌, OnOk, IsErrOf}
use Rattle.oci_digest.specs.Hashing.{IsHashing}
use Rattle.oci_digest.specs.declared.hasher.Hasher.{Hasher}
use Rattle.oci_manifest.specs.Descriptor.{Descriptor}
use Rattle.oci_manifest.specs.MediaTypes.{kind_of}
use Rattle.oci_manifest.specs.declared.kind.Kind.TheVariants.{Leaf}
use Rattle.oci_store.specs.Content.{Entry, Matches}
use Rattle.oci_store.specs.Graph.{Node}
use Rattle.oci_store.specs.Keyed.{has_key}
use Rattle.oci_store.specs.Push.{Refusal, already_exists, Answers, IsCalm, IsRaised}
use Rattle.oci_store.specs.State.{State}
use Rattle.oci_store.specs.Tags.{Tags}
use Rattle.oci_store.specs.declared.fault.PushFault.{PushFault}
use Rattle.oci_store.specs.declared.fault.PushFault.TheVariants as fault

-- the content of the key is opaque, and lists nothing
abbrev pub IsLeaf : Descriptor → Type 0
IsLeaf k = kind_of k.media_type ≡ Leaf

-- at most `most` of the found bytes, from an offset on
abbrev pub IsPart : Option (List ℕ) → ℕ → ℕ → List ℕ → Type 0
IsPart found from most part = (bytes : List ℕ) × (found ≡ Some bytes) × (part ≡ take most (drop from bytes))

-- the found bytes begin with these bytes
abbrev pub IsBeginning : Option (List ℕ) → List ℕ → Type 0
IsBeginning found m = (bytes : List ℕ) → found ≡ Some bytes → m ≡ take (length m) bytes

-- these bytes were hashed and drafted, `left` bytes of the key's size remain, and the content of an
-- honest source begins with them
pub record IsReading (hasher : Hasher) (drafted : List ℕ → Type 0) (k : Descriptor) (honest : Type 0) (found : Option (List ℕ)) (left : ℕ) (m : List ℕ) : Type 0 where
  pub hashed : IsHashing hasher k.digest m
  pub is_drafted : drafted m
  pub size : length m + left ≡ k.size
  pub begins : honest → IsBeginning found m

-- the draft has all bytes of the key; if the source is honest, they are its bytes
pub record IsDraftOf (drafted : List ℕ → Type 0) (k : Descriptor) (honest : Type 0) (found : Option (List ℕ)) (bytes : List ℕ) : Type 0 where
  pub is_drafted : drafted bytes
  pub matching : Matches k bytes
  pub own : honest → found ≡ Some bytes

-- a leaf may be pushed if its key is not held
unfoldable pub leaf_check : List Node → Descriptor → Result (List Descriptor) Refusal
leaf_check graph k = if has_key graph k then Err already_exists else Ok []

-- the effect of pushing a lost draft on the held keys, by its result
pub record LeavesKeys (old new : List Node) (k : Descriptor) (answer : Result ℕ PushFault) : Type 0 where
  pub refused : OnOk answer ⊥
  -- an error agrees with the check, or is a memory error, a device error or a halt
  pub checked : Answers answer (leaf_check old k)
  pub same : new ≡ old

-- the effect of pushing a lost draft on a store, by its result
pub record IsLostPush (old new : State) (k : Descriptor) (answer : Result ℕ PushFault) : Type 0 where
  pub keys : LeavesKeys old.nodes new.nodes k answer
  -- if the store is sound and no put fails during the call, its entries stay, and it stays sound
  pub entries : old.is_sound → IsCalm old.failures new.failures → new.entries ≡ old.entries
  pub sound : old.is_sound → IsCalm old.failures new.failures → new.is_sound
  -- a device error raises the count of failures, and the count rises only with a device error
  pub failures : old.failures ≤ new.failures
  pub device : IsErrOf answer fault.Device → IsRaised old.failures new.failures
  pub calm : old.failures < new.failures → IsErrOf answer fault.Device
  -- a halt is reported only if the store had halted, and only a memory error halts a store
  pub halted : IsErrOf answer fault.Halted → old.is_halted
  pub running : new.is_halted → old.is_halted ⊎ IsErrOf answer fault.Memory
  -- a halted store stays halted
  pub stays : old.is_halted → new.is_halted
  -- the tags and the name of the store stay
  pub tags : new.tags ≡ old.tags
  pub name : new.name ≡ old.name
  -- what lasts stays
  pub lasts : (entries : List Entry) (tags : Tags) → old.lasts entries tags → new.lasts entries tags
