-- The files of a layout's contents (OCI image specification 1.1, image-layout.md, "Blobs").
use Rattle.std.specs.Prelude.{◌≡◌, ◌↔◌, ℕ, List, [], ◌∷◌, ◌++◌, map, codes, Option, Some, IsSome, true, false, Result, OnOk, IsErrOf, refl}
use Rattle.std.specs.List.{All}
use Rattle.std.specs.Map.{keys_of}
use Rattle.std.specs.Option.{unwrap_or}
use Rattle.std.proofs.Common.{ap}
use Rattle.oci_digest.specs.Digest.{algorithm_of, encoded_of}
use Rattle.oci_manifest.specs.Descriptor.{Descriptor}
use Rattle.oci_store.specs.Content.{Entry, IsContent, Matches}
use Rattle.oci_store.specs.Graph.{Node, nodes_of}
use Rattle.oci_store.specs.Keyed.{has_key}
use Rattle.oci_store.specs.declared.fault.FetchFault.{FetchFault}
use Rattle.oci_store.specs.declared.fault.FetchFault.TheVariants as fetch
use Rattle.oci_dir.specs.Device.{Device, File}

-- the file of a digest: `blobs`, its algorithm, its encoded part
unfoldable pub blob_path : List ℕ → List ℕ
blob_path digest = codes "blobs/" ++ algorithm_of digest ++ codes "/" ++ encoded_of digest

-- the bytes of a digest's file; empty if there is no file
abbrev pub blob_at : File → List ℕ → List ℕ
blob_at file digest = unwrap_or (file (blob_path digest)) []

-- a file does not match a key: it is missing, or has other bytes
abbrev pub IsNotOf : Descriptor → Option (List ℕ) → Type 0
IsNotOf k file = (bytes : List ℕ) → file ≡ Some bytes → Matches k bytes → ⊥

-- how a read of a key's file may fail; `wrong` states what is wrong with a corrupt file
pub record IsBlobRead (now : Device) (wrong : Type 0) (answer : Result (List ℕ) FetchFault) : Type 0 where
  pub not_found : IsErrOf answer fetch.NotFound → ⊥
  pub device : IsErrOf answer fetch.Device → now.fails_reads ≡ true
  pub corrupt : IsErrOf answer fetch.Corrupt → now.is_honest → wrong

-- each key with the bytes of its digest's file; a key without a file counts here as one of no bytes,
-- which `IsSound` excludes
abbrev pub stored : File → List Node → List Entry
stored file graph = map (λ (n : Node). (n.0, blob_at file n.0.digest)) graph

-- how a fetch of a key ends, besides the bytes; `wrong` states what is wrong with a corrupt file
pub record IsFetch (now : Device) (graph : List Node) (k : Descriptor) (wrong : Type 0) (answer : Result (List ℕ) FetchFault) : Type 0 where
  pub held : OnOk answer (has_key (stored now.file graph) k ≡ true)
  pub not_found : IsErrOf answer fetch.NotFound ↔ (has_key (stored now.file graph) k ≡ false)
  pub device : IsErrOf answer fetch.Device → now.fails_reads ≡ true
  pub corrupt : IsErrOf answer fetch.Corrupt → now.is_honest → wrong

-- the file of each key is there, and matches it
abbrev pub HasMatchingFiles : File → List Node → Type 0
HasMatchingFiles file graph = All (λ (n : Node). (bytes : List ℕ) × (file (blob_path n.0.digest) ≡ Some bytes) × Matches n.0 bytes) graph

-- the directory is honest; the file of each key is there and matches it, and the graph has the keys
-- that it lists
pub record IsSound (honest : Type 0) (file : File) (graph : List Node) : Type 0 where
  pub is_honest : honest
  pub are_there : All (λ (n : Node). IsSome (file (blob_path n.0.digest))) graph
  pub content : IsContent (stored file graph)
  pub listed : graph ≡ nodes_of (stored file graph)

-- the graph and its stored contents have the same keys
pub keys_of-stored : (file : File) (graph : List Node) → keys_of graph ≡ keys_of (stored file graph)
keys_of-stored file [] = refl
keys_of-stored file (n ∷ graph) = ap (λ (ks : List Descriptor). n.0 ∷ ks) (keys_of-stored file graph)
