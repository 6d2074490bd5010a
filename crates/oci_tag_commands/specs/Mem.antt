-- What `mem` pushes, copies and prints.
use Rattle.std.specs.Prelude.{◌≡◌, ◌≤◌, ◌⊎◌, ◌++◌, ◌∷◌, ◌==◌, ℕ, List, [], map, IfSome}
use Rattle.std.specs.Borrow.{Bor}
use Rattle.std.specs.List.{All, before_first, flat_map}
use Rattle.std.specs.List.Sorted.{IsPermutation, IsSorted}
use Rattle.std.specs.Map.{keys_of}
use Rattle.oci_command_line.specs.declared.memory.Algorithm.{Algorithm as Word}
use Rattle.oci_command_line.specs.declared.memory.Algorithm.TheVariants as word
use Rattle.oci_command_line.specs.declared.memory.MemWords.{MemWords}
use Rattle.oci_digest.specs.Algorithm.{Algorithm, sha256, sha512}
use Rattle.oci_digest.specs.Digest.{digest_by}
use Rattle.oci_manifest.specs.Descriptor.{Descriptor, key_cmp, key_text}
use Rattle.oci_plan.specs.declared.gathering.Existing.TheVariants.{Skip}
use Rattle.oci_store.specs.Content.{Entry}
use Rattle.oci_store.specs.Contents.{Contents, no_contents}
use Rattle.oci_copy.specs.Memory.{IsMemoryCopy}
use Rattle.oci_copy.specs.Report.{report_text}
use Rattle.oci_copy.specs.declared.report.Report.{Report}

-- ---- the items

-- the digest algorithm that a word names
abbrev pub algorithm_of : Word → Algorithm
algorithm_of word.Sha256 = sha256
algorithm_of word.Sha512 = sha512

-- the media type of an item `TYPE=PATH`: the text before the first `=` (61)
abbrev pub type_of : List ℕ → List ℕ
type_of item = before_first (λ b. b == 61) item

-- the media types of items
abbrev pub types_of : List (Bor (List ℕ)) → List (List ℕ)
types_of items = map (λ (item : Bor (List ℕ)). type_of item.now) items

-- the digest of an entry is that of its bytes by this algorithm
abbrev pub IsDigestedBy : Algorithm → Entry → Type 0
IsDigestedBy a e = e.0.digest ≡ digest_by a e.1

-- an item was pushed: its entry is the last one
pub record PushesItem (a : Algorithm) (item : List ℕ) (old new : Contents) (k : Descriptor) : Type 0 where
  pub entry : Entry
  pub entry_type : entry.0.media_type ≡ type_of item
  pub digest : IsDigestedBy a entry
  pub pushed : new ≡ record old { entries = old.entries ++ entry ∷ [] }
  pub key : k ≡ entry.0

-- the roots are the key of the last entry, if there is one
abbrev pub AreOfLast : List Entry → List Descriptor → Type 0
AreOfLast entries roots = ((entries ≡ []) × (roots ≡ [])) ⊎ ((before : List Entry) × (last : Entry) × (entries ≡ before ++ last ∷ []) × (roots ≡ last.0 ∷ []))

-- items were pushed into an empty store, each one in its turn, and the roots are the key of the last one
pub record AreItems (a : Algorithm) (items : List (Bor (List ℕ))) (contents : Contents) (roots : List Descriptor) : Type 0 where
  pub types : map (λ (e : Entry). e.0.media_type) contents.entries ≡ types_of items
  pub digests : All (IsDigestedBy a) contents.entries
  pub last : AreOfLast contents.entries roots

-- ---- the answer

-- these are the keys of the entries, in key order
pub record AreSortedKeys (entries : List Entry) (keys : List (Bor Descriptor)) : Type 0 where
  pub unsorted : List (Bor Descriptor)
  pub all : map (λ (k : Bor Descriptor). k.now) unsorted ≡ keys_of entries
  pub same : IsPermutation unsorted keys
  pub sorted : IsSorted (λ (a b : Bor Descriptor). key_cmp a.now b.now) keys

-- the lines of an answer: each key, and then the report, each with a line feed (10)
abbrev pub mem_text : List (Bor Descriptor) → Report → List ℕ
mem_text keys report = flat_map (λ (k : Bor Descriptor). key_text k.now ++ 10 ∷ []) keys ++ (report_text report ++ 10 ∷ [])

-- ---- a run

-- A run with these words pushed their items into a store, and copied from the key of the last one into
-- an empty store. It prints the keys that arrived there, and the report of the copy.
pub record IsMemRun (words : MemWords) (blobs : List (Bor Descriptor)) (report : Report) : Type 0 where
  pub source : Contents
  pub roots : List Descriptor
  pub left : Contents
  pub items : AreItems (algorithm_of words.algorithm) words.items.items source roots
  pub copied : IsMemoryCopy Skip source roots no_contents left report
  pub workers : IfSome words.workers (λ n. n ≤ 64)
  pub shown : AreSortedKeys left.entries blobs
