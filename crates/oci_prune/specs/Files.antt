-- The files that no kept key needs, computed from the digests of the kept and of the held keys.
use Rattle.std.specs.Prelude.{◌≡◌, ◌↔◌, ◌⊎◌, ℕ, true, not, List, map, filter, Contains}
use Rattle.std.specs.BTreeSet.{BTreeSet, contains}
use Rattle.std.specs.Cmp.Lexicographic.{slice_cmp}
use Rattle.std.specs.Ordering.{nat_cmp}
use Rattle.oci_manifest.specs.Descriptor.{Descriptor}
use Rattle.oci_store.specs.Content.{Entry}
use Rattle.oci_store.specs.Graph.{Node}
use Rattle.oci_prune.specs.Aside.{Lists}
use Rattle.oci_prune.specs.declared.plan.PrunedFile.{PrunedFile}

-- the set has the digests of these keys, and no other
abbrev pub HasDigests : List Descriptor → BTreeSet (List ℕ) → Type 0
HasDigests keys digests = (digest : List ℕ) → (contains (slice_cmp nat_cmp) digests digest ≡ true) ↔ ((k : Descriptor) × Contains keys k × (k.digest ≡ digest))

-- these are the first keys, and the keys that one of them lists, be they distributed or not
abbrev pub AreNeeded : List Node → List Entry → List Descriptor → List Descriptor → Type 0
AreNeeded graph entries keys needed = (k : Descriptor) → Contains needed k ↔ (Contains keys k ⊎ ((from : Descriptor) × Contains keys from × Lists graph entries from k))

-- a key was added, with the keys that it lists
abbrev pub AddsNeeded : List Node → List Entry → Descriptor → List Descriptor → List Descriptor → Type 0
AddsNeeded graph entries key old new = (k : Descriptor) → Contains new k ↔ (Contains old k ⊎ ((key ≡ k) ⊎ Lists graph entries key k))

-- the file of a digest with this length
abbrev pub pruned_file : BTreeSet (List ℕ) → List ℕ × ℕ → PrunedFile
pruned_file held blob = record { digest = blob.0; length = blob.1; is_held = contains (slice_cmp nat_cmp) held blob.0 }

-- the files of the digests that are not needed
abbrev pub unneeded_in : BTreeSet (List ℕ) → BTreeSet (List ℕ) → List (List ℕ × ℕ) → List PrunedFile
unneeded_in needed held blobs = map (pruned_file held) (filter (λ (blob : List ℕ × ℕ). not (contains (slice_cmp nat_cmp) needed blob.0)) blobs)
