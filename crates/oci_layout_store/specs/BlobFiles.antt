-- The files of blobs that a directory has, and why a file or a draft was not removed.
use Rattle.std.specs.Prelude.{◌≡◌, ◌↔◌, ◌⊎◌, ◌++◌, ℕ, true, List, map, Option, Some, length, IsSome, Contains}
use Rattle.std.specs.BTreeMap.{BTreeMap, get}
use Rattle.std.specs.Cmp.Lexicographic.{slice_cmp}
use Rattle.std.specs.List.Sorted.{IsStrictlySortedBy}
use Rattle.std.specs.Map.{keys_of}
use Rattle.std.specs.Ordering.{nat_cmp}
use Rattle.oci_digest.specs.Digest.{IsDigest}
use Rattle.oci_layout_store.specs.Blobs.{blob_path}
use Rattle.oci_dir.specs.Device.{Device, File, Same}
use Rattle.oci_layout_store.specs.declared.fault.LayoutFault.{LayoutFault}
use Rattle.oci_layout_store.specs.declared.fault.LayoutFault.TheVariants as fault
use Rattle.oci_dir.specs.Prunable.{HasLength}

-- the digests that have a file, each with the length of the file, in byte order
pub record AreBlobs (file : File) (blobs : List (List ℕ × ℕ)) : Type 0 where
  pub each : (digest : List ℕ) (size : ℕ) → Contains blobs (digest, size) ↔ (IsDigest digest × HasLength file (blob_path digest) size)
  pub order : IsStrictlySortedBy (slice_cmp nat_cmp) (keys_of blobs)

-- ---- the faults of public calls

-- why the files or drafts of a directory could not be read, or one of them not removed
abbrev pub IsDirFault : Device → LayoutFault → Type 0
IsDirFault dir fault.Device = dir.fails_reads ≡ true
IsDirFault dir fault.Memory = Unit {0}
IsDirFault dir other = ⊥

-- why a file was not removed; no file changed
pub record IsNotRemoved (old new : Device) (e : LayoutFault) : Type 0 where
  pub same : old.is_honest → Same old.file new.file
  pub cause : IsDirFault old e

-- why a draft was not removed; no draft changed
pub record IsDraftNotRemoved (old new : Device) (e : LayoutFault) : Type 0 where
  pub same : old.is_honest → Same old.draft new.draft
  pub cause : IsDirFault old e

-- ---- parts of the code

-- a file of this list has the digest's encoded part as its name, and this length; `algorithm` has
-- the colon too
abbrev pub IsNamedBy : List ℕ → List (List ℕ × ℕ) → List ℕ → ℕ → Type 0
IsNamedBy algorithm files digest size = IsDigest digest × (name : List ℕ) × (digest ≡ algorithm ++ name) × Contains files (name, size)

-- the length of a digest's file in a map
abbrev pub size_in : BTreeMap (List ℕ) ℕ → List ℕ → Option ℕ
size_in sizes digest = get (slice_cmp nat_cmp) sizes digest

-- the digests that these files are named by were added to a map, each with the length of its file
pub record Notes (algorithm : List ℕ) (files : List (List ℕ × ℕ)) (old new : BTreeMap (List ℕ) ℕ) : Type 0 where
  pub only : (digest : List ℕ) (size : ℕ) → size_in new digest ≡ Some size → (size_in old digest ≡ Some size) ⊎ IsNamedBy algorithm files digest size
  pub all : (digest : List ℕ) (size : ℕ) → IsNamedBy algorithm files digest size → IsSome (size_in new digest)
  pub stay : (digest : List ℕ) → IsSome (size_in old digest) → IsSome (size_in new digest)
