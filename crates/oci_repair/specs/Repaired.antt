-- What a repair leaves of the files of a layout.
use Rattle.std.specs.Prelude.{◌≡◌, ◌⊎◌, ℕ, true, List, length, Option, Some, Contains}
use Rattle.std.specs.BTreeMap.{BTreeMap, get}
use Rattle.std.specs.Cmp.Lexicographic.{slice_cmp}
use Rattle.std.specs.Ordering.{nat_cmp}
use Rattle.std.specs.Str.{bytes_eq}
use Rattle.oci_digest.specs.Digest.{Verifies}
use Rattle.oci_layout_store.specs.Blobs.{blob_path}
use Rattle.oci_dir.specs.Device.{File}
use Rattle.oci_manifest.specs.Descriptor.{Descriptor}
use Rattle.oci_store.specs.Content.{Matches}

-- there is a file of the key, which matches it
abbrev pub HasMatch : File → Descriptor → Type 0
HasMatch file k = (bytes : List ℕ) × (file (blob_path k.digest) ≡ Some bytes) × Matches k bytes

-- each file is as it was, or it is the file of one of these keys, and matches it
abbrev pub IsOldOrMatch : File → File → List Descriptor → Type 0
IsOldOrMatch old new keys = (q : List ℕ) → (new q ≡ old q) ⊎ ((k : Descriptor) × Contains keys k × (bytes_eq (blob_path k.digest) q ≡ true) × HasMatch new k)

-- ---- parts of the code

-- each file is as it was, or it is the file of this key, and matches it
abbrev pub IsOldOrOf : File → File → Descriptor → Type 0
IsOldOrOf old new k = (q : List ℕ) → (new q ≡ old q) ⊎ ((bytes_eq (blob_path k.digest) q ≡ true) × HasMatch new k)

-- the size of a digest's file that was put
abbrev pub size_in : BTreeMap (List ℕ) ℕ → List ℕ → Option ℕ
size_in put digest = get (slice_cmp nat_cmp) put digest

-- the files of these digests were put: each has this size, and the digest verifies it
abbrev pub ArePut : File → BTreeMap (List ℕ) ℕ → Type 0
ArePut file put = (digest : List ℕ) (size : ℕ) → size_in put digest ≡ Some size → (bytes : List ℕ) × (file (blob_path digest) ≡ Some bytes) × (length bytes ≡ size) × Verifies digest bytes
