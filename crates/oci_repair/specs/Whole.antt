-- Whole blobs, and the first place that has one.
use Rattle.std.specs.Prelude.{◌≡◌, ◌+◌, ℕ, Bool, false, List, [], ◌∷◌, Option, None, Some, is_ok, option_map, if◌then◌else◌}
use Rattle.std.specs.Option.{unwrap_or}
use Rattle.oci_layout_store.specs.Blobs.{blob_path}
use Rattle.oci_dir.specs.Device.{File}
use Rattle.oci_layout_store.specs.Opened.{any, listed_in}
use Rattle.oci_manifest.specs.Descriptor.{Descriptor}
use Rattle.oci_store.specs.Push.{content_check}
use Rattle.oci_store.specs.Visiting.{IsVisiting, next_visit}

-- whether a directory has a whole file of a key: it matches the key, and can be read if it is of a
-- manifest kind
abbrev pub has_whole : File → Descriptor → Bool
has_whole file k = unwrap_or (option_map (λ bytes. is_ok (content_check k bytes)) (file (blob_path k.digest))) false

-- the place of the first of these directories that has a whole file of a key
abbrev pub place_in : List File → Descriptor → Option ℕ
place_in [] k = None
place_in (file ∷ files) k = if has_whole file k then Some 0 else option_map (λ n. n + 1) (place_in files k)

-- what the first whole file of a key lists; nothing if there is none
abbrev pub lists_in : List File → Descriptor → List Descriptor
lists_in [] k = []
lists_in (file ∷ files) k = if has_whole file k then listed_in file k else lists_in files k

-- the keys that are reached from these along what the first whole file of each lists, in the order in
-- which they are visited
pub record AreReached (files : List File) (starts keys : List Descriptor) : Type 0 where
  pub visiting : IsVisiting (lists_in files) any starts keys
  pub all : next_visit (lists_in files) any starts keys ≡ None
