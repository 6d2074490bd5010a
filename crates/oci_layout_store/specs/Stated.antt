-- What the manifests of a layout state besides the keys that a copy follows: their subjects (OCI
-- image-spec 1.1, manifest.md and image-index.md, `subject`), and the layers that they list and that
-- are not distributed (layer.md, "Non-Distributable Layers").
use Rattle.std.specs.Prelude.{◌≡◌, ◌↔◌, ◌⊎◌, ℕ, true, List, [], ◌∷◌, ◌++◌, Option, Some, None, Ok, Contains}
use Rattle.oci_manifest.specs.Descriptor.{Descriptor}
use Rattle.oci_manifest.specs.MediaTypes.{kind_of}
use Rattle.oci_manifest.specs.Subject.{HasSubject, subject_of}
use Rattle.oci_manifest.specs.Undistributed.{ReadsAside, undistributed_of}
use Rattle.oci_manifest.specs.declared.manifest.links.Links.{Links}
use Rattle.oci_store.specs.Graph.{Node}
use Rattle.oci_store.specs.Keyed.{has_key}
use Rattle.oci_layout_store.specs.Blobs.{blob_at}
use Rattle.oci_layout_store.specs.Opened.{listed_in}
use Rattle.oci_dir.specs.Device.{Device, File}
use Rattle.oci_layout_store.specs.declared.layout.stated.Stated.{Stated}

-- what was read of the file of a key is what it lists and states
pub record AreLinksOf (file : File) (k : Descriptor) (links : Links) : Type 0 where
  pub successors : links.successors.items ≡ listed_in file k
  pub subject : subject_of (kind_of k.media_type) (blob_at file k.digest) ≡ Ok links.subject
  pub undistributed : undistributed_of (kind_of k.media_type) (blob_at file k.digest) ≡ Ok links.undistributed.items

-- ---- subjects

-- the first key is held, and its file states the second as its subject
abbrev pub StatesIn : File → List Node → Descriptor → Descriptor → Type 0
StatesIn file graph k subject = (has_key graph k ≡ true) × HasSubject (kind_of k.media_type) (blob_at file k.digest) subject

-- the pairs are the held keys that state a subject, each with that
abbrev pub AreSubjects : File → List Node → List (Descriptor × Descriptor) → Type 0
AreSubjects file graph pairs = (k subject : Descriptor) → Contains pairs (k, subject) ↔ StatesIn file graph k subject

-- the pairs, with that of a key and its subject, if it has one
abbrev pub with_subject : List (Descriptor × Descriptor) → Descriptor → Option Descriptor → List (Descriptor × Descriptor)
with_subject pairs k None = pairs
with_subject pairs k (Some subject) = pairs ++ (k, subject) ∷ []

-- ---- layers that are not distributed

-- the bytes of a key list the layer, and it is not distributed
abbrev pub ListsLayer : Descriptor → List ℕ → Descriptor → Type 0
ListsLayer k bytes layer = (aside : List Descriptor) × ReadsAside (kind_of k.media_type) bytes aside × Contains aside layer

-- the pairs are the held keys that list a layer which is not distributed, each with that
abbrev pub AreUndistributed : File → List Node → List (Descriptor × Descriptor) → Type 0
AreUndistributed file graph pairs = (k layer : Descriptor) → Contains pairs (k, layer) ↔ ((has_key graph k ≡ true) × ListsLayer k (blob_at file k.digest) layer)

-- the pairs of a key with each of these were added
abbrev pub ArePaired : List (Descriptor × Descriptor) → Descriptor → List Descriptor → List (Descriptor × Descriptor) → Type 0
ArePaired old k found new = (from other : Descriptor) → Contains new (from, other) ↔ (Contains old (from, other) ⊎ ((k ≡ from) × Contains found other))

-- ---- both

-- the pairs are all that the held keys state
pub record AreStated (file : File) (graph : List Node) (stated : Stated) : Type 0 where
  pub subjects : AreSubjects file graph stated.subjects.items
  pub undistributed : AreUndistributed file graph stated.undistributed.items

-- what a key lists and states was added
pub record IsNoted (old : Stated) (k : Descriptor) (links : Links) (new : Stated) : Type 0 where
  pub subjects : new.subjects.items ≡ with_subject old.subjects.items k links.subject
  pub undistributed : ArePaired old.undistributed.items k links.undistributed.items new.undistributed.items

-- what is remembered, if anything, is right in an honest directory
abbrev pub AreRemembered : Device → List Node → Option Stated → Type 0
AreRemembered dir graph None = Unit {0}
AreRemembered dir graph (Some stated) = dir.is_honest → AreStated dir.file graph stated
