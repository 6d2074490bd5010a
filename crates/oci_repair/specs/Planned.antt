-- The plan of a repair.
use Rattle.std.specs.Prelude.{◌≡◌, ℕ, zero, suc, Bool, true, false, List, [], ◌∷◌, length, flat_map, Option, None, Some}
use Rattle.oci_dir.specs.Device.{File}
use Rattle.oci_layout_store.specs.Opened.{listed_in}
use Rattle.oci_manifest.specs.Descriptor.{Descriptor}
use Rattle.oci_store.specs.Graph.{Node}
use Rattle.oci_store.specs.Keyed.{value_at}
use Rattle.oci_repair.specs.declared.plan.RepairPlan.{RepairPlan}
use Rattle.oci_repair.specs.declared.search.Found.{Found}
use Rattle.oci_repair.specs.Whole.{has_whole, place_in, AreReached}

-- of a key that was found at a place: the place of its source, unless the layout has it
abbrev pub mend_at : Descriptor → Option ℕ → List (Descriptor × ℕ)
mend_at k None = []
mend_at k (Some zero) = []
mend_at k (Some (suc source)) = (k, source) ∷ []

-- a key that was found nowhere
abbrev pub missing_at : Descriptor → Option ℕ → List Descriptor
missing_at k None = k ∷ []
missing_at k (Some place) = []

-- the plan of a repair: the first directory is that of the layout, and the others are the sources.
-- Each key that is reached from these is in the first one, or is brought from the first source that
-- has it, or is missing
pub record IsPlan (files : List File) (starts : List Descriptor) (plan : RepairPlan) : Type 0 where
  pub keys : List Descriptor
  pub reached : AreReached files starts keys
  pub mends : plan.mends.items ≡ flat_map (λ k. mend_at k (place_in files k)) keys
  pub missing : plan.missing.items ≡ flat_map (λ k. missing_at k (place_in files k)) keys
  pub count : plan.reached ≡ length keys

-- ---- parts of the code

-- it is known which files of a layout are whole: those of held keys that are not corrupt, whose lists
-- the graph has, and none of a corrupt key
pub record Knows (file : File) (graph : List Node) (is_corrupt : Descriptor → Bool) : Type 0 where
  pub corrupt : (k : Descriptor) → is_corrupt k ≡ true → has_whole file k ≡ false
  pub held : (k : Descriptor) (links : List Descriptor) → is_corrupt k ≡ false → value_at graph k ≡ Some links → (has_whole file k ≡ true) × (links ≡ listed_in file k)

-- the place at which a file was found
abbrev pub place_of : Option Found → Option ℕ
place_of None = None
place_of (Some found) = Some found.place

-- what it lists
abbrev pub links_of : Option Found → List Descriptor
links_of None = []
links_of (Some found) = found.links.items
