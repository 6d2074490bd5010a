-- The key that a reference of a layout names, for a platform or for none.
use Rattle.std.specs.Prelude.{◌≡◌, ◌⊎◌, ℕ, List, Option, Some, None, option_map}
use Rattle.std.specs.Map.{keys_of}
use Rattle.oci_manifest.specs.Descriptor.{Descriptor}
use Rattle.oci_store.specs.Graph.{Node}
use Rattle.oci_store.specs.Tags.{Tags}
use Rattle.oci_dir.specs.Device.{Device}
use Rattle.oci_layout_store.specs.Layout.{LayoutState}
use Rattle.oci_reference.specs.Platform.{first_for, listed_by, IsPickFault}
use Rattle.oci_reference.specs.Reference.{IsReferenceFault, Names}
use Rattle.oci_program.specs.declared.fault.ProgramFault.{ProgramFault}

-- the first descriptor of an index that states the platform has this key
abbrev pub IsFirstFor : Device → List Node → Descriptor → List ℕ → Descriptor → Type 0
IsFirstFor dir graph index platform k = dir.is_honest → option_map (λ first. first.0) (first_for platform (listed_by dir.file graph index)) ≡ Some k

-- the key that a reference names; with a platform, that of the first manifest which the index that
-- the reference names lists for it
abbrev pub IsNamed : Device → List Node → Tags → List ℕ → Option (List ℕ) → Descriptor → Type 0
IsNamed dir graph tags reference None k = Names (keys_of graph) tags reference k
IsNamed dir graph tags reference (Some platform) k = (index : Descriptor) × Names (keys_of graph) tags reference index × IsFirstFor dir graph index platform k

-- why there is no such key: the reference is refused, or the manifest is not picked
abbrev pub IsNamedFault : {D : Type 0} → Device → LayoutState D → List ℕ → Option (List ℕ) → ProgramFault → Type 0
IsNamedFault dir layout reference None e = IsReferenceFault dir layout reference e
IsNamedFault dir layout reference (Some platform) e = IsReferenceFault dir layout reference e
    ⊎ ((index : Descriptor) × Names (keys_of layout.graph) layout.tags reference index × IsPickFault dir layout.graph index platform e)
