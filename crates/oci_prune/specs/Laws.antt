-- Laws of what belongs to keys.
use Rattle.std.specs.Prelude.{◌≡◌, ◌↔◌, true, List, ◌++◌}
use Rattle.oci_manifest.specs.Descriptor.{Descriptor}
use Rattle.oci_store.specs.Content.{Entry}
use Rattle.oci_store.specs.Graph.{Node, Reaches}
use Rattle.oci_store.specs.Keyed.{has_key}
use Rattle.oci_store.specs.Tags.{Tags}
use Rattle.oci_prune.specs.Attached.{AttachedBy}
use Rattle.oci_prune.specs.Belonging.{AreAttached}
use Rattle.oci_prune.specs.Belongs.{Belongs}

-- where no key is attached to another, the held keys that belong to the given ones are those that
-- they reach
abbrev pub KeptIsReached : Type 0
KeptIsReached = (graph : List Node) (roots : List Descriptor) (k : Descriptor) → Belongs graph roots (λ _ _. ⊥) k ↔ (Reaches graph roots k × (has_key graph k ≡ true))

-- what belongs to keys is held and reached from them and from the attached members
abbrev pub BelongingIsReached : Type 0
BelongingIsReached =
    (graph : List Node) (entries : List Entry) (tags : Tags) (keys found : List Descriptor) → AreAttached graph keys (AttachedBy entries tags) found → (k : Descriptor)
    → Belongs graph keys (AttachedBy entries tags) k ↔ (Reaches graph (keys ++ found) k × (has_key graph k ≡ true))
