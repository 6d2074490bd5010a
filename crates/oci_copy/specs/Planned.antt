-- The facts about its plan that a copy uses.
use Rattle.std.specs.Prelude.{◌≡◌, ℕ, true, false, List, filter, Some, IsOk, ◌⊎◌, ◌↔◌, Contains}
use Rattle.std.specs.List.{All}
use Rattle.oci_manifest.specs.Descriptor.{Descriptor}
use Rattle.oci_manifest.specs.Manifest.{first_places}
use Rattle.oci_store.specs.Keyed.{value_at, has_key, HasAll}
use Rattle.oci_store.specs.Content.{Entry, succ_of}
use Rattle.oci_store.specs.State.{State}
use Rattle.oci_plan.specs.Order.{IsOrder}
use Rattle.oci_plan.specs.Met.{IsMet}
use Rattle.oci_plan.specs.Outside.{IsVisited, IsToBring}
use Rattle.oci_plan.specs.Plan.{Planned, IsPlan, FollowsListed}
use Rattle.oci_plan.specs.Visiting.{IsSoundItem, IsSoundVisit}
use Rattle.oci_copy.specs.Destination.{IsClosedWhenSkipping}
use Rattle.oci_copy.specs.Grown.{graph_of}
use Rattle.oci_copy.specs.declared.options.Options.{Options}
use Rattle.oci_copy.specs.Options.{limit_of}

-- if there are bytes under the key, they read
abbrev pub CanBeRead : List Entry → Descriptor → Type 0
CanBeRead entries k = (bytes : List ℕ) → value_at entries k ≡ Some bytes → IsOk (succ_of k bytes)

-- the keys can be pushed in the order of the plan: the source has all of them and the destination
-- none; with an honest source their bytes read, and each key comes after the keys that it lists
pub record CanPush (source opening : State) (p : Planned) : Type 0 where
  pub plan : IsPlan p
  pub order : IsOrder p.order
  pub fresh : All (λ k. has_key opening.nodes k ≡ false) p.keys
  pub there : HasAll source.entries p.keys
  pub reads : source.is_honest → All (CanBeRead source.entries) p.keys
  pub follows : source.is_honest → FollowsListed (graph_of source) opening.nodes p

-- it is the plan of a copy from these roots: the destination is closed if the copy skips the keys
-- that it has; each root is held or planned, the held ones are listed as skipped, and each planned
-- key was met on the way from the roots; with an honest source, the planned keys are exactly the
-- keys to bring, and each visited key is sound under the limit
pub record IsPlanOf (source : State) (options : Options) (opening : State) (roots : List Descriptor) (p : Planned) : Type 0 where
  pub closed : IsClosedWhenSkipping options.existing opening.nodes
  pub can_push : CanPush source opening p
  pub roots_held : All (λ k. (has_key opening.nodes k ≡ true) ⊎ Contains p.keys k) roots
  pub skipped : p.skipped ≡ first_places (filter (has_key opening.nodes) roots)
  pub met : All (IsMet options.existing source.entries opening.nodes roots) p.keys
  pub sound : source.is_honest → All (IsSoundItem source.entries (limit_of options)) p.keys
  pub visited : source.is_honest → (k : Descriptor) → IsVisited options.existing (graph_of source) opening.nodes roots k
      → IsSoundVisit options.existing source.entries opening.nodes (limit_of options) k
  pub outside : source.is_honest → (k : Descriptor) → Contains p.keys k ↔ IsToBring options.existing (graph_of source) opening.nodes roots k
