-- What belongs to keys is reached from them and from the attached members.
use Rattle.std.proofs.Common.{◌≡◌, true, inl, inr, List, ◌++◌, is_some, ap}
use Rattle.std.proofs.lemmas.List.Elements.{Contains-append_left, Contains-append_right, Contains-append_cases}
use Rattle.oci_manifest.specs.Descriptor.{Descriptor}
use Rattle.oci_store.specs.Graph.{Node, Reaches, root, along}
use Rattle.oci_store.specs.Keyed.{has_key}
use Rattle.oci_prune.specs.Belonging.{AreAttached}
use Rattle.oci_prune.specs.Belongs.{Belongs, given, needed}
use Rattle.oci_prune.proofs.Keeping.{held_from_kept}

abbrev Relation : Type 1
Relation = Descriptor → Descriptor → Type 0

pub reached_from_member : (graph : List Node) (keys found : List Descriptor) (R : Relation) → AreAttached graph keys R found → (k : Descriptor) → Belongs graph keys R k → Reaches graph (keys ++ found) k
reached_from_member graph keys found R are k (given named held) = root (Contains-append_left keys found k named)
reached_from_member graph keys found R are k (needed {from} member needs held) =
    elim needs [
      | inl edge ↦ along (reached_from_member graph keys found R are from member) edge
      | inr attached ↦ root (Contains-append_right keys found k ((are k).1 (needed member (inr attached) held, (from, member, attached))))
    ]

pub member_from_reached : (graph : List Node) (keys found : List Descriptor) (R : Relation) → AreAttached graph keys R found → (k : Descriptor) → Reaches graph (keys ++ found) k → has_key graph k ≡ true → Belongs graph keys R k
member_from_reached graph keys found R are k (root named) held =
    elim (Contains-append_cases keys found k named) [
      | inl one ↦ given one held
      | inr attached ↦ ((are k).0 attached).0
    ]
member_from_reached graph keys found R are k (along {from} path edge) held = needed (member_from_reached graph keys found R are from path (ap is_some edge.1)) (inl edge) held

pub members_reached : (graph : List Node) (keys found : List Descriptor) (R : Relation) → AreAttached graph keys R found → (k : Descriptor) → Belongs graph keys R k → Reaches graph (keys ++ found) k × (has_key graph k ≡ true)
members_reached graph keys found R are k member = (reached_from_member graph keys found R are k member, held_from_kept graph keys R k member)
