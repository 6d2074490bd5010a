-- The order in which keys are visited from some start keys along the keys that each lists.
use Rattle.std.specs.Prelude.{◌≡◌, ◌&&◌, Bool, not, List, [], ◌∷◌, ◌++◌, find, Option, Some, if◌then◌else◌}
use Rattle.std.specs.List.{flat_map}
use Rattle.oci_manifest.specs.Descriptor.{Descriptor, is_among}

-- the keys, with one more appended if it is new
abbrev pub with_key : List Descriptor → Descriptor → List Descriptor
with_key keys k = if is_among keys k then keys else keys ++ k ∷ []

-- the keys, with each of these appended if it is new
abbrev pub with_keys : List Descriptor → List Descriptor → List Descriptor
with_keys keys [] = keys
with_keys keys (k ∷ ks) = with_keys (with_key keys k) ks

-- the start keys, followed by the keys that each item lists, in turn
abbrev pub candidates : (Descriptor → List Descriptor) → List Descriptor → List Descriptor → List Descriptor
candidates lists starts items = starts ++ flat_map lists items

-- the first candidate that passes and is not an item
abbrev pub next_visit : (Descriptor → List Descriptor) → (Descriptor → Bool) → List Descriptor → List Descriptor → Option Descriptor
next_visit lists passes starts items = find (λ k. passes k && not (is_among items k)) (candidates lists starts items)

-- a visiting list: each item is the first candidate that passes and is not an earlier item
pub data IsVisiting (lists : Descriptor → List Descriptor) (passes : Descriptor → Bool) (starts : List Descriptor) : List Descriptor → Type 0 where
  start : IsVisiting lists passes starts []
  next : {items : List Descriptor} {k : Descriptor} → IsVisiting lists passes starts items → next_visit lists passes starts items ≡ Some k → IsVisiting lists passes starts (items ++ k ∷ [])
