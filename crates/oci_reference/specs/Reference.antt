-- Why a reference of a layout is refused.
use Rattle.std.specs.Prelude.{◌≡◌, ◌≢◌, ◌⊎◌, ◌&&◌, ℕ, Bool, true, false, List, [], Option, Some, None, option_map, IfSome, MatchOption, MatchBool, if◌then◌else◌}
use Rattle.std.specs.List.{All}
use Rattle.std.specs.Map.{keys_of}
use Rattle.std.specs.Ordering.{is_lt}
use Rattle.std.specs.Str.{bytes_eq}
use Rattle.oci_digest.specs.Digest.{is_digest}
use Rattle.oci_manifest.specs.Descriptor.{Descriptor, is_among, key_cmp}
use Rattle.oci_store.specs.Graph.{Node}
use Rattle.oci_store.specs.Tags.{Tags, IsLeastOf, IsLeastWith, Resolves, tag_at}
use Rattle.oci_store.specs.declared.fault.RefFault.{RefFault}
use Rattle.oci_store.specs.declared.fault.RefFault.TheVariants as reference
use Rattle.oci_dir.specs.Device.{Device}
use Rattle.oci_layout_store.specs.Entries.{IndexEntry, said}
use Rattle.oci_layout_store.specs.Layout.{LayoutState, OpenedIndex, manifests_of}
use Rattle.oci_layout_store.specs.Opened.{is_damaged}
use Rattle.oci_layout_store.specs.Refusal.{IsDamageFault, IsUnreadable}
use Rattle.oci_layout_store.specs.Saved.{last_entry, last_place}
use Rattle.oci_layout_store.specs.declared.fault.LayoutFault.{LayoutFault}
use Rattle.oci_program.specs.declared.fault.ProgramFault.{ProgramFault}
use Rattle.oci_program.specs.declared.fault.ProgramFault.TheVariants as fault

-- A digest names the least of these keys of a manifest kind that have it, or, if there is none, the
-- least that has it.
abbrev pub IsNamedBy : List Descriptor → List ℕ → Descriptor → Type 0
IsNamedBy keys digest k = IsLeastWith (manifests_of keys) digest k ⊎ (All (λ (m : Descriptor). m.digest ≢ digest) (manifests_of keys) × IsLeastWith keys digest k)

-- the key that a reference names: that of the tag with this name, or, if there is no such tag, the
-- one that the digest names
abbrev pub Names : List Descriptor → Tags → List ℕ → Descriptor → Type 0
Names keys tags reference k = MatchOption (tag_at tags reference) (IsNamedBy keys reference k) (λ tagged. k ≡ tagged)

-- why a reference does not resolve; a memory error is possible at any point
abbrev pub IsUnresolved : List Node → Tags → List ℕ → RefFault → Type 0
IsUnresolved graph tags name reference.EmptyReference = name ≡ []
IsUnresolved graph tags name reference.UnknownReference = (name ≢ []) × ((k : Descriptor) → Resolves (keys_of graph) tags name k → ⊥)
IsUnresolved graph tags name reference.NotHeld = ⊥
IsUnresolved graph tags name reference.Memory = Unit {0}

-- the key of the last entry with a name; that entry has none if it is no descriptor
abbrev pub last_key : List ℕ → List IndexEntry → Option (Option Descriptor)
last_key name entries = option_map (λ (e : IndexEntry). e.key) (last_entry name entries)

-- the last entry with a name is at this place, and is no descriptor
abbrev pub NamesUnreadable : List IndexEntry → List ℕ → ℕ → Type 0
NamesUnreadable entries name place = (last_place name entries ≡ Some place) × (last_key name entries ≡ Some None)

-- the key of an entry, if it is one of the damaged ones
abbrev pub damaged_in : List Descriptor → Option Descriptor → Option Descriptor
damaged_in damaged None = None
damaged_in damaged (Some k) = if is_among damaged k then Some k else None

-- The damaged key that a reference names, if there is one: that of the last entry with this name,
-- or, if no entry has it, the least one with this digest.
abbrev pub NamesDamaged : OpenedIndex → List ℕ → Option Descriptor → Type 0
NamesDamaged opened name found = MatchOption (last_key name (said opened.content).entries)
    (MatchBool (is_digest name) (IsLeastOf opened.damaged name found) (found ≡ None))
    (λ (key : Option Descriptor). found ≡ damaged_in opened.damaged key)

-- a reference names no key that is damaged now
abbrev pub NamesNoDamage : Device → OpenedIndex → List ℕ → Type 0
NamesNoDamage dir opened name = (found : Option Descriptor) × NamesDamaged opened name found × IfSome found (λ k. dir.is_honest → is_damaged true dir.file k ≡ false)

-- the last entry with the name is a descriptor, if there is one, and the reference names no key that
-- is damaged now
abbrev pub NamesNothing : Device → OpenedIndex → List ℕ → Type 0
NamesNothing dir opened name = (last_key name (said opened.content).entries ≢ Some None) × NamesNoDamage dir opened name

-- what a reference names cannot be used: the last entry with the name is no descriptor, as the fault
-- says, or the reference names a damaged key with this fault
abbrev pub NamesFaulty : Device → OpenedIndex → List ℕ → LayoutFault → Type 0
NamesFaulty dir opened name e = ((place : ℕ) × NamesUnreadable (said opened.content).entries name place × IsUnreadable place e) ⊎ ((k : Descriptor) × NamesDamaged opened name (Some k) × IsDamageFault dir k e)

-- why a reference of a layout is refused: it does not resolve, and either names nothing, or an entry
-- that is no descriptor, or a damaged key
abbrev pub IsReferenceFault : {D : Type 0} → Device → LayoutState D → List ℕ → ProgramFault → Type 0
IsReferenceFault dir layout name (fault.Reference e) = IsUnresolved layout.graph layout.tags name e × (e ≡ reference.UnknownReference → NamesNothing dir layout.opened name)
IsReferenceFault dir layout name (fault.Layout e) = IsUnresolved layout.graph layout.tags name reference.UnknownReference × NamesFaulty dir layout.opened name e
IsReferenceFault dir layout name other = ⊥

-- ---- the code

-- whether a key has a digest, and is less than another key of it, if there is one
abbrev pub comes_first : Descriptor → List ℕ → Option Descriptor → Bool
comes_first k digest None = bytes_eq k.digest digest
comes_first k digest (Some other) = bytes_eq k.digest digest && is_lt (key_cmp k other)
