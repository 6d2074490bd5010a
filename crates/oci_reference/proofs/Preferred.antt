-- The key that a digest names: a manifest rather than a leaf.
use Rattle.std.proofs.Common.{◌≡◌, ◌≢◌, ℕ, ◌+◌, ◌<◌, Bool, true, false, inl, inr, List, [], ◌∷◌, ◌++◌, length, take, Greater, Option, Some, None, option_map, slice_get, String, Global, string_bytes, is_some, refl, sym, ap, subst, ◌∙◌}
use Rattle.std.specs.Prelude.{Contains, MatchOption}
use Rattle.std.specs.List.{All, list_any}
use Rattle.std.specs.Map.{keys_of}
use Rattle.std.specs.Str.{bytes_eq}
use Rattle.std.proofs.lemmas.Bool.{cases_Bool}
use Rattle.std.proofs.lemmas.List.Elements.{All-filter, filter-append}
use Rattle.oci_manifest.specs.Descriptor.{Descriptor, key_cmp}
use Rattle.oci_manifest.specs.MediaTypes.{kind_of}
use Rattle.oci_store.specs.Graph.{Node}
use Rattle.oci_store.specs.Keyed.{has_key}
use Rattle.oci_store.specs.Tags.{by_bytes, tag_at, IsLeastWith}
use Rattle.oci_store.proofs.Lookups.{has_key-from_Contains}
use Rattle.oci_store.proofs.Membership.{Contains-from_among, among_from_Contains, among-filter, among_filter_from}
use Rattle.oci_layout_store.specs.Layout.{is_manifest, manifests_of}
use Rattle.oci_layout_store.proofs.Loose.{keys-more}
use Rattle.oci_reference.specs.Reference.{IsNamedBy}

-- ---- manifests among keys

abbrev of_manifest : Descriptor → Bool
of_manifest k = is_manifest (kind_of k.media_type)

manifest_in : (keys : List Descriptor) (k : Descriptor) → Contains keys k → of_manifest k ≡ true → Contains (manifests_of keys) k
manifest_in keys k there is = Contains-from_among (manifests_of keys) k (among_filter_from of_manifest keys k is (among_from_Contains keys k there))

pub manifest_held : (graph : List Node) (k : Descriptor) → Contains (manifests_of (keys_of graph)) k → has_key graph k ≡ true
manifest_held graph k there = has_key-from_Contains graph k (Contains-from_among (keys_of graph) k (among-filter of_manifest (keys_of graph) k (among_from_Contains (manifests_of (keys_of graph)) k there)).1)

-- the manifests found so far, and of one key more
pub manifests_more : (graph : List Node) (i : ℕ) (k : Descriptor) (old new : List Descriptor) → i < length graph → option_map (λ (n : Node). n.0) (slice_get graph i) ≡ Some k → old ≡ manifests_of (keys_of (take i graph))
    → new ≡ old ++ manifests_of (k ∷ []) → new ≡ manifests_of (keys_of (take (i + 1) graph))
manifests_more graph i k old new lt at before grown =
    grown
    ∙ ap (λ (ks : List Descriptor). ks ++ manifests_of (k ∷ [])) before
    ∙ sym (filter-append of_manifest (keys_of (take i graph)) (k ∷ []))
    ∙ ap manifests_of (sym (keys-more graph i k lt at))

-- ---- tags

pub any_tag : (name : List ℕ) (tags : List (String Global × Descriptor)) → list_any (λ t. bytes_eq name (string_bytes t.0)) tags ≡ is_some (tag_at (by_bytes tags) name)
any_tag name [] = refl
any_tag name (t ∷ tags) =
    elim (cases_Bool (bytes_eq name (string_bytes t.0))) [
      | inl hit ↦ rw hit refl
      | inr miss ↦ rw miss (any_tag name tags)
    ]

-- ---- the key of a reference, by the key of the tag, if there is one

-- a reference that resolves to a manifest names it
pub names_manifest : (keys : List Descriptor) (reference : List ℕ) (k : Descriptor) (tag : Option Descriptor) → of_manifest k ≡ true → MatchOption tag (IsLeastWith keys reference k) (λ t. k ≡ t) → MatchOption tag (IsNamedBy keys reference k) (λ t. k ≡ t)
names_manifest keys reference k None is h = inl (record {
  there = manifest_in keys k h.there is;
  same_digest = h.same_digest;
  least = All-filter of_manifest (λ (other : Descriptor). other.digest ≡ reference → key_cmp k other ≢ Greater) keys h.least;
})
names_manifest keys reference k (Some t) is h = h

-- a tag names its key
pub names_tagged : (keys : List Descriptor) (reference : List ℕ) (k : Descriptor) (tag : Option Descriptor) → is_some tag ≡ true → MatchOption tag (IsLeastWith keys reference k) (λ t. k ≡ t) → MatchOption tag (IsNamedBy keys reference k) (λ t. k ≡ t)
names_tagged keys reference k None is h = cc is
names_tagged keys reference k (Some t) is h = h

-- a digest names the least manifest that has it
pub names_least : (keys : List Descriptor) (reference : List ℕ) (k m : Descriptor) (tag : Option Descriptor) → is_some tag ≡ false → MatchOption tag (IsLeastWith keys reference k) (λ t. k ≡ t) → IsLeastWith (manifests_of keys) k.digest m
    → MatchOption tag (IsNamedBy keys reference m) (λ t. m ≡ t)
names_least keys reference k m None is h least = inl (subst (λ (digest : List ℕ). IsLeastWith (manifests_of keys) digest m) h.same_digest least)
names_least keys reference k m (Some t) is h least = cc is

-- a digest that no manifest has names the least key that has it
pub names_leaf : (keys : List Descriptor) (reference : List ℕ) (k : Descriptor) (tag : Option Descriptor) → is_some tag ≡ false → MatchOption tag (IsLeastWith keys reference k) (λ t. k ≡ t) → All (λ (m : Descriptor). m.digest ≢ k.digest) (manifests_of keys)
    → MatchOption tag (IsNamedBy keys reference k) (λ t. k ≡ t)
names_leaf keys reference k None is h none = inr (subst (λ (digest : List ℕ). All (λ (m : Descriptor). m.digest ≢ digest) (manifests_of keys)) h.same_digest none, h)
names_leaf keys reference k (Some t) is h none = cc is
