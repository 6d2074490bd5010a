-- One visited key: what its checks, its fetch and its reading say of it.
use Rattle.std.proofs.Common.{◌≡◌, ◌≢◌, ℕ, true, false, inl, inr, List, [], ◌∷◌, Option, Some, None, Result, Ok, Err, refl, sym, ap, ◌∙◌}
use Rattle.std.specs.Prelude.{option_map, is_some, unwrap_or}
use Rattle.std.specs.Result.{result_unwrap_or}
use Rattle.std.proofs.lemmas.Bool.{cases_Bool}
use Rattle.oci_manifest.specs.Descriptor.{Descriptor, same_key}
use Rattle.oci_manifest.specs.Fault.{Fault, Fails, IsFault}
use Rattle.oci_manifest.specs.declared.fault.ManifestFault.{ManifestFault}
use Rattle.oci_manifest.specs.declared.fault.ManifestFault.TheVariants as reading
use Rattle.oci_manifest.specs.MediaTypes.{kind_of}
use Rattle.oci_manifest.specs.Reading.{successors_of}
use Rattle.oci_manifest.specs.declared.kind.Kind.{Kind}
use Rattle.oci_manifest.specs.declared.kind.Kind.TheVariants.{Leaf}
use Rattle.oci_manifest.proofs.Keys.{Decides-same_key}
use Rattle.oci_manifest.proofs.Laws.{successors_of-distinct}
use Rattle.oci_store.specs.Keyed.{value_at, has_key}
use Rattle.oci_store.specs.Content.{Entry, Matches, succ_of, successors_in}
use Rattle.oci_store.specs.Graph.{nodes_of}
use Rattle.oci_store.specs.State.{State}
use Rattle.oci_store.specs.declared.fault.FetchFault.{FetchFault}
use Rattle.oci_store.specs.declared.fault.FetchFault.TheVariants as fetch
use Rattle.oci_store.proofs.Membership.{Contains-from_among, All-from_among}
use Rattle.oci_plan.specs.Met.{IsListedUnder}
use Rattle.oci_plan.specs.Visiting.{successors_at, IsWithin}
use Rattle.oci_plan.specs.Refusal.{IsTrueOfKey, IsUnread}
use Rattle.oci_plan.specs.Walk.{IsListing, IsPassed, fetch_refusal, read_refusal}

-- ---- the source's content under a key

-- the node of a key has what the bytes under it list
pub value_at-nodes_of : (entries : List Entry) (k : Descriptor) → value_at (nodes_of entries) k ≡ option_map (successors_in k) (value_at entries k)
value_at-nodes_of [] k = refl
value_at-nodes_of (e ∷ entries) k =
    elim (cases_Bool (same_key e.0 k)) [
      | inl same ↦
          let key = (Decides-same_key e.0 k).0 same in
          let here : Some (successors_in e.0 e.1) ≡ Some (successors_in k e.1) = ap (λ (x : Descriptor). Some (successors_in x e.1)) key in
          rw same here
      | inr other ↦ rw other (value_at-nodes_of entries k)
    ]

-- what the bytes under a key list is what the source lists there
pub successors_at-nodes_of : (entries : List Entry) (k : Descriptor) (bytes : List ℕ) (ks : List Descriptor) → value_at entries k ≡ Some bytes → succ_of k bytes ≡ Ok ks → successors_at (nodes_of entries) k ≡ ks
successors_at-nodes_of entries k bytes ks at reads =
    ap (λ (o : Option (List Descriptor)). unwrap_or o []) (value_at-nodes_of entries k ∙ ap (option_map (successors_in k)) at)
    ∙ ap (λ (r : Result (List Descriptor) Fault). result_unwrap_or r []) reads

-- ---- refusals

-- a refused fetch of a held key is told of it
pub fetch_refused : (source : State) (limit : ℕ) (k : Descriptor) (f : FetchFault) → kind_of k.media_type ≢ Leaf → IsWithin limit k → has_key source.entries k ≡ true
    → (f ≡ fetch.NotFound → has_key source.entries k ≡ false) → (f ≡ fetch.Corrupt → source.fails_at k ≡ true) → (f ≡ fetch.Corrupt → source.is_sound → ⊥) → (f ≡ fetch.Device → source.fails_at k ≡ true)
    → IsTrueOfKey source limit k (fetch_refusal k f)
fetch_refused source limit k fetch.NotFound manifest within there gone corrupt unsound device = record { cause = (within, gone refl); named = refl }
fetch_refused source limit k fetch.Corrupt manifest within there gone corrupt unsound device = record { cause = (manifest, within, there, corrupt refl, unsound refl); named = refl }
fetch_refused source limit k fetch.Device manifest within there gone corrupt unsound device = record { cause = (manifest, within, there, device refl, tt); named = refl }
fetch_refused source limit k fetch.Memory manifest within there gone corrupt unsound device = record { cause = tt; named = tt }

-- bytes of a held key that do not read are told of it
pub read_refused : (source : State) (limit : ℕ) (k : Descriptor) (bytes : List ℕ) (f : ManifestFault) → IsWithin limit k → has_key source.entries k ≡ true
    → Matches k bytes → (source.is_honest → value_at source.entries k ≡ Some bytes) → Fails f (succ_of k bytes) → IsTrueOfKey source limit k (read_refusal k f)
read_refused source limit k bytes f within there matching own h = go f h
  where
    unread : (f : ManifestFault) (cause : Fault) → succ_of k bytes ≡ Err cause → IsFault f cause → IsUnread source.is_honest source.entries k f
    unread f cause breaks tells = record { bytes = bytes; cause = cause; matching = matching; own = own; breaks = breaks; tells = tells }

    go : (f : ManifestFault) → Fails f (succ_of k bytes) → IsTrueOfKey source limit k (read_refusal k f)
    go reading.NotJson h = record { cause = (within, there, unread reading.NotJson _ h refl); named = refl }
    go reading.NotObject h = record { cause = (within, there, unread reading.NotObject _ h refl); named = refl }
    go reading.NoConfig h = record { cause = (within, there, unread reading.NoConfig _ h refl); named = refl }
    go (reading.BadList member) h = record { cause = (within, there, unread (reading.BadList member) _ h refl); named = refl }
    go (reading.BadDescriptor member position) h = record { cause = (within, there, unread (reading.BadDescriptor member position) _ h refl); named = refl }
    go reading.Memory h = record { cause = tt; named = tt }

-- ---- what a visited key lists

held_bytes : (entries : List Entry) (k : Descriptor) → has_key entries k ≡ true → (bytes : List ℕ) × (value_at entries k ≡ Some bytes)
held_bytes entries k h = go (value_at entries k) refl h
  where
    go : (o : Option (List ℕ)) → o ≡ value_at entries k → is_some o ≡ true → (bytes : List ℕ) × (value_at entries k ≡ Some bytes)
    go (Some bytes) e h = (bytes, sym e)
    go None e h = cc h

leaf_reads : (k : Descriptor) (bytes : List ℕ) → kind_of k.media_type ≡ Leaf → succ_of k bytes ≡ Ok []
unfolding successors_of
leaf_reads k bytes leaf = ap (λ (kind : Kind). successors_of kind bytes) leaf

pub leaf_passed : (honest : Type 0) (entries : List Entry) (limit : ℕ) (k : Descriptor) → kind_of k.media_type ≡ Leaf → has_key entries k ≡ true → IsWithin limit k → IsPassed honest entries limit k
leaf_passed honest entries limit k leaf there within =
    let it = held_bytes entries k there in
    record { there = there; within = within; reads = λ _. (it.0, [], it.1, leaf_reads k it.0 leaf) }

pub leaf_lists : (entries : List Entry) (k : Descriptor) → kind_of k.media_type ≡ Leaf → has_key entries k ≡ true → [] ≡ successors_at (nodes_of entries) k
leaf_lists entries k leaf there =
    let it = held_bytes entries k there in
    sym (successors_at-nodes_of entries k it.0 [] it.1 (leaf_reads k it.0 leaf))

absent_bytes : (entries : List Entry) (k : Descriptor) → has_key entries k ≡ false → value_at entries k ≡ None
absent_bytes entries k h = go (value_at entries k) refl h
  where
    go : (o : Option (List ℕ)) → o ≡ value_at entries k → is_some o ≡ false → value_at entries k ≡ None
    go (Some bytes) e h = cc h
    go None e h = sym e

-- a key that the source does not have lists nothing
pub absent_lists : (entries : List Entry) (k : Descriptor) → has_key entries k ≡ false → [] ≡ successors_at (nodes_of entries) k
absent_lists entries k h = sym (ap (λ (o : Option (List Descriptor)). unwrap_or o []) (value_at-nodes_of entries k ∙ ap (option_map (successors_in k)) (absent_bytes entries k h)))

-- what a key's bytes list, and that it passed its checks
pub record IsItemRead (source : State) (limit : ℕ) (k : Descriptor) (keys : List Descriptor) : Type 0 where
  pub passed : IsPassed source.is_honest source.entries limit k
  pub listing : IsListing source k keys

pub item_read : (source : State) (limit : ℕ) (k : Descriptor) (bytes : List ℕ) (keys : List Descriptor)
    → IsWithin limit k → has_key source.entries k ≡ true → Matches k bytes → (source.is_honest → value_at source.entries k ≡ Some bytes) → succ_of k bytes ≡ Ok keys → IsItemRead source limit k keys
item_read source limit k bytes keys within there matching own reads = record {
  passed = record { there = there; within = within; reads = λ h. (bytes, keys, own h, reads) };
  listing = record {
    listed = λ h. sym (successors_at-nodes_of source.entries k bytes keys (own h) reads);
    under = All-from_among (IsListedUnder source.entries k) keys (λ to listed. record { there = there; bytes = bytes; listed = keys; checked = record { matching = matching; reads = reads }; lists = Contains-from_among keys to listed });
    distinct = successors_of-distinct (kind_of k.media_type) bytes keys reads;
  };
}
