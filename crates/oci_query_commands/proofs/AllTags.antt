-- What `tags` lists.
use Rattle.std.proofs.Common.{◌≡◌, ℕ, Bool, true, false, List, [], ◌++◌, map, filter, Option, String, Global, refl, sym, ap, subst, ◌∙◌, append-nil}
use Rattle.std.specs.Prelude.{◌↔◌, Contains}
use Rattle.std.specs.BTreeSet.{BTreeSet, contains}
use Rattle.std.specs.List.Sorted.{IsStrictlySortedBy}
use Rattle.std.proofs.lemmas.List.Kept.{IsStrictlySortedBy-filter}
use Rattle.std.proofs.lemmas.Map.Views.{btree_set_contains_iff}
use Rattle.oci_layout_store.specs.Entries.{entry_of}
use Rattle.oci_layout_store.specs.Layout.{OpenedIndex}
use Rattle.oci_layout_store.specs.Saved.{unnamed_keys}
use Rattle.oci_layout_store.specs.declared.index.IndexEntry.{IndexEntry as CodeEntry}
use Rattle.oci_manifest.specs.Descriptor.{Descriptor, key_cmp}
use Rattle.oci_store.specs.Graph.{Node}
use Rattle.oci_store.specs.Keyed.{has_key}
use Rattle.oci_store.specs.Tags.{Tags, by_bytes}
use Rattle.oci_store.proofs.KeyOrder.{key_cmp_total, key_cmp_exact}
use Rattle.oci_store.proofs.Membership.{Contains-from_among, among_from_Contains, among-filter, among_filter_from}
use Rattle.oci_query_commands.specs.Listed.{named_listing, unnamed_listing, AreTags}

sorted_none : IsStrictlySortedBy {K = Descriptor} key_cmp []
unfolding IsStrictlySortedBy
sorted_none = tt

-- the tags alone
pub only_named : (graph : List Node) (tags : Tags) (index : OpenedIndex) (lists_all : Bool) (found : List (Option (List ℕ) × Descriptor)) (named : List (String Global × Descriptor)) → lists_all ≡ false
    → found ≡ map named_listing (by_bytes named) → by_bytes named ≡ tags → AreTags graph tags index lists_all found
only_named graph tags index lists_all found named all listed are = record {
  unnamed = [];
  listed = listed ∙ ap (map named_listing) are ∙ sym (append-nil (map named_listing tags));
  none = λ _. refl;
  each = λ some. cc (sym all ∙ some);
  order = sorted_none;
}

-- the keys of a set that are held
held_in_set : (graph : List Node) (entries : List CodeEntry) (set : BTreeSet Descriptor) (keys : List Descriptor) → ((k : Descriptor) → (contains key_cmp set k ≡ true) ↔ Contains (unnamed_keys (map entry_of entries)) k) → keys ≡ set.keys
    → (k : Descriptor) → Contains (filter (has_key graph) keys) k ↔ ((has_key graph k ≡ true) × Contains (unnamed_keys (map entry_of entries)) k)
held_in_set graph entries set keys has e k =
    let iff = btree_set_contains_iff key_cmp_total key_cmp_exact set k in (
      λ c.
          let p = among-filter (has_key graph) keys k (among_from_Contains (filter (has_key graph) keys) k c) in
          (p.0, (has k).0 (iff.1 (subst (λ (ks : List Descriptor). Contains ks k) e (Contains-from_among keys k p.1)))),
      λ h.
          let there : Contains keys k = subst (λ (ks : List Descriptor). Contains ks k) (sym e) (iff.0 ((has k).1 h.1)) in
          Contains-from_among (filter (has_key graph) keys) k (among_filter_from (has_key graph) keys k h.0 (among_from_Contains keys k there)),
    )

-- the tags, and the held keys of the entries without a name
pub all_listed : (graph : List Node) (tags : Tags) (index : OpenedIndex) (lists_all : Bool) (before found : List (Option (List ℕ) × Descriptor)) (named : List (String Global × Descriptor)) (entries : List CodeEntry) (set : BTreeSet Descriptor) (keys : List Descriptor) → lists_all ≡ true
    → before ≡ map named_listing (by_bytes named) → by_bytes named ≡ tags
    → ((k : Descriptor) → (contains key_cmp set k ≡ true) ↔ Contains (unnamed_keys (map entry_of entries)) k) → entries ≡ index.content.entries → keys ≡ set.keys → IsStrictlySortedBy key_cmp keys
    → found ≡ before ++ map unnamed_listing (filter (has_key graph) keys) → AreTags graph tags index lists_all found
all_listed graph tags index lists_all before found named entries set keys all listed are has same e order grown = record {
  unnamed = filter (has_key graph) keys;
  listed = grown ∙ ap (λ (ls : List (Option (List ℕ) × Descriptor)). ls ++ map unnamed_listing (filter (has_key graph) keys)) (listed ∙ ap (map named_listing) are);
  none = λ no. cc (sym all ∙ no);
  each = λ _ k. subst (λ (es : List CodeEntry). Contains (filter (has_key graph) keys) k ↔ ((has_key graph k ≡ true) × Contains (unnamed_keys (map entry_of es)) k)) same (held_in_set graph entries set keys has e k);
  order = IsStrictlySortedBy-filter key_cmp (has_key graph) keys order;
}
