-- The layers that keys list and that are not distributed, from what was remembered or read.
use Rattle.std.proofs.Common.{◌≡◌, ℕ, ◌+◌, ◌<◌, Bool, true, false, inl, inr, List, [], ◌∷◌, ◌++◌, length, take, filter, get_or, is_some, Some, sym, ap, subst, ◌∙◌}
use Rattle.std.specs.Prelude.{◌↔◌, Contains}
use Rattle.std.specs.BTreeSet.{BTreeSet, contains}
use Rattle.std.specs.List.Sorted.{IsStrictlySortedBy}
use Rattle.std.proofs.lemmas.List.Elements.{Contains-push, Contains-push_cases, Contains-append_cases, Contains-append_left, Contains-append_right}
use Rattle.std.proofs.lemmas.Map.Views.{btree_set_contains_iff}
use Rattle.oci_manifest.specs.Descriptor.{Descriptor, is_among, key_cmp}
use Rattle.oci_store.specs.Content.{Entry}
use Rattle.oci_store.specs.Graph.{Node}
use Rattle.oci_store.specs.Keyed.{has_key}
use Rattle.oci_store.proofs.KeyOrder.{key_cmp_total, key_cmp_exact}
use Rattle.oci_store.proofs.Lookups.{has_key-same_keys}
use Rattle.oci_store.proofs.Membership.{Contains-from_among, among_from_Contains, among-filter, among_filter_from}
use Rattle.oci_dir.specs.Device.{File}
use Rattle.oci_layout_store.specs.Blobs.{blob_at, stored, keys_of-stored}
use Rattle.oci_layout_store.specs.Stated.{AreUndistributed, ListsLayer}
use Rattle.oci_layout_store.proofs.Stored.{value_at-stored}
use Rattle.oci_prune.specs.Aside.{is_one_of, AreAside, AreListedAside, ArePassedOver, ArePicked, ListsAside}
use Rattle.oci_prune.specs.Attached.{AttachedIn}
use Rattle.oci_prune.specs.Belongs.{AreMembers}
use Rattle.oci_prune.specs.Plan.{AreHeld}
use Rattle.oci_prune.specs.declared.attachments.Attachments.{Attachments}
use Rattle.oci_prune.proofs.Elements.{no_element, next_element}
use Rattle.oci_prune.proofs.Plans.{kept_same, kept_from_reached, reached_from_kept}

abbrev Pair : Type 0
Pair = Descriptor × Descriptor

abbrev Pairs : Type 0
Pairs = List Pair

abbrev Keys : Type 0
Keys = List Descriptor

-- a key that lists a layer is held
held_of : (file : File) (graph : List Node) (k layer : Descriptor) → ListsAside (stored file graph) k layer → has_key graph k ≡ true
held_of file graph k layer lists = has_key-same_keys (stored file graph) graph k (sym (keys_of-stored file graph)) (ap is_some lists.2)

-- ---- what was read

pub aside_of_none : (entries : List Entry) → AreListedAside entries [] []
aside_of_none entries k = (λ c. absurd (no_element k c), λ p. absurd (no_element p.0 p.1))

aside_push : (entries : List Entry) (keys : Keys) (key : Descriptor) (old aside : Keys) → AreListedAside entries keys old → ((k : Descriptor) → Contains aside k ↔ ListsAside entries key k) → AreListedAside entries (keys ++ key ∷ []) (old ++ aside)
aside_push entries keys key old aside h are k = (
  λ c. elim (Contains-append_cases old aside k c) [
    | inl was ↦
        let p = (h k).0 was in
        (p.0, Contains-append_left keys (key ∷ []) p.0 p.1, p.2)
    | inr there ↦ (key, Contains-push keys key, (are k).0 there)
  ],
  λ p. elim (Contains-push_cases keys key p.0 p.1) [
    | inl was ↦ Contains-append_left old aside k ((h k).1 (p.0, was, p.2))
    | inr is ↦ Contains-append_right old aside k ((are k).1 (subst (λ (from : Descriptor). ListsAside entries from k) (sym is) p.2))
  ],
)

-- the layers of one key more
pub aside_of_more : (entries : List Entry) (keys : Keys) (i : ℕ) (key : Descriptor) (old new aside : Keys) → i < length keys → key ≡ get_or keys i key → AreListedAside entries (take i keys) old → new ≡ old ++ aside
    → ((k : Descriptor) → Contains aside k ↔ ListsAside entries key k) → AreListedAside entries (take (i + 1) keys) new
aside_of_more entries keys i key old new aside lt is h grown are =
    subst (λ (ks : Keys). AreListedAside entries ks new) (sym (next_element keys i key lt is)) (subst (λ (ks : Keys). AreListedAside entries (take i keys ++ key ∷ []) ks) (sym grown) (aside_push entries (take i keys) key old aside h are))

-- ---- what was remembered

pub picked_none : (is_one : Descriptor → Bool) → ArePicked is_one [] []
picked_none is_one k = (λ c. absurd (no_element k c), λ p. absurd (no_element (p.0, k) p.2))

picked_push : (is_one : Descriptor → Bool) (pairs : Pairs) (p : Pair) (old : Keys) → is_one p.0 ≡ true → ArePicked is_one pairs old → ArePicked is_one (pairs ++ p ∷ []) (old ++ p.1 ∷ [])
picked_push is_one pairs p old passes are k = (
  λ c. elim (Contains-push_cases old p.1 k c) [
    | inl was ↦
        let r = (are k).0 was in
        (r.0, r.1, Contains-append_left pairs (p ∷ []) (r.0, k) r.2)
    | inr is ↦ (p.0, passes, subst (λ (x : Descriptor). Contains (pairs ++ p ∷ []) (p.0, x)) is (Contains-push pairs p))
  ],
  λ r. elim (Contains-push_cases pairs p (r.0, k) r.2) [
    | inl was ↦ Contains-append_left old (p.1 ∷ []) k ((are k).1 (r.0, r.1, was))
    | inr is ↦ subst (λ (x : Descriptor). Contains (old ++ p.1 ∷ []) x) (ap (λ (q : Pair). q.1) is) (Contains-push old p.1)
  ],
)

picked_skip : (is_one : Descriptor → Bool) (pairs : Pairs) (p : Pair) (old : Keys) → is_one p.0 ≡ false → ArePicked is_one pairs old → ArePicked is_one (pairs ++ p ∷ []) old
picked_skip is_one pairs p old fails are k = (
  λ c.
      let r = (are k).0 c in
      (r.0, r.1, Contains-append_left pairs (p ∷ []) (r.0, k) r.2),
  λ r. elim (Contains-push_cases pairs p (r.0, k) r.2) [
    | inl was ↦ (are k).1 (r.0, r.1, was)
    | inr is ↦ cc (ap is_one (ap (λ (q : Pair). q.0) is), r.1, fails)
  ],
)

-- the next pair, whose first key passes
pub picked_more : (is_one : Descriptor → Bool) (pairs : Pairs) (i : ℕ) (p : Pair) (old new : Keys) → i < length pairs → p ≡ get_or pairs i p → is_one p.0 ≡ true → new ≡ old ++ p.1 ∷ [] → ArePicked is_one (take i pairs) old → ArePicked is_one (take (i + 1) pairs) new
picked_more is_one pairs i p old new lt is passes grown are =
    subst (λ (ps : Pairs). ArePicked is_one ps new) (sym (next_element pairs i p lt is)) (subst (λ (ks : Keys). ArePicked is_one (take i pairs ++ p ∷ []) ks) (sym grown) (picked_push is_one (take i pairs) p old passes are))

-- or does not
pub picked_less : (is_one : Descriptor → Bool) (pairs : Pairs) (i : ℕ) (p : Pair) (old : Keys) → i < length pairs → p ≡ get_or pairs i p → is_one p.0 ≡ false → ArePicked is_one (take i pairs) old → ArePicked is_one (take (i + 1) pairs) old
picked_less is_one pairs i p old lt is fails are = subst (λ (ps : Pairs). ArePicked is_one ps old) (sym (next_element pairs i p lt is)) (picked_skip is_one (take i pairs) p old fails are)

-- what a held key's file lists is what the key lists
aside_in : (file : File) (graph : List Node) (k layer : Descriptor) → ((has_key graph k ≡ true) × ListsLayer k (blob_at file k.digest) layer) ↔ ListsAside (stored file graph) k layer
aside_in file graph k layer = (
  λ p. (_, p.1.0, value_at-stored file graph k p.0, p.1.1, p.1.2),
  λ lists.
      let held = held_of file graph k layer lists in
      let same : lists.0 ≡ blob_at file k.digest = cc (sym lists.2 ∙ value_at-stored file graph k held) in
      (held, subst (λ (bytes : List ℕ). ListsLayer k bytes layer) same (lists.1, lists.3, lists.4)),
)

-- what was picked of the remembered layers are those of the keys that pass
pub picked_aside : (is_one : Descriptor → Bool) (file : File) (graph : List Node) (pairs : Pairs) (keys : Keys) → AreUndistributed file graph pairs → ArePicked is_one pairs keys → AreAside is_one (stored file graph) keys
picked_aside is_one file graph pairs keys are picked k = (
  λ c.
      let r = (picked k).0 c in
      (r.0, r.1, (aside_in file graph r.0 k).0 ((are r.0 k).0 r.2)),
  λ aside. (picked k).1 (aside.0, aside.1, (are aside.0 k).1 ((aside_in file graph aside.0 k).1 aside.2)),
)

-- ---- those of keys that pass a test

-- they are held
pub asked_held : (is_one : Descriptor → Bool) (graph : List Node) (held asked : Keys) → AreHeld graph held → asked ≡ filter is_one held → (k : Descriptor) → Contains asked k → has_key graph k ≡ true
asked_held is_one graph held asked are is k there =
    let among = among-filter is_one held k (subst (λ (ks : Keys). is_among ks k ≡ true) is (among_from_Contains asked k there)) in
    (are.each k).0 (Contains-from_among held k among.1)

-- what the held keys that pass list
pub read_aside : (is_one : Descriptor → Bool) (file : File) (graph : List Node) (held asked listed : Keys) → AreHeld graph held → asked ≡ filter is_one held → AreListedAside (stored file graph) asked listed → AreAside is_one (stored file graph) listed
read_aside is_one file graph held asked listed are is lists k = (
  λ c.
      let p = (lists k).0 c in
      let among = among-filter is_one held p.0 (subst (λ (ks : Keys). is_among ks p.0 ≡ true) is (among_from_Contains asked p.0 p.1)) in
      (p.0, among.0, p.2),
  λ aside.
      let there = among_from_Contains held aside.0 ((are.each aside.0).1 (held_of file graph aside.0 k aside.2)) in
      let asked_for = Contains-from_among asked aside.0 (subst (λ (ks : Keys). is_among ks aside.0 ≡ true) (sym is) (among_filter_from is_one held aside.0 aside.1 there)) in
      (lists k).1 (aside.0, asked_for, aside.2),
)

-- each of them once
pub distinct_aside : (is_one : Descriptor → Bool) (entries : List Entry) (listed layers : Keys) (set : BTreeSet Descriptor) → ((k : Descriptor) → contains key_cmp set k ≡ is_among listed k) → layers ≡ set.keys → AreAside is_one entries listed → AreAside is_one entries layers
distinct_aside is_one entries listed layers set has is are k = (
  λ c.
      let member = (btree_set_contains_iff key_cmp_total key_cmp_exact set k).1 (subst (λ (ks : Keys). Contains ks k) is c) in
      (are k).0 (Contains-from_among listed k (sym (has k) ∙ member)),
  λ aside.
      let member = has k ∙ among_from_Contains listed k ((are k).1 aside) in
      subst (λ (ks : Keys). Contains ks k) (sym is) ((btree_set_contains_iff key_cmp_total key_cmp_exact set k).0 member),
)

-- ---- what is passed over

-- the members to which nothing is attached are what the given keys reach, so what they list aside is what is passed over
pub are_passed_over : (file : File) (graph : List Node) (keys passed : Keys) (attachments : Attachments) (members : BTreeSet Descriptor) → ((k subject : Descriptor) → AttachedIn attachments k subject → ⊥) → AreMembers graph keys (AttachedIn attachments) members
    → AreAside (is_one_of (Some members)) (stored file graph) passed → IsStrictlySortedBy key_cmp passed → ArePassedOver graph (stored file graph) keys passed
are_passed_over file graph keys passed attachments members none are aside sorted = record {
  each = λ k. (
    λ c.
        let a = (aside k).0 c in
        (a.0, (reached_from_kept graph keys a.0 (kept_same graph keys (AttachedIn attachments) (λ _ _. ⊥) none a.0 ((are a.0).0 a.1))).0, a.2),
    λ p. (aside k).1 (p.0, (are p.0).1 (kept_from_reached graph keys (AttachedIn attachments) p.0 p.1 (held_of file graph p.0 k p.2)), p.2),
  );
  order = sorted;
}
