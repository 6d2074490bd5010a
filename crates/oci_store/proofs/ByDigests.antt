-- Keys by their digests, one key at a time.
use Rattle.std.proofs.Common.{◌≡◌, ◌≢◌, ℕ, zero, suc, ◌==◌, Bool, true, false, cond, not, ◌&&◌, ◌||◌, inl, inr, List, [], ◌∷◌, Less, Equal, Greater, Some, None, refl, sym, ap, subst, ◌∙◌, rules, arith}
use Rattle.std.specs.Prelude.{Contains}
use Rattle.std.specs.BTreeMap.Range.{range_contains}
use Rattle.std.specs.BTreeSet.{BTreeSet, contains}
use Rattle.std.specs.Cmp.{IsTotalOrder, nat_cmp_is}
use Rattle.std.specs.Cmp.Lexicographic.{slice_cmp}
use Rattle.std.specs.Cmp.Rules.{comparing}
use Rattle.std.specs.declared.cmp.Ordering.{Ordering}
use Rattle.std.specs.declared.ops.Bound.TheVariants.{Included, Unbounded}
use Rattle.std.specs.List.{All, filter}
use Rattle.std.specs.List.Sorted.{IsStrictlySortedBy}
use Rattle.std.specs.Map.{keys_of}
use Rattle.std.specs.Ordering.{nat_cmp, is_eq, is_gt, is_le, ordering_then, ordering_reverse}
use Rattle.std.specs.Str.{bytes_eq}
use Rattle.std.proofs.lemmas.Bool.{not-false, cases_Bool}
use Rattle.std.proofs.lemmas.Cmp.{tied_itself}
use Rattle.std.proofs.lemmas.List.Elements.{All-nil, All-cons, All-weaker, All-contains, All-contains_itself, All-from_recursion, Contains-append_left, Contains-append_right, Contains-push}
use Rattle.std.proofs.lemmas.Map.Lookups.{CmpEqualImpliesEq}
use Rattle.std.proofs.lemmas.Map.Views.{btree_set_contains_iff}
use Rattle.std.proofs.lemmas.Slice.Eq.{bytes_eq-Decides}
use Rattle.oci_manifest.specs.Descriptor.{Descriptor, same_key, key_cmp}
use Rattle.oci_store.specs.ByDigest.{digest_cmp, same_by_digest, AreKeysOf}
use Rattle.oci_store.specs.Graph.{Node}
use Rattle.oci_store.specs.Tags.{IsLeastOf}
use Rattle.oci_store.proofs.KeyOrder.{cond-or, tied}
use Rattle.oci_store.proofs.Lookups.{has_key-from_Contains, Contains-from_has_key}

-- ---- the order
bytes_total : IsTotalOrder (slice_cmp nat_cmp)
bytes_total = search (comparing, rules)

digest_cmp_total : IsTotalOrder digest_cmp
digest_cmp_total = search (comparing, rules)

is_eq-bytes : (x y : List ℕ) → is_eq (slice_cmp nat_cmp x y) ≡ bytes_eq x y
is_eq-bytes = search (comparing, rules)

is_eq-parts : (a b : Descriptor) → is_eq (digest_cmp a b) ≡ same_by_digest a b
is_eq-parts = search (comparing, rules)

-- the parts may be looked at in another order
same_by_digest-same_key : (a b : Descriptor) → same_by_digest a b ≡ same_key a b
same_by_digest-same_key a b = turned (bytes_eq a.digest b.digest) (bytes_eq a.media_type b.media_type) (a.size == b.size)
  where
    turned : (d m s : Bool) → (d && m && s) ≡ (m && d && s)
    turned true true s = refl
    turned true false s = refl
    turned false true s = refl
    turned false false s = refl

-- the order ties equal keys alone
is_eq-digest_cmp : (a b : Descriptor) → is_eq (digest_cmp a b) ≡ same_key a b
is_eq-digest_cmp a b = is_eq-parts a b ∙ same_by_digest-same_key a b

digest_cmp_exact : CmpEqualImpliesEq digest_cmp
digest_cmp_exact a b h = tied a b (sym (is_eq-digest_cmp a b) ∙ ap is_eq h)

-- ---- a set with one key more, or less
pub in_more : (set new : BTreeSet Descriptor) (k : Descriptor) → ((other : Descriptor) → contains digest_cmp new other ≡ cond (is_eq (digest_cmp k other)) true (contains digest_cmp set other))
    → (other : Descriptor) → contains digest_cmp new other ≡ (contains digest_cmp set other || same_key k other)
in_more set new k h other =
    h other ∙ ap (λ (b : Bool). cond b true (contains digest_cmp set other)) (is_eq-digest_cmp k other) ∙ cond-or (same_key k other) (contains digest_cmp set other)

pub in_less : (set new : BTreeSet Descriptor) (k : Descriptor) → ((other : Descriptor) → contains digest_cmp new other ≡ cond (is_eq (digest_cmp k other)) false (contains digest_cmp set other))
    → (other : Descriptor) → contains digest_cmp new other ≡ (contains digest_cmp set other && not (same_key k other))
in_less set new k h other =
    h other ∙ ap (λ (b : Bool). cond b false (contains digest_cmp set other)) (is_eq-digest_cmp k other) ∙ swap (same_key k other) (contains digest_cmp set other)
  where
    swap : (a b : Bool) → cond a false b ≡ (b && not a)
    swap true true = refl
    swap true false = refl
    swap false true = refl
    swap false false = refl

-- ---- the first key of a digest
-- no key of the digest is before this one
abbrev pub first_of : List ℕ → Descriptor
first_of digest = record { media_type = []; digest = digest; size = 0 }

at_first : (m : List ℕ) (n : ℕ) → is_gt (ordering_then (slice_cmp nat_cmp [] m) (nat_cmp 0 n)) ≡ false
at_first [] zero = ap is_gt (sym (nat_cmp_is 0 0 Equal refl))
at_first [] (suc n) = ap is_gt (sym (nat_cmp_is 0 (suc n) Less (omega arith)))
at_first (c ∷ m) n = refl

pub not_before_first : (digest : List ℕ) (k : Descriptor) → k.digest ≡ digest → is_gt (digest_cmp (first_of digest) k) ≡ false
not_before_first digest k same =
    let level : slice_cmp nat_cmp digest k.digest ≡ Equal = ap (slice_cmp nat_cmp digest) same ∙ tied_itself bytes_total digest in
    ap (λ (o : Ordering). is_gt (ordering_then (ordering_then o (slice_cmp nat_cmp [] k.media_type)) (nat_cmp 0 k.size))) level ∙ at_first k.media_type k.size

front : (a b : Ordering) → is_gt (ordering_then a b) ≡ false → is_gt a ≡ false
front Less b h = refl
front Equal b h = refl
front Greater b h = h

level_from : (o : Ordering) → is_gt o ≡ false → is_gt (ordering_reverse o) ≡ false → o ≡ Equal
level_from Less a b = cc b
level_from Equal a b = refl
level_from Greater a b = cc a

-- a key between two of a digest has the digest
between : (digest : List ℕ) (k other : Descriptor) → is_gt (digest_cmp (first_of digest) k) ≡ false → is_gt (digest_cmp k other) ≡ false → other.digest ≡ digest → k.digest ≡ digest
between digest k other low high same =
    let one : is_gt (slice_cmp nat_cmp digest k.digest) ≡ false = front _ _ (front _ _ low) in
    let two : is_gt (slice_cmp nat_cmp k.digest digest) ≡ false = subst (λ (d : List ℕ). is_gt (slice_cmp nat_cmp k.digest d) ≡ false) same (front _ _ (front _ _ high)) in
    let level = level_from (slice_cmp nat_cmp digest k.digest) one (ap is_gt (sym (bytes_total.antisymm k.digest digest)) ∙ two) in
    sym ((bytes_eq-Decides digest k.digest).0 (sym (is_eq-bytes digest k.digest) ∙ ap is_eq level))

-- of one digest the order is that of keys
in_key_order : (k other : Descriptor) → k.digest ≡ other.digest → is_gt (digest_cmp k other) ≡ false → key_cmp k other ≢ Greater
in_key_order k other same h greater =
    let level : slice_cmp nat_cmp k.digest other.digest ≡ Equal = ap (slice_cmp nat_cmp k.digest) (sym same) ∙ tied_itself bytes_total k.digest in
    let by_digest = ap (λ (o : Ordering). ordering_then (ordering_then o (slice_cmp nat_cmp k.media_type other.media_type)) (nat_cmp k.size other.size)) level in
    let by_key = ap (λ (o : Ordering). ordering_then (slice_cmp nat_cmp k.media_type other.media_type) (ordering_then o (nat_cmp k.size other.size))) level in
    let kept : is_gt (key_cmp k other) ≡ false = ap is_gt (by_key ∙ sym by_digest) ∙ h in
    cc (sym (ap is_gt greater) ∙ kept)

-- ---- the first key that passes a test, which each key of a digest passes
abbrev Apart : List ℕ → Descriptor → Type 0
Apart digest k = k.digest ≢ digest

abbrev NotBelow : List ℕ → Descriptor → Descriptor → Type 0
NotBelow digest k other = other.digest ≡ digest → is_gt (digest_cmp k other) ≡ false

abbrev NotAfter : List ℕ → Descriptor → Descriptor → Type 0
NotAfter digest k other = other.digest ≡ digest → key_cmp k other ≢ Greater

abbrev pub AllPassOf : List ℕ → (Descriptor → Bool) → Type 0
AllPassOf digest p = (k : Descriptor) → k.digest ≡ digest → p k ≡ true

none_passes : (digest : List ℕ) (p : Descriptor → Bool) → AllPassOf digest p → (ks : List Descriptor) → filter p ks ≡ [] → All (Apart digest) ks
none_passes digest p pass [] h = All-nil (Apart digest)
none_passes digest p pass (k ∷ ks) h =
    elim (cases_Bool (p k)) [
      | inl hit ↦ cc (rw hit at h)
      | inr miss ↦ All-cons (Apart digest) k ks (λ e. cc (sym miss ∙ pass k e)) (none_passes digest p pass ks (rw miss at h))
    ]

record IsHead (digest : List ℕ) (p : Descriptor → Bool) (ks : List Descriptor) (k : Descriptor) : Type 0 where
  there : Contains ks k
  passes : p k ≡ true
  below : All (NotBelow digest k) ks

head_of : (digest : List ℕ) (p : Descriptor → Bool) → AllPassOf digest p → (ks : List Descriptor) → IsStrictlySortedBy digest_cmp ks
    → (k : Descriptor) (rest : List Descriptor) → filter p ks ≡ k ∷ rest → IsHead digest p ks k
unfolding IsStrictlySortedBy
head_of digest p pass [] sorted k rest h = cc h
head_of digest p pass (x ∷ ks) sorted k rest h =
    elim (cases_Bool (p x)) [
      | inl hit ↦
          let e : x ≡ k = cc (rw hit at h) in
          subst (IsHead digest p (x ∷ ks)) e (record {
            there = Contains-append_left (x ∷ []) ks x (Contains-push [] x);
            passes = hit;
            below = All-cons (NotBelow digest x) x ks (λ _. ap is_gt (tied_itself digest_cmp_total x))
                (All-weaker (λ (y : Descriptor). digest_cmp x y ≡ Less) (NotBelow digest x) (λ y less _. ap is_gt less) ks (All-from_recursion (λ (y : Descriptor). digest_cmp x y ≡ Less) ks sorted.0));
          })
      | inr miss ↦
          let rest_of = head_of digest p pass ks sorted.1 k rest (rw miss at h) in
          record {
            there = Contains-append_right (x ∷ []) ks k rest_of.there;
            passes = rest_of.passes;
            below = All-cons (NotBelow digest k) x ks (λ e. cc (sym miss ∙ pass x e)) rest_of.below;
          }
    ]

-- ---- a range that begins at the first key of a digest
abbrev pub from_key : Descriptor → Descriptor → Bool
from_key first k = range_contains digest_cmp (Included first) Unbounded k

pub all_pass : (digest : List ℕ) (first : Descriptor) → first ≡ first_of digest → AllPassOf digest (from_key first)
all_pass digest first e k same = subst (λ (x : Descriptor). from_key x k ≡ true) (sym e) (at_most (digest_cmp (first_of digest) k) (not_before_first digest k same))
  where
    at_most : (o : Ordering) → is_gt o ≡ false → (is_le o && not false) ≡ true
    at_most Less h = refl
    at_most Equal h = refl
    at_most Greater h = cc h

pub none_below : (digest : List ℕ) (first : Descriptor) → first ≡ first_of digest → (k : Descriptor) → from_key first k ≡ true → is_gt (digest_cmp (first_of digest) k) ≡ false
none_below digest first e k h = not_above (digest_cmp (first_of digest) k) (subst (λ (x : Descriptor). from_key x k ≡ true) e h)
  where
    not_above : (o : Ordering) → (is_le o && not false) ≡ true → is_gt o ≡ false
    not_above Less h = refl
    not_above Equal h = refl
    not_above Greater h = cc h

-- ---- against the graph
in_set : (graph : List Node) (set : BTreeSet Descriptor) → AreKeysOf graph set → (k : Descriptor) → Contains (keys_of graph) k → Contains set.keys k
in_set graph set are k h = (btree_set_contains_iff digest_cmp_total digest_cmp_exact set k).0 (are k ∙ has_key-from_Contains graph k h)

in_graph : (graph : List Node) (set : BTreeSet Descriptor) → AreKeysOf graph set → (k : Descriptor) → Contains set.keys k → Contains (keys_of graph) k
in_graph graph set are k h = Contains-from_has_key graph k (sym (are k) ∙ (btree_set_contains_iff digest_cmp_total digest_cmp_exact set k).1 h)

all_in_graph : (P : Descriptor → Type 0) (graph : List Node) (set : BTreeSet Descriptor) → AreKeysOf graph set → All P set.keys → All P (keys_of graph)
all_in_graph P graph set are h =
    All-weaker (Contains (keys_of graph)) P (λ k c. All-contains P set.keys k h (in_set graph set are k c)) (keys_of graph) (All-contains_itself (keys_of graph))

-- where no key passes, none has the digest
pub IsLeastOf-none : (digest : List ℕ) (p : Descriptor → Bool) → AllPassOf digest p → (graph : List Node) (set : BTreeSet Descriptor) → AreKeysOf graph set → filter p set.keys ≡ [] → IsLeastOf (keys_of graph) digest None
IsLeastOf-none digest p pass graph set are none = all_in_graph (Apart digest) graph set are (none_passes digest p pass set.keys none)

-- where the first key that passes has another digest, none has the digest
pub IsLeastOf-other : (digest : List ℕ) (p : Descriptor → Bool) → AllPassOf digest p → ((k : Descriptor) → p k ≡ true → is_gt (digest_cmp (first_of digest) k) ≡ false)
    → (graph : List Node) (set : BTreeSet Descriptor) → AreKeysOf graph set → IsStrictlySortedBy digest_cmp set.keys
    → (k : Descriptor) (rest : List Descriptor) → filter p set.keys ≡ k ∷ rest → k.digest ≢ digest → IsLeastOf (keys_of graph) digest None
IsLeastOf-other digest p pass low graph set are sorted k rest first apart =
    let head = head_of digest p pass set.keys sorted k rest first in
    all_in_graph (Apart digest) graph set are
    (All-weaker (NotBelow digest k) (Apart digest) (λ other below same. apart (between digest k other (low k head.passes) (below same) same)) set.keys head.below)

-- where it has the digest, it is the least
pub IsLeastOf-head : (digest : List ℕ) (p : Descriptor → Bool) → AllPassOf digest p → (graph : List Node) (set : BTreeSet Descriptor) → AreKeysOf graph set → IsStrictlySortedBy digest_cmp set.keys
    → (k : Descriptor) (rest : List Descriptor) → filter p set.keys ≡ k ∷ rest → k.digest ≡ digest → IsLeastOf (keys_of graph) digest (Some k)
IsLeastOf-head digest p pass graph set are sorted k rest first same =
    let head = head_of digest p pass set.keys sorted k rest first in
    record {
      there = in_graph graph set are k head.there;
      same_digest = same;
      least = all_in_graph (NotAfter digest k) graph set are
          (All-weaker (NotBelow digest k) (NotAfter digest k) (λ other below e. in_key_order k other (same ∙ sym e) (below e)) set.keys head.below);
    }

-- ---- what `!=` of two digests says
pub ne_apart : (x y : List ℕ) (b : Bool) → b ≡ not (bytes_eq x y) → b ≡ true → x ≢ y
ne_apart x y b h t e = cc (sym h ∙ t, ap not ((bytes_eq-Decides x y).1 e))

pub ne_same : (x y : List ℕ) (b : Bool) → b ≡ not (bytes_eq x y) → b ≡ false → x ≡ y
ne_same x y b h f = (bytes_eq-Decides x y).0 (not-false (bytes_eq x y) (sym h ∙ f))
