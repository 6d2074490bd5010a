-- Lemmas about the roots of a copy with what is attached to them, and about the tags that come along.
use Rattle.std.proofs.Common.{◌≡◌, ◌≢◌, ℕ, ◌<◌, Bool, true, List, [], ◌∷◌, ◌++◌, length, get_or, filter, Some, None, inl, inr, refl, sym, ap, subst, ◌∙◌}
use Rattle.std.specs.Prelude.{◌↔◌, Contains}
use Rattle.std.specs.BTreeMap.{is_at}
use Rattle.std.specs.BTreeSet.{BTreeSet, contains}
use Rattle.std.specs.List.{All}
use Rattle.std.specs.Map.{keys_of, values_of}
use Rattle.std.specs.Ordering.{is_eq}
use Rattle.std.proofs.lemmas.List.{map-append}
use Rattle.std.proofs.lemmas.List.Elements.{All-append, All-cons, All-contains, All-contains_itself, All-filter, All-nil, All-weaker, Contains-append_left, Contains-append_right, Contains-push, filter_passes}
use Rattle.std.proofs.lemmas.List.Folds.{Any-from_list_any, list_any_at}
use Rattle.std.proofs.lemmas.Map.Made.{Contains-values_of}
use Rattle.oci_manifest.specs.Descriptor.{Descriptor, key_cmp}
use Rattle.oci_manifest.proofs.Keys.{Decides-same_key}
use Rattle.oci_store.specs.Graph.{Node}
use Rattle.oci_store.specs.Keyed.{has_key}
use Rattle.oci_store.specs.State.{State}
use Rattle.oci_store.specs.Tags.{Tags, by_bytes, AreNames}
use Rattle.oci_store.specs.Visiting.{with_keys}
use Rattle.oci_store.proofs.KeyOrder.{is_eq-key_cmp}
use Rattle.oci_store.proofs.Membership.{Keys, Contains-from_among, among_from_Contains, there-with_keys, with_keys-append}
use Rattle.oci_prune.specs.Attached.{follows, follows_one}
use Rattle.oci_prune.specs.Belonging.{IsComplete}
use Rattle.oci_prune.specs.declared.belonging.Belonging.{Belonging}
use Rattle.oci_prune.proofs.Elements.{Contains-cons, Contains-head, Contains-tail, in_map_filter, no_element}
use Rattle.oci_selection.specs.Selected.{each_once, AreAllRoots, AreOfRoots, AreReferenceRoots}
use Rattle.oci_selection.specs.declared.referrers.Referrers.{Referrers}
use Rattle.oci_selection.specs.declared.referrers.Referrers.TheVariants.{LeftOut, Climbed, Attached, OfTypes}
use Rattle.oci_selection.proofs.Selections.{root_there, roots_by, some_there}

-- ---- each key once

pub once_there : (keys : Keys) (k : Descriptor) → Contains keys k → Contains (each_once keys) k
once_there keys k there = Contains-from_among (with_keys [] keys) k (there-with_keys [] keys k (among_from_Contains keys k there))

-- keys that are placed one list after the other
pub once_both : (first second old new : Keys) → old ≡ with_keys [] first → new ≡ with_keys old second → new ≡ each_once (first ++ second)
once_both first second old new before after = after ∙ ap (λ (ks : Keys). with_keys ks second) before ∙ sym (with_keys-append [] first second)

-- ---- the tags that come along

in_set : (set : BTreeSet Descriptor) (i : ℕ) (k : Descriptor) → i < length set.keys → get_or set.keys i k ≡ k → contains key_cmp set k ≡ true
in_set set i k lt at =
    list_any_at (is_at (key_cmp k)) set.keys i k lt (subst (λ (j : Descriptor). is_eq (key_cmp k j) ≡ true) (sym at) (is_eq-key_cmp k k ∙ (Decides-same_key k k).1 refl))

name_there : (tags : Tags) (t : List ℕ × Descriptor) → Contains tags t → Contains (keys_of tags) t.0
name_there [] t there = absurd (no_element t there)
name_there (u ∷ tags) t there =
    elim (Contains-cons u tags t there) [
      | inl is ↦ subst (λ (e : List ℕ × Descriptor). Contains (u.0 ∷ keys_of tags) e.0) is (Contains-head u.0 (keys_of tags))
      | inr later ↦ Contains-tail u.0 (keys_of tags) t.0 (name_there tags t later)
    ]

module _ (graph : List Node) (climbed : Keys) (tags : Tags) (b : Belonging) (names : AreNames graph tags) (complete : IsComplete graph climbed tags b) where
  -- the key of a tag that names the digest of a member is attached
  tag_attached : (t : List ℕ × Descriptor) → Contains tags t → follows_one b.members.keys t.0 ≡ true → Contains b.attached.items t.1
  tag_attached t there named =
      let found = Any-from_list_any (follows t.0) b.members.keys named in
      let subject = found.1 in
      let member = in_set b.members found.0 subject found.2 found.3 in
      let held : has_key graph t.1 ≡ true = All-contains (λ (k : Descriptor). has_key graph k ≡ true) (values_of tags) t.1 names.held (Contains-values_of tags t.0 t.1 there) in
      (complete.followed t.1 subject member (t.0, there, found.4) held).1

  -- a tag that comes along is one of the source, and its key is attached
  came : (t : List ℕ × Descriptor) → Contains (by_bytes b.tags.items) t → Contains tags t × Contains b.attached.items t.1
  came t comes =
      let test : List ℕ × Descriptor → Bool = λ tag. follows_one b.members.keys tag.0 in
      let kept : Contains (filter test tags) t = subst (λ (ts : Tags). Contains ts t) complete.tags comes in
      let there = All-contains (Contains tags) (filter test tags) t (All-filter test (Contains tags) tags (All-contains_itself tags)) kept in
      let named = All-contains (λ (tag : List ℕ × Descriptor). test tag ≡ true) (filter test tags) t (filter_passes test tags) kept in
      (there, tag_attached t there named)

  -- those of the tags that come along which pass a test are of roots
  pub others_of_roots : (test : List ℕ × Descriptor → Bool) → AreOfRoots (each_once (climbed ++ b.attached.items)) (filter test (by_bytes b.tags.items))
  others_of_roots test = record {
    named = All-weaker (Contains (keys_of others)) (λ (n : List ℕ). n ≢ []) of_name (keys_of others) (All-contains_itself (keys_of others));
    rooted = All-weaker (Contains (values_of others)) (Contains roots) of_key (values_of others) (All-contains_itself (values_of others));
  }
    where
      others : Tags
      others = filter test (by_bytes b.tags.items)

      roots : Keys
      roots = each_once (climbed ++ b.attached.items)

      of_name : (n : List ℕ) → Contains (keys_of others) n → n ≢ []
      of_name n there =
          let t = in_map_filter (λ (e : List ℕ × Descriptor). e.0) test (by_bytes b.tags.items) n there in
          subst (λ (other : List ℕ). other ≢ []) t.3 (All-contains (λ (other : List ℕ). other ≢ []) (keys_of tags) t.0.0 names.named (name_there tags t.0 (came t.0 t.1).0))

      of_key : (k : Descriptor) → Contains (values_of others) k → Contains roots k
      of_key k there =
          let t = in_map_filter (λ (e : List ℕ × Descriptor). e.1) test (by_bytes b.tags.items) k there in
          once_there (climbed ++ b.attached.items) k (Contains-append_right climbed b.attached.items k (subst (Contains b.attached.items) t.3 (came t.0 t.1).1))

-- a tag of a root is set before the others
pub first_of_roots : (roots : Keys) (name : List ℕ) (k : Descriptor) (others : Tags) → name ≢ [] → Contains roots k → AreOfRoots roots others → AreOfRoots roots ((name, k) ∷ others)
first_of_roots roots name k others named there of = record {
  named = All-cons (λ (n : List ℕ). n ≢ []) name (keys_of others) named of.named;
  rooted = All-cons (λ (key : Descriptor). Contains roots key) k (values_of others) there of.rooted;
}

-- ---- the roots

-- the climbed keys are roots
climbed_there : (climbed attached roots : Keys) (k : Descriptor) → roots ≡ each_once (climbed ++ attached) → Contains climbed k → Contains roots k
climbed_there climbed attached roots k are there = subst (λ (keys : Keys). Contains keys k) (sym are) (once_there (climbed ++ attached) k (Contains-append_left climbed attached k there))

-- the key of a reference is a root
pub reference_there : (store : State) (referrers : Referrers) (k : Descriptor) (name : List ℕ) (roots : Keys) (others : Tags) → AreReferenceRoots store referrers k name roots others → Contains roots k
reference_there store LeftOut k name roots others are = subst (λ (keys : Keys). Contains keys k) (sym are.0) (Contains-push [] k)
reference_there store (Climbed depth) k name roots others are = climbed_there are.0 are.2.0.attached.items roots k are.2.2 (root_there store.nodes (Some depth) k are.0 are.1)
reference_there store Attached k name roots others are = climbed_there (k ∷ []) are.0.attached.items roots k are.2 (Contains-push [] k)
reference_there store (OfTypes types) k name roots others are = climbed_there (k ∷ []) are.0.0.attached.items roots k are.0.2 (Contains-push [] k)

-- the roots of a copy of tags are those of any list with the same keys
pub all_roots_by : (store : State) (patterns : List (List ℕ)) (referrers : Referrers) (keys other roots : Keys) (others : Tags) → ((k : Descriptor) → Contains keys k ↔ Contains other k) → AreAllRoots store patterns referrers keys roots others
    → AreAllRoots store patterns referrers other roots others
all_roots_by store patterns LeftOut keys other roots others same are = (roots_by store.nodes None keys other roots same are.0, are.1)
all_roots_by store patterns (Climbed depth) keys other roots others same are = (are.0, roots_by store.nodes (Some depth) keys other are.0 same are.1, are.2)
all_roots_by store patterns Attached keys other roots others same are = (are.0, roots_by store.nodes None keys other are.0 same are.1, are.2)
all_roots_by store patterns (OfTypes types) keys other roots others same are = ((are.0.0, roots_by store.nodes None keys other are.0.0 same are.0.1, are.0.2), are.1)

all_climbed_there : (some climbed attached roots : Keys) → roots ≡ each_once (climbed ++ attached) → All (λ (k : Descriptor). Contains climbed k) some → All (λ (k : Descriptor). Contains roots k) some
all_climbed_there some climbed attached roots are = All-weaker (λ (k : Descriptor). Contains climbed k) (λ (k : Descriptor). Contains roots k) (λ k there. climbed_there climbed attached roots k are there) some

-- each of the keys that a copy of tags starts from is among its roots
pub all_there : (store : State) (patterns : List (List ℕ)) (referrers : Referrers) (some keys roots : Keys) (others : Tags) → ((k : Descriptor) → Contains some k → Contains keys k) → AreAllRoots store patterns referrers keys roots others
    → All (λ (k : Descriptor). Contains roots k) some
all_there store patterns LeftOut some keys roots others among are = some_there store.nodes None some keys roots among are.0
all_there store patterns (Climbed depth) some keys roots others among are = all_climbed_there some are.0 are.2.0.attached.items roots are.2.2 (some_there store.nodes (Some depth) some keys are.0 among are.1)
all_there store patterns Attached some keys roots others among are = all_climbed_there some are.0 are.2.0.attached.items roots are.2.2 (some_there store.nodes None some keys are.0 among are.1)
all_there store patterns (OfTypes types) some keys roots others among are = all_climbed_there some are.0.0 are.0.2.0.attached.items roots are.0.2.2 (some_there store.nodes None some keys are.0.0 among are.0.1)

-- tags of roots, and then others
pub both_of_roots : (roots : Keys) (tags others : Tags) → AreOfRoots roots tags → AreOfRoots roots others → AreOfRoots roots (tags ++ others)
both_of_roots roots tags others of more = record {
  named = subst (All (λ (n : List ℕ). n ≢ [])) (sym (map-append (λ (e : List ℕ × Descriptor). e.0) tags others)) (All-append (λ (n : List ℕ). n ≢ []) (keys_of tags) (keys_of others) of.named more.named);
  rooted = subst (All (λ (k : Descriptor). Contains roots k)) (sym (map-append (λ (e : List ℕ × Descriptor). e.1) tags others)) (All-append (λ (k : Descriptor). Contains roots k) (values_of tags) (values_of others) of.rooted more.rooted);
}

-- tags of names, whose keys are roots
pub some_of_roots : (roots : Keys) (test : List ℕ × Descriptor → Bool) (tags : Tags) → All (λ (n : List ℕ). n ≢ []) (keys_of tags) → All (λ (k : Descriptor). Contains roots k) (values_of (filter test tags)) → AreOfRoots roots (filter test tags)
some_of_roots roots test tags named rooted = record {
  named = All-weaker (Contains (keys_of (filter test tags))) (λ (n : List ℕ). n ≢ []) (λ n there. of n there) (keys_of (filter test tags)) (All-contains_itself (keys_of (filter test tags)));
  rooted = rooted;
}
  where
    of : (n : List ℕ) → Contains (keys_of (filter test tags)) n → n ≢ []
    of n there =
        let t = in_map_filter (λ (e : List ℕ × Descriptor). e.0) test tags n there in
        subst (λ (other : List ℕ). other ≢ []) t.3 (All-contains (λ (other : List ℕ). other ≢ []) (keys_of tags) t.0.0 named (name_there tags t.0 t.1))

-- no tags are of roots
pub none_of_roots : (roots : Keys) → AreOfRoots roots []
none_of_roots roots = record { named = All-nil (λ (n : List ℕ). n ≢ []); rooted = All-nil (λ (k : Descriptor). Contains roots k) }
