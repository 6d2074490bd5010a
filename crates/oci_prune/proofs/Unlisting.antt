-- The keys that are free by a table of what is attached.
use Rattle.std.proofs.Common.{◌≡◌, ℕ, ◌+◌, ◌<◌, Bool, true, false, not, inl, inr, List, [], ◌∷◌, ◌++◌, length, get_or, take, filter, sym, ap, subst, ◌∙◌}
use Rattle.std.specs.Prelude.{◌↔◌, Contains, flat_map}
use Rattle.std.specs.BTreeSet.{BTreeSet, contains}
use Rattle.std.specs.Cmp.Lexicographic.{slice_cmp}
use Rattle.std.specs.Ordering.{nat_cmp}
use Rattle.std.specs.List.{list_all}
use Rattle.std.proofs.lemmas.Bool.{cases_Bool, not-true, true≢false}
use Rattle.std.proofs.lemmas.List.Sums.{AllPass-from_list_all, list_all-from_AllPass}
use Rattle.std.proofs.lemmas.List.Elements.{All-contains, All-contains_itself, All-weaker, Contains-append_left, Contains-push, Contains-push_cases}
use Rattle.oci_manifest.specs.Descriptor.{Descriptor, is_among, key_cmp}
use Rattle.oci_store.specs.Before.{IsBefore}
use Rattle.oci_store.specs.Graph.{Node, IsEdge}
use Rattle.oci_store.specs.State.{State}
use Rattle.oci_store.proofs.Membership.{Contains-from_among, among_from_Contains, among-filter, among-flat_map, among_filter_from, among_flat_map_from}
use Rattle.oci_layout_store.proofs.SavedEntries.{HasAmong}
use Rattle.oci_prune.specs.Attached.{AttachedIn, HasAttached, attached_in}
use Rattle.oci_prune.specs.Files.{HasDigests}
use Rattle.oci_prune.specs.Free.{AreFree, AreUnlisted, IsFree, IsUnlisted}
use Rattle.oci_prune.specs.Plan.{AreHeld}
use Rattle.oci_prune.specs.Subjects.{Refers}
use Rattle.oci_prune.specs.Walk.{HasOneMore}
use Rattle.oci_prune.specs.declared.attachments.Attachments.{Attachments}
use Rattle.oci_prune.proofs.Elements.{next_element, no_element}

abbrev Keys : Type 0
Keys = List Descriptor

-- ---- one key more

-- an unlisted key was added
pub unlisted_more : (graph : List Node) (attachments : Attachments) (keys : Keys) (i : ℕ) (k : Descriptor) (old new : BTreeSet Descriptor) → i < length keys → k ≡ get_or keys i k → AreUnlisted graph attachments (take i keys) old → IsUnlisted graph attachments k
    → HasOneMore k old new → AreUnlisted graph attachments (take (i + 1) keys) new
unlisted_more graph attachments keys i k old new lt is are unlisted more j =
    let next = next_element keys i k lt is in (
      λ h. elim ((more j).0 h) [
        | inl was ↦
            let r = (are j).0 was in
            (subst (λ (ks : Keys). Contains ks j) (sym next) (Contains-append_left (take i keys) (k ∷ []) j r.0), r.1)
        | inr same ↦ (
          subst (λ (ks : Keys). Contains ks j) (sym next) (subst (Contains (take i keys ++ k ∷ [])) (sym same) (Contains-push (take i keys) k)),
          subst (IsUnlisted graph attachments) (sym same) unlisted,
        )
      ],
      λ r. (more j).1 (elim (Contains-push_cases (take i keys) k j (subst (λ (ks : Keys). Contains ks j) next r.0)) [
        | inl was ↦ inl ((are j).1 (was, r.1))
        | inr same ↦ inr (sym same)
      ]),
    )

-- a key that is listed was left out
pub unlisted_same : (graph : List Node) (attachments : Attachments) (keys : Keys) (i : ℕ) (k : Descriptor) (found : BTreeSet Descriptor) → i < length keys → k ≡ get_or keys i k → AreUnlisted graph attachments (take i keys) found → (IsUnlisted graph attachments k → ⊥)
    → AreUnlisted graph attachments (take (i + 1) keys) found
unlisted_same graph attachments keys i k found lt is are listed j =
    let next = next_element keys i k lt is in (
      λ h.
          let r = (are j).0 h in
          (subst (λ (ks : Keys). Contains ks j) (sym next) (Contains-append_left (take i keys) (k ∷ []) j r.0), r.1),
      λ r. elim (Contains-push_cases (take i keys) k j (subst (λ (ks : Keys). Contains ks j) next r.0)) [
        | inl was ↦ (are j).1 (was, r.1)
        | inr same ↦ absurd (listed (subst (IsUnlisted graph attachments) (sym same) r.1))
      ],
    )

-- ---- a key

-- a key is unlisted if all that list it are attached to it
pub unlisted_if_all : (graph : List Node) (attachments : Attachments) (k : Descriptor) (parents : Keys) (set : BTreeSet Descriptor) → IsBefore graph k parents → HasAmong set (attached_in attachments k)
    → (list_all (contains key_cmp set) parents ≡ true) ↔ IsUnlisted graph attachments k
unlisted_if_all graph attachments k parents set before has = (
  λ all parent edge.
      let there = All-contains (λ (p : Descriptor). contains key_cmp set p ≡ true) parents parent (AllPass-from_list_all (contains key_cmp set) parents all) ((before.each parent).1 edge) in
      Contains-from_among (attached_in attachments k) parent (sym (has parent) ∙ there),
  λ unlisted. list_all-from_AllPass (contains key_cmp set) parents (All-weaker (Contains parents) (λ (p : Descriptor). contains key_cmp set p ≡ true)
      (λ p there. has p ∙ among_from_Contains (attached_in attachments k) p (unlisted p ((before.each p).0 there))) parents (All-contains_itself parents)),
)

-- ---- all keys

-- the held keys that are attached to none, whose digests no named key has, and that are unlisted, are
-- free
pub are_free : (store : State) (attachments : Attachments) (held named apart unnamed : Keys) (attached found : BTreeSet Descriptor) (digests : BTreeSet (List ℕ)) → AreHeld store.nodes held → HasAttached store.entries [] attachments
    → HasAmong attached (flat_map (attached_in attachments) held) → HasDigests named digests → apart ≡ filter (λ (k : Descriptor). not (contains key_cmp attached k)) held
    → unnamed ≡ filter (λ (k : Descriptor). not (contains (slice_cmp nat_cmp) digests k.digest)) apart → AreUnlisted store.nodes attachments unnamed found → AreFree store named found
are_free store attachments held named apart unnamed attached found digests are_held has among has_digests rest others are k = (
  λ h.
      let r = (are k).0 h in
      let p = among-filter is_unnamed apart k (subst (λ (ks : Keys). is_among ks k ≡ true) others (among_from_Contains unnamed k r.0)) in
      let q = among-filter is_apart held k (subst (λ (ks : Keys). is_among ks k ≡ true) rest p.1) in
      record {
        held = (are_held.each k).0 (Contains-from_among held k q.1);
        unnamed = λ in_named. true≢false (sym ((has_digests k.digest).1 in_named) ∙ not-true (contains (slice_cmp nat_cmp) digests k.digest) p.0);
        unlisted = λ parent edge. refers parent k (r.1 parent edge);
        apart = λ subject there states.
            let in_table = (has k subject).1 (inl states) in
            let bound = among_flat_map_from (attached_in attachments) held subject k (among_from_Contains held subject ((are_held.each subject).1 there)) (among_from_Contains (attached_in attachments subject) k in_table) in
            true≢false (sym (among k ∙ bound) ∙ not-true (contains key_cmp attached k) q.0);
      },
  λ free.
      let in_held = among_from_Contains held k ((are_held.each k).1 free.held) in
      let apart_now : contains key_cmp attached k ≡ false = elim (cases_Bool (contains key_cmp attached k)) [
        | inr none ↦ none
        | inl bound ↦
            let j = among-flat_map (attached_in attachments) held k (sym (among k) ∙ bound) in
            absurd (free.apart j.0 ((are_held.each j.0).0 (Contains-from_among held j.0 j.1)) (refers k j.0 (Contains-from_among (attached_in attachments j.0) k j.2)))
      ] in
      let unnamed_now : contains (slice_cmp nat_cmp) digests k.digest ≡ false = elim (cases_Bool (contains (slice_cmp nat_cmp) digests k.digest)) [
        | inr none ↦ none
        | inl names ↦ absurd (free.unnamed ((has_digests k.digest).0 names))
      ] in
      let in_apart = subst (λ (ks : Keys). is_among ks k ≡ true) (sym rest) (among_filter_from is_apart held k (ap not apart_now) in_held) in
      (are k).1 (
        Contains-from_among unnamed k (subst (λ (ks : Keys). is_among ks k ≡ true) (sym others) (among_filter_from is_unnamed apart k (ap not unnamed_now) in_apart)),
        λ parent edge. (has parent k).1 (inl (free.unlisted parent edge)),
      ),
)
  where
    is_apart : Descriptor → Bool
    is_apart j = not (contains key_cmp attached j)

    is_unnamed : Descriptor → Bool
    is_unnamed j = not (contains (slice_cmp nat_cmp) digests j.digest)

    refers : (j subject : Descriptor) → AttachedIn attachments j subject → Refers store.entries j subject
    refers j subject in_table = elim ((has j subject).0 in_table) [
      | inl states ↦ states
      | inr follows ↦ absurd (no_element (follows.0, j) follows.1)
    ]
