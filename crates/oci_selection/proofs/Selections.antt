-- Lemmas about the roots of a copy, and the tags that it sets.
use Rattle.std.proofs.Common.{◌≡◌, ◌≢◌, ℕ, ◌+◌, ◌<◌, ◌≤◌, true, inl, inr, List, [], ◌∷◌, ◌++◌, map, length, get_or, take, Option, None, Some, refl, sym, ap, subst, ◌∙◌, arith}
use Rattle.std.specs.Prelude.{◌↔◌, ◌⊎◌, Contains, option_map, String, string_bytes, Result, Ok, Err, IfOk, IfErr}
use Rattle.std.specs.BTreeSet.{BTreeSet, contains}
use Rattle.std.specs.List.{All, slice_get}
use Rattle.std.specs.Map.{keys_of, values_of}
use Rattle.std.specs.declared.alloc.Global.{Global}
use Rattle.std.proofs.lemmas.List.{take_all, take_more}
use Rattle.std.proofs.lemmas.Map.Views.{btree_set_contains_iff}
use Rattle.std.proofs.lemmas.Option.{slice_get-get_or, slice_get-map}
use Rattle.std.proofs.lemmas.List.Elements.{All-append, All-contains, All-contains_itself, All-cons, All-nil, All-weaker, Contains-append_cases, Contains-append_left, Contains-append_right, Contains-push, Contains-push_cases}
use Rattle.oci_manifest.specs.Descriptor.{Descriptor, key_cmp}
use Rattle.oci_store.specs.Graph.{Node}
use Rattle.oci_store.specs.Keyed.{has_key, HasAll}
use Rattle.oci_store.specs.Tags.{by_bytes, AnswersTag}
use Rattle.oci_store.specs.Visiting.{with_keys}
use Rattle.oci_store.specs.declared.fault.RefFault.{RefFault}
use Rattle.oci_store.specs.declared.fault.RefFault.TheVariants as fault
use Rattle.oci_store.proofs.KeyOrder.{key_cmp_total, key_cmp_exact}
use Rattle.oci_store.proofs.Membership.{Keys, Contains-from_among, among_from_Contains, among-append_cases, among-with_keys, stays-with_keys, there-with_keys, with_keys-append}
use Rattle.oci_copy.proofs.Places.{Contains-from_slice_get}
use Rattle.oci_layout_store.specs.Entries.{IndexEntry, entry_keys, entry_of}
use Rattle.oci_layout_store.specs.declared.index.IndexEntry.{IndexEntry as CodeEntry}
use Rattle.oci_layout_store.proofs.EntryKeys.{entry_keys-append}
use Rattle.oci_layout_store.proofs.LastNames.{entries-more}
use Rattle.oci_prune.proofs.Elements.{next_element}
use Rattle.oci_selection.specs.Selected.{each_once, AreClimbed, AreClimbedOfKeys, IsClimbed, IsClimbedOfKeys}

-- what is true of the elements so far, and of the next one
pub all_more : {X : Type 0} (P : X → Type 0) (xs : List X) (i : ℕ) (x : X) → i < length xs → x ≡ get_or xs i x → P x → All P (take i xs) → All P (take (i + 1) xs)
all_more P xs i x within is holds before = subst (All P) (sym (next_element xs i x within is)) (All-append P (take i xs) (x ∷ []) before (All-cons P x [] holds (All-nil P)))

-- keys that are among held keys are held
pub among_held : (graph : List Node) (roots keys : List Descriptor) → HasAll graph roots → All (λ (k : Descriptor). Contains roots k) keys → HasAll graph keys
among_held graph roots keys held = All-weaker (λ (k : Descriptor). Contains roots k) (λ (k : Descriptor). has_key graph k ≡ true) (λ k there. All-contains (λ (k : Descriptor). has_key graph k ≡ true) roots k held there) keys

-- a copy of a key starts from that key
starts_there : (graph : List Node) (referrers : Option ℕ) (k : Descriptor) → IsClimbed graph referrers k k
starts_there graph None k = refl
starts_there graph (Some depth) k = (0, (λ limited. omega arith), refl)

-- the roots of a copy of one key are exactly the keys from which it starts
roots_are : (graph : List Node) (referrers : Option ℕ) (k : Descriptor) (roots : Keys) → AreClimbed graph referrers k roots → (root : Descriptor) → Contains roots root ↔ IsClimbed graph referrers k root
roots_are graph None k roots is root = subst (λ (keys : Keys). Contains keys root ↔ (root ≡ k)) (sym is) (alone, there)
  where
    alone : Contains (k ∷ []) root → root ≡ k
    alone h = All-contains (λ (other : Descriptor). other ≡ k) (k ∷ []) root (All-cons (λ (other : Descriptor). other ≡ k) k [] refl (All-nil (λ (other : Descriptor). other ≡ k))) h

    there : root ≡ k → Contains (k ∷ []) root
    there same = subst (λ (other : Descriptor). Contains (k ∷ []) other) (sym same) (Contains-push [] k)
roots_are graph (Some depth) k roots up root = up.each root

-- a key is among the roots of its copy
pub root_there : (graph : List Node) (referrers : Option ℕ) (k : Descriptor) (roots : Keys) → AreClimbed graph referrers k roots → Contains roots k
root_there graph referrers k roots are = (roots_are graph referrers k roots are k).1 (starts_there graph referrers k)

-- once the roots of a copy of one key are added, the roots are the old ones and those
pub roots_placed : (graph : List Node) (referrers : Option ℕ) (k : Descriptor) (old more new : Keys) → AreClimbed graph referrers k more → new ≡ with_keys old more
    → (root : Descriptor) → Contains new root ↔ (Contains old root ⊎ IsClimbed graph referrers k root)
roots_placed graph referrers k old more new are is root = subst (λ (keys : Keys). Contains keys root ↔ (Contains old root ⊎ IsClimbed graph referrers k root)) (sym is) (came, there)
  where
    came : Contains (with_keys old more) root → Contains old root ⊎ IsClimbed graph referrers k root
    came h =
        elim (among-with_keys old more root (among_from_Contains (with_keys old more) root h)) [
          | inl before ↦ inl (Contains-from_among old root before)
          | inr added ↦ inr ((roots_are graph referrers k more are root).0 (Contains-from_among more root added))
        ]

    there : Contains old root ⊎ IsClimbed graph referrers k root → Contains (with_keys old more) root
    there (inl before) = Contains-from_among (with_keys old more) root (stays-with_keys old more root (among_from_Contains old root before))
    there (inr of) = Contains-from_among (with_keys old more) root (there-with_keys old more root (among_from_Contains more root ((roots_are graph referrers k more are root).1 of)))

-- the roots of a copy of some keys and those of one key more are the roots of a copy of all these
-- keys
roots_more : (graph : List Node) (referrers : Option ℕ) (keys : Keys) (k : Descriptor) (old new : Keys)
    → ((root : Descriptor) → Contains new root ↔ (Contains old root ⊎ IsClimbed graph referrers k root))
    → ((root : Descriptor) → Contains old root ↔ IsClimbedOfKeys graph referrers keys root)
    → (root : Descriptor) → Contains new root ↔ IsClimbedOfKeys graph referrers (keys ++ k ∷ []) root
roots_more graph referrers keys k old new grown before root = (λ h. joined ((grown root).0 h), λ of. (grown root).1 (apart of))
  where
    joined : Contains old root ⊎ IsClimbed graph referrers k root → IsClimbedOfKeys graph referrers (keys ++ k ∷ []) root
    joined (inl there) =
        let of = (before root).0 there in
        (of.0, Contains-append_left keys (k ∷ []) of.0 of.1, of.2)
    joined (inr of) = (k, Contains-push keys k, of)

    apart : IsClimbedOfKeys graph referrers (keys ++ k ∷ []) root → Contains old root ⊎ IsClimbed graph referrers k root
    apart of =
        elim (Contains-push_cases keys k of.0 of.1) [
          | inl earlier ↦ inl ((before root).1 (of.0, earlier, of.2))
          | inr last ↦ inr (subst (λ (key : Descriptor). IsClimbed graph referrers key root) (sym last) of.2)
        ]

-- each of these keys is among the roots of a copy of keys among which they are
pub some_there : (graph : List Node) (referrers : Option ℕ) (some keys roots : Keys) → ((k : Descriptor) → Contains some k → Contains keys k) → AreClimbedOfKeys graph referrers keys roots
    → All (λ (k : Descriptor). Contains roots k) some
some_there graph referrers some keys roots among are =
    All-weaker (λ (k : Descriptor). Contains some k) (λ (k : Descriptor). Contains roots k) (λ k there. (are.each k).1 (k, among k there, starts_there graph referrers k)) some (All-contains_itself some)

-- the roots of a copy of keys are those of a copy of any list with the same keys
pub roots_by : (graph : List Node) (referrers : Option ℕ) (keys other roots : Keys) → ((k : Descriptor) → Contains keys k ↔ Contains other k) → AreClimbedOfKeys graph referrers keys roots → AreClimbedOfKeys graph referrers other roots
roots_by graph referrers keys other roots same are = record {
  each = λ root. (
    (λ there. let of = (are.each root).0 there in (of.0, (same of.0).0 of.1, of.2)),
    (λ of. (are.each root).1 (of.0, (same of.0).1 of.1, of.2)),
  );
  distinct = are.distinct;
}

-- keys that are placed after others are the same keys as both lists
pub placed_both : (first second keys : Keys) → keys ≡ with_keys (with_keys [] first) second → (k : Descriptor) → Contains keys k ↔ Contains (first ++ second) k
placed_both first second keys is k = subst (λ (ks : Keys). Contains ks k ↔ Contains (first ++ second) k) (sym is) (came, there)
  where
    came : Contains (with_keys (with_keys [] first) second) k → Contains (first ++ second) k
    came h =
        elim (among-with_keys (with_keys [] first) second k (among_from_Contains (with_keys (with_keys [] first) second) k h)) [
          | inl before ↦ elim (among-with_keys [] first k before) [ inl none ↦ cc none | inr one ↦ Contains-append_left first second k (Contains-from_among first k one) ]
          | inr two ↦ Contains-append_right first second k (Contains-from_among second k two)
        ]

    there : Contains (first ++ second) k → Contains (with_keys (with_keys [] first) second) k
    there h =
        Contains-from_among (with_keys (with_keys [] first) second) k (
        elim (among-append_cases first second k (among_from_Contains (first ++ second) k h)) [
          | inl one ↦ stays-with_keys (with_keys [] first) second k (there-with_keys [] first k one)
          | inr two ↦ there-with_keys (with_keys [] first) second k two
        ]
        )

-- the keys of a set in their order have a property exactly if those in the set do
pub set_in_order : (P : Descriptor → Type 0) (set : BTreeSet Descriptor) (keys : Keys) → ((k : Descriptor) → (contains key_cmp set k ≡ true) ↔ P k) → keys ≡ set.keys → (k : Descriptor) → Contains keys k ↔ P k
set_in_order P set keys each are k =
    let iff = btree_set_contains_iff key_cmp_total key_cmp_exact set k in (
      λ there. (each k).0 (iff.1 (subst (λ (ks : Keys). Contains ks k) are there)),
      λ is. subst (λ (ks : Keys). Contains ks k) (sym are) (iff.0 ((each k).1 is)),
    )

-- each once, keys that are the same as others and more are those others and more
pub started : (wanted named more keys : Keys) → ((k : Descriptor) → Contains named k ↔ Contains wanted k) → keys ≡ each_once (named ++ more) → (k : Descriptor) → Contains keys k ↔ Contains (wanted ++ more) k
started wanted named more keys same is k =
    let both = placed_both named more keys (is ∙ with_keys-append [] named more) k in (
      (λ there. elim (Contains-append_cases named more k (both.0 there)) [
        | inl one ↦ Contains-append_left wanted more k ((same k).0 one)
        | inr two ↦ Contains-append_right wanted more k two
      ]),
      (λ there. both.1 (elim (Contains-append_cases wanted more k there) [
        | inl one ↦ Contains-append_left named more k ((same k).1 one)
        | inr two ↦ Contains-append_right named more k two
      ])),
    )

-- the keys of the entries so far, and then that of the next entry
pub placed_next : (keys : Keys) (es : List CodeEntry) (i : ℕ) (e : CodeEntry) → i < length es → e ≡ get_or es i e
    → with_keys keys (entry_keys (map entry_of (take (i + 1) es))) ≡ with_keys (with_keys keys (entry_keys (map entry_of (take i es)))) (entry_keys (entry_of e ∷ []))
placed_next keys es i e lt is =
    let before = map entry_of (take i es) in
    let next : List IndexEntry = entry_of e ∷ [] in
    ap (λ (xs : List IndexEntry). with_keys keys (entry_keys xs)) (entries-more es i e lt is) ∙ ap (with_keys keys) (entry_keys-append before next) ∙ with_keys-append keys (entry_keys before) (entry_keys next)

-- setting a tag with a name on a held key is refused only if memory ran out
pub only_memory : {X : Type 0} (r : Result X RefFault) (name : List ℕ) (graph : List Node) (k : Descriptor)
    → AnswersTag graph k name r → name ≢ [] → has_key graph k ≡ true → IfErr r (λ e. e ≡ fault.Memory)
only_memory (Ok x) name graph k answer named held = tt
only_memory (Err fault.EmptyReference) name graph k answer named held = absurd (named answer)
only_memory (Err fault.UnknownReference) name graph k answer named held = absurd answer
only_memory (Err fault.NotHeld) name graph k answer named held =
    let absent = answer.1 in
    cc (sym held ∙ absent)
only_memory (Err fault.Memory) name graph k answer named held = refl

-- a fact about the name of each tag, or about each key, holds at a place
module _ (tags : List (String Global × Descriptor)) (i : ℕ) (t : String Global × Descriptor) (within : i < length tags) (is : t ≡ get_or tags i t) where
  at_place : slice_get tags i ≡ Some t
  at_place = slice_get-get_or tags i t within ∙ ap Some (sym is)

  here : slice_get (by_bytes tags) i ≡ Some (string_bytes t.0, t.1)
  here = slice_get-map (λ (e : String Global × Descriptor). (string_bytes e.0, e.1)) tags i ∙ ap (option_map (λ (e : String Global × Descriptor). (string_bytes e.0, e.1))) at_place

  pub name_at : (P : List ℕ → Type 0) → All P (keys_of (by_bytes tags)) → P (string_bytes t.0)
  name_at P all =
      All-contains P (keys_of (by_bytes tags)) (string_bytes t.0) all
      (Contains-from_slice_get (keys_of (by_bytes tags)) i (string_bytes t.0) (slice_get-map (λ (e : List ℕ × Descriptor). e.0) (by_bytes tags) i ∙ ap (option_map (λ (e : List ℕ × Descriptor). e.0)) here))

  pub key_at : (P : Descriptor → Type 0) → All P (values_of (by_bytes tags)) → P t.1
  key_at P all =
      All-contains P (values_of (by_bytes tags)) t.1 all
      (Contains-from_slice_get (values_of (by_bytes tags)) i t.1 (slice_get-map (λ (e : List ℕ × Descriptor). e.1) (by_bytes tags) i ∙ ap (option_map (λ (e : List ℕ × Descriptor). e.1)) here))

-- once the roots of one more key are added, the roots are those of the keys so far
pub placed_more : (graph : List Node) (referrers : Option ℕ) (keys : Keys) (i : ℕ) (k : Descriptor) (old new : Keys) → i < length keys → k ≡ get_or keys i k
    → ((root : Descriptor) → Contains new root ↔ (Contains old root ⊎ IsClimbed graph referrers k root))
    → ((root : Descriptor) → Contains old root ↔ IsClimbedOfKeys graph referrers (take i keys) root)
    → (root : Descriptor) → Contains new root ↔ IsClimbedOfKeys graph referrers (take (i + 1) keys) root
placed_more graph referrers keys i k old new within is grown before root =
    let taken : take (i + 1) keys ≡ take i keys ++ k ∷ [] = take_more keys i k within ∙ ap (λ (x : Descriptor). take i keys ++ x ∷ []) (sym is) in
    subst (λ (ks : Keys). Contains new root ↔ IsClimbedOfKeys graph referrers ks root) (sym taken) (roots_more graph referrers (take i keys) k old new grown before root)

-- before the first key there are none, and once the roots of all keys are added, they are those of
-- the keys
pub placed_none : (graph : List Node) (referrers : Option ℕ) (roots : Keys) → roots ≡ [] → (root : Descriptor) → Contains roots root ↔ IsClimbedOfKeys graph referrers [] root
placed_none graph referrers roots none root = subst (λ (keys : Keys). Contains keys root ↔ IsClimbedOfKeys graph referrers [] root) (sym none) (λ there. absurd (empty root there), λ of. absurd (empty of.0 of.1))
  where
    empty : (k : Descriptor) → Contains [] k → ⊥
    empty k there = let h : there.0 < 0 = there.1 in omega arith

pub placed_all : (graph : List Node) (referrers : Option ℕ) (roots keys : Keys) (i : ℕ) → length keys ≤ i
    → ((root : Descriptor) → Contains roots root ↔ IsClimbedOfKeys graph referrers (take i keys) root)
    → (root : Descriptor) → Contains roots root ↔ IsClimbedOfKeys graph referrers keys root
placed_all graph referrers roots keys i past so_far root =
    subst (λ (ks : Keys). Contains roots root ↔ IsClimbedOfKeys graph referrers ks root) (take_all i keys past) (so_far root)

-- combines three facts about a result that succeeded
pub all_ok : {X E : Type 0} {P Q S R : X → Type 0} (r : Result X E) → ((x : X) → P x → Q x → S x → R x) → IfOk r P → IfOk r Q → IfOk r S → IfOk r R
all_ok (Ok x) gives p q s = gives x p q s
all_ok (Err e) gives p q s = p
