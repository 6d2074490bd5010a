-- Digests of keys, and the files that none of them needs.
use Rattle.std.proofs.Common.{◌≡◌, ℕ, ◌+◌, ◌<◌, Bool, true, false, cond, not, ◌⊎◌, inl, inr, List, [], ◌∷◌, ◌++◌, length, take, get_or, map, filter, Some, None, refl, sym, ap, subst, ◌∙◌}
use Rattle.std.specs.Prelude.{◌↔◌, Contains}
use Rattle.std.specs.BTreeSet.{BTreeSet, contains}
use Rattle.std.specs.Cmp.Lexicographic.{slice_cmp}
use Rattle.std.specs.List.Sorted.{IsStrictlySortedBy}
use Rattle.std.specs.Map.{keys_of}
use Rattle.std.specs.Ordering.{nat_cmp, is_eq}
use Rattle.std.specs.Str.{bytes_eq}
use Rattle.std.proofs.lemmas.Bool.{cases_Bool}
use Rattle.std.proofs.lemmas.Cmp.{nat_list_cmp_total}
use Rattle.std.proofs.lemmas.List.Elements.{Contains-push, Contains-push_cases, Contains-append_cases, Contains-append_left, Contains-append_right}
use Rattle.std.proofs.lemmas.List.Kept.{IsStrictlySortedBy-filter}
use Rattle.std.proofs.lemmas.Map.Lookups.{exact_bytes}
use Rattle.std.proofs.lemmas.Map.Text.{is_eq-slice_cmp}
use Rattle.std.proofs.lemmas.Map.Views.{btree_set_contains_iff}
use Rattle.std.proofs.lemmas.Option.{same_Some}
use Rattle.std.proofs.lemmas.Slice.Eq.{bytes_eq-Decides}
use Rattle.oci_manifest.specs.Descriptor.{Descriptor, key_cmp}
use Rattle.oci_store.specs.Content.{Entry}
use Rattle.oci_store.specs.Graph.{IsEdge, Node}
use Rattle.oci_store.specs.Keyed.{has_key, value_at}
use Rattle.oci_store.proofs.KeyOrder.{key_cmp_total, key_cmp_exact}
use Rattle.oci_dir.specs.Device.{File}
use Rattle.oci_layout_store.specs.BlobFiles.{AreBlobs}
use Rattle.oci_prune.proofs.Elements.{no_element, next_element, in_map_filter, map_filter_in}
use Rattle.oci_prune.specs.Aside.{Lists, ListsAside}
use Rattle.oci_prune.specs.Files.{AddsNeeded, AreNeeded, HasDigests, pruned_file, unneeded_in}
use Rattle.oci_prune.specs.Plan.{AreHeld, AreUnneeded, IsUnneeded, HasDigestIn, NeedsFile}
use Rattle.oci_prune.specs.declared.plan.PrunedFile.{PrunedFile}

abbrev Digests : Type 0
Digests = BTreeSet (List ℕ)

pub digests_none : (digests : Digests) → digests.keys ≡ [] → HasDigests [] digests
digests_none digests none digest = (
  λ h. absurd (no_element digest (subst (λ (ds : List (List ℕ)). Contains ds digest) none ((btree_set_contains_iff nat_list_cmp_total exact_bytes digests digest).0 h))),
  λ p. absurd (no_element p.0 p.1),
)

-- a set with one digest more
grown_cases : (old new : Digests) (added : List ℕ) → ((other : List ℕ) → contains (slice_cmp nat_cmp) new other ≡ cond (is_eq (slice_cmp nat_cmp added other)) true (contains (slice_cmp nat_cmp) old other))
    → (other : List ℕ) → (contains (slice_cmp nat_cmp) new other ≡ true) ↔ ((contains (slice_cmp nat_cmp) old other ≡ true) ⊎ (added ≡ other))
grown_cases old new added grown other =
    let e : contains (slice_cmp nat_cmp) new other ≡ cond (bytes_eq added other) true (contains (slice_cmp nat_cmp) old other) =
    grown other ∙ ap (λ (b : Bool). cond b true (contains (slice_cmp nat_cmp) old other)) (is_eq-slice_cmp added other) in
    elim (cases_Bool (bytes_eq added other)) [
      | inl same ↦ (λ h. inr ((bytes_eq-Decides added other).0 same), λ h. rw same at e)
      | inr apart ↦
          let stays : contains (slice_cmp nat_cmp) new other ≡ contains (slice_cmp nat_cmp) old other = rw apart at e in
          (λ h. inl (sym stays ∙ h), λ h. elim h [ inl was ↦ stays ∙ was | inr is ↦ cc (sym apart ∙ (bytes_eq-Decides added other).1 is) ])
    ]

digests_push : (keys : List Descriptor) (key : Descriptor) (old new : Digests) → HasDigests keys old
    → ((other : List ℕ) → contains (slice_cmp nat_cmp) new other ≡ cond (is_eq (slice_cmp nat_cmp key.digest other)) true (contains (slice_cmp nat_cmp) old other)) → HasDigests (keys ++ key ∷ []) new
digests_push keys key old new h grown digest =
    let cases = grown_cases old new key.digest grown digest in (
      λ there. elim (cases.0 there) [
        | inl was ↦
            let p = (h digest).0 was in
            (p.0, Contains-append_left keys (key ∷ []) p.0 p.1, p.2)
        | inr is ↦ (key, Contains-push keys key, is)
      ],
      λ p. cases.1 (elim (Contains-push_cases keys key p.0 p.1) [
        | inl was ↦ inl ((h digest).1 (p.0, was, p.2))
        | inr is ↦ inr (ap (λ (k : Descriptor). k.digest) is ∙ p.2)
      ]),
    )

pub digests_more : (keys : List Descriptor) (i : ℕ) (key : Descriptor) (old new : Digests) → i < length keys → key ≡ get_or keys i key → HasDigests (take i keys) old
    → ((other : List ℕ) → contains (slice_cmp nat_cmp) new other ≡ cond (is_eq (slice_cmp nat_cmp key.digest other)) true (contains (slice_cmp nat_cmp) old other)) → HasDigests (take (i + 1) keys) new
digests_more keys i key old new lt is h grown =
    subst (λ (ks : List Descriptor). HasDigests ks new) (sym (next_element keys i key lt is)) (digests_push (take i keys) key old new h grown)

-- ---- the keys that need files

pub needed_none : (graph : List Node) (entries : List Entry) → AreNeeded graph entries [] []
needed_none graph entries k = (λ c. absurd (no_element k c), λ h. elim h [ inl c ↦ c | inr by ↦ absurd (no_element by.0 by.1) ])

-- a key was added, with the keys that it lists in the graph
abbrev Grows : List Node → Descriptor → List Descriptor → List Descriptor → Type 0
Grows graph key old new = (k : Descriptor) → Contains new k ↔ (Contains old k ⊎ ((key ≡ k) ⊎ IsEdge graph key k))

pub key_added : (graph : List Node) (key : Descriptor) (old new : List Descriptor) → value_at graph key ≡ None → new ≡ old ++ key ∷ [] → Grows graph key old new
key_added graph key old new gone is k = (
  λ c. elim (Contains-push_cases old key k (subst (λ (ks : List Descriptor). Contains ks k) is c)) [ inl was ↦ inl was | inr same ↦ inr (inl same) ],
  λ h. subst (λ (ks : List Descriptor). Contains ks k) (sym is) (elim h [
    | inl was ↦ Contains-append_left old (key ∷ []) k was
    | inr more ↦ elim more [ inl same ↦ subst (λ (x : Descriptor). Contains (old ++ key ∷ []) x) same (Contains-push old key) | inr edge ↦ cc (sym gone ∙ edge.1) ]
  ]),
)

pub keys_added : (graph : List Node) (key : Descriptor) (old pushed new listed : List Descriptor) → value_at graph key ≡ Some listed → pushed ≡ old ++ key ∷ [] → new ≡ pushed ++ listed → Grows graph key old new
keys_added graph key old pushed new listed lists is grown k = (to, back)
  where
    to : Contains new k → Contains old k ⊎ ((key ≡ k) ⊎ IsEdge graph key k)
    to c = elim (Contains-append_cases pushed listed k (subst (λ (ks : List Descriptor). Contains ks k) grown c)) [
      | inl first ↦ elim (Contains-push_cases old key k (subst (λ (ks : List Descriptor). Contains ks k) is first)) [ inl was ↦ inl was | inr same ↦ inr (inl same) ]
      | inr there ↦ inr (inr (listed, lists, there))
    ]

    in_pushed : Contains (old ++ key ∷ []) k → Contains new k
    in_pushed c = subst (λ (ks : List Descriptor). Contains ks k) (sym grown) (Contains-append_left pushed listed k (subst (λ (ks : List Descriptor). Contains ks k) (sym is) c))

    back : Contains old k ⊎ ((key ≡ k) ⊎ IsEdge graph key k) → Contains new k
    back h = elim h [
      | inl was ↦ in_pushed (Contains-append_left old (key ∷ []) k was)
      | inr more ↦ elim more [
        | inl same ↦ in_pushed (subst (λ (x : Descriptor). Contains (old ++ key ∷ []) x) same (Contains-push old key))
        | inr edge ↦
            let one : edge.0 ≡ listed = same_Some edge.0 listed (sym edge.1 ∙ lists) in
            subst (λ (ks : List Descriptor). Contains ks k) (sym grown) (Contains-append_right pushed listed k (subst (λ (ks : List Descriptor). Contains ks k) one edge.2))
      ]
    ]

-- and then the keys that it lists and that are not distributed
pub aside_added : (graph : List Node) (entries : List Entry) (key : Descriptor) (old mid new aside : List Descriptor) → Grows graph key old mid → new ≡ mid ++ aside → ((k : Descriptor) → Contains aside k ↔ ListsAside entries key k)
    → AddsNeeded graph entries key old new
aside_added graph entries key old mid new aside grows grown are k = (
  λ c. elim (Contains-append_cases mid aside k (subst (λ (ks : List Descriptor). Contains ks k) grown c)) [
    | inl first ↦ elim ((grows k).0 first) [
      | inl was ↦ inl was
      | inr more ↦ elim more [ inl same ↦ inr (inl same) | inr edge ↦ inr (inr (inl edge)) ]
    ]
    | inr there ↦ inr (inr (inr ((are k).0 there)))
  ],
  λ h. subst (λ (ks : List Descriptor). Contains ks k) (sym grown) (elim h [
    | inl was ↦ before ((grows k).1 (inl was))
    | inr more ↦ elim more [
      | inl same ↦ before ((grows k).1 (inr (inl same)))
      | inr lists ↦ elim lists [ inl edge ↦ before ((grows k).1 (inr (inr edge))) | inr there ↦ Contains-append_right mid aside k ((are k).1 there) ]
    ]
  ]),
)
  where
    before : Contains mid k → Contains (mid ++ aside) k
    before c = Contains-append_left mid aside k c

-- one key more, with the keys that it lists
pub needed_more : (graph : List Node) (entries : List Entry) (keys : List Descriptor) (i : ℕ) (key : Descriptor) (old new : List Descriptor) → i < length keys → key ≡ get_or keys i key → AreNeeded graph entries (take i keys) old → AddsNeeded graph entries key old new
    → AreNeeded graph entries (take (i + 1) keys) new
needed_more graph entries keys i key old new lt is h grown =
    subst (λ (ks : List Descriptor). AreNeeded graph entries ks new) (sym (next_element keys i key lt is)) (λ k. (to k, back k))
  where
    before : List Descriptor
    before = take i keys

    stays : (k : Descriptor) → Contains before k → Contains (before ++ key ∷ []) k
    stays k c = Contains-append_left before (key ∷ []) k c

    To : Descriptor → Type 0
    To k = Contains (before ++ key ∷ []) k ⊎ ((from : Descriptor) × Contains (before ++ key ∷ []) from × Lists graph entries from k)

    to : (k : Descriptor) → Contains new k → To k
    to k c = elim ((grown k).0 c) [
      | inl was ↦ elim ((h k).0 was) [ inl here ↦ inl (stays k here) | inr by ↦ inr (by.0, stays by.0 by.1, by.2) ]
      | inr more ↦ elim more [
        | inl same ↦ inl (subst (λ (x : Descriptor). Contains (before ++ key ∷ []) x) same (Contains-push before key))
        | inr lists ↦ inr (key, Contains-push before key, lists)
      ]
    ]

    back : (k : Descriptor) → To k → Contains new k
    back k t = elim t [
      | inl here ↦ elim (Contains-push_cases before key k here) [ inl was ↦ (grown k).1 (inl ((h k).1 (inl was))) | inr same ↦ (grown k).1 (inr (inl same)) ]
      | inr by ↦ elim (Contains-push_cases before key by.0 by.1) [
        | inl was ↦ (grown k).1 (inl ((h k).1 (inr (by.0, was, by.2))))
        | inr same ↦ (grown k).1 (inr (inr (subst (λ (x : Descriptor). Lists graph entries x k) (sym same) by.2)))
      ]
    ]

-- ---- the files that are not needed

digests_in_order : (needed held : Digests) (blobs : List (List ℕ × ℕ)) → map (λ (f : PrunedFile). f.digest) (unneeded_in needed held blobs) ≡ filter (λ (digest : List ℕ). not (contains (slice_cmp nat_cmp) needed digest)) (keys_of blobs)
digests_in_order needed held [] = refl
digests_in_order needed held (blob ∷ blobs) =
    elim (contains (slice_cmp nat_cmp) needed blob.0) as (λ b. map (λ (f : PrunedFile). f.digest) (map (pruned_file held) (cond (not b) (blob ∷ filter (λ (o : List ℕ × ℕ). not (contains (slice_cmp nat_cmp) needed o.0)) blobs) (filter (λ (o : List ℕ × ℕ). not (contains (slice_cmp nat_cmp) needed o.0)) blobs)))
    ≡ cond (not b) (blob.0 ∷ filter (λ (digest : List ℕ). not (contains (slice_cmp nat_cmp) needed digest)) (keys_of blobs)) (filter (λ (digest : List ℕ). not (contains (slice_cmp nat_cmp) needed digest)) (keys_of blobs))) [
      | true ↦ digests_in_order needed held blobs
      | false ↦ ap (λ (ds : List (List ℕ)). blob.0 ∷ ds) (digests_in_order needed held blobs)
    ]

both : (a b : Bool) → (a ≡ true → b ≡ true) → (b ≡ true → a ≡ true) → a ≡ b
both true true to back = refl
both true false to back = sym (to refl)
both false true to back = back refl
both false false to back = refl

pub are_unneeded : (file : File) (graph : List Node) (entries : List Entry) (kept : BTreeSet Descriptor) (kept_keys needed_keys held_keys : List Descriptor) (needed held : Digests) (blobs : List (List ℕ × ℕ)) → AreBlobs file blobs → kept_keys ≡ kept.keys → AreNeeded graph entries kept_keys needed_keys
    → HasDigests needed_keys needed → AreHeld graph held_keys → HasDigests held_keys held → AreUnneeded file graph entries kept (unneeded_in needed held blobs)
are_unneeded file graph entries kept kept_keys needed_keys held_keys needed held blobs are same are_needed has_needed are_held has_held = record {
  each = λ f. (to f, back f);
  order = subst (λ (ds : List (List ℕ)). IsStrictlySortedBy (slice_cmp nat_cmp) ds) (sym (digests_in_order needed held blobs)) (IsStrictlySortedBy-filter (slice_cmp nat_cmp) (λ (digest : List ℕ). not (contains (slice_cmp nat_cmp) needed digest)) (keys_of blobs) are.order);
}
  where
    Kept : Descriptor → Type 0
    Kept k = contains key_cmp kept k ≡ true

    among : (k : Descriptor) → Kept k → Contains kept_keys k
    among k h = subst (λ (ks : List Descriptor). Contains ks k) (sym same) ((btree_set_contains_iff key_cmp_total key_cmp_exact kept k).0 h)

    from_among : (k : Descriptor) → Contains kept_keys k → Kept k
    from_among k c = (btree_set_contains_iff key_cmp_total key_cmp_exact kept k).1 (subst (λ (ks : List Descriptor). Contains ks k) same c)

    needed_from_kept : (digest : List ℕ) → NeedsFile graph entries Kept digest → contains (slice_cmp nat_cmp) needed digest ≡ true
    needed_from_kept digest p =
        (has_needed digest).1 (p.0, (are_needed p.0).1 (elim p.1 [ inl is ↦ inl (among p.0 is) | inr by ↦ inr (by.0, among by.0 by.1, by.2) ]), p.2)

    kept_from_needed : (digest : List ℕ) → contains (slice_cmp nat_cmp) needed digest ≡ true → NeedsFile graph entries Kept digest
    kept_from_needed digest h =
        let p = (has_needed digest).0 h in
        (p.0, elim ((are_needed p.0).0 p.1) [ inl is ↦ inl (from_among p.0 is) | inr by ↦ inr (by.0, from_among by.0 by.1, by.2) ], p.2)

    held_iff : (digest : List ℕ) → (contains (slice_cmp nat_cmp) held digest ≡ true) ↔ HasDigestIn (λ (k : Descriptor). has_key graph k ≡ true) digest
    held_iff digest = (
      λ h. (let p = (has_held digest).0 h in (p.0, (are_held.each p.0).0 p.1, p.2)),
      λ p. (has_held digest).1 (p.0, (are_held.each p.0).1 p.1, p.2),
    )

    to : (f : PrunedFile) → Contains (unneeded_in needed held blobs) f → IsUnneeded file graph entries kept f
    to f h =
        let r = in_map_filter (pruned_file held) (λ (blob : List ℕ × ℕ). not (contains (slice_cmp nat_cmp) needed blob.0)) blobs f h in
        let blob = (are.each r.0.0 r.0.1).0 r.1 in
        subst (IsUnneeded file graph entries kept) r.3
        (record { is_digest = blob.0; there = blob.1; unneeded = λ p. cc (sym r.2 ∙ ap not (needed_from_kept r.0.0 p)); held = held_iff r.0.0 })

    free : (digest : List ℕ) → (NeedsFile graph entries Kept digest → ⊥) → not (contains (slice_cmp nat_cmp) needed digest) ≡ true
    free digest never = elim (cases_Bool (contains (slice_cmp nat_cmp) needed digest)) [ inl there ↦ absurd (never (kept_from_needed digest there)) | inr gone ↦ ap not gone ]

    back : (f : PrunedFile) → IsUnneeded file graph entries kept f → Contains (unneeded_in needed held blobs) f
    back f u =
        let there : Contains blobs (f.digest, f.length) = (are.each f.digest f.length).1 (u.is_digest, u.there) in
        let flag : contains (slice_cmp nat_cmp) held f.digest ≡ f.is_held = both (contains (slice_cmp nat_cmp) held f.digest) f.is_held (λ h. u.held.1 ((held_iff f.digest).0 h)) (λ h. (held_iff f.digest).1 (u.held.0 h)) in
        subst (λ (b : Bool). Contains (unneeded_in needed held blobs) (record { digest = f.digest; length = f.length; is_held = b })) flag
        (map_filter_in (pruned_file held) (λ (blob : List ℕ × ℕ). not (contains (slice_cmp nat_cmp) needed blob.0)) blobs (f.digest, f.length) there (free f.digest u.unneeded))
