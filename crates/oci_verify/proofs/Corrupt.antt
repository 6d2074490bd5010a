-- The set of corrupt keys, one key more at a time.
use Rattle.std.proofs.Common.{◌≡◌, ℕ, ◌+◌, ◌<◌, ◌&&◌, Bool, true, false, not, ◌⊎◌, inl, inr, List, [], ◌∷◌, ◌++◌, length, get_or, slice_get, option_map, take, Some, None, refl, sym, ap, subst, ◌∙◌, arith}
use Rattle.std.specs.Prelude.{◌↔◌, Contains}
use Rattle.std.specs.BTreeSet.{BTreeSet, contains}
use Rattle.std.specs.List.Sorted.{IsStrictlySortedBy}
use Rattle.std.specs.Map.{keys_of}
use Rattle.std.proofs.lemmas.List.{take_more}
use Rattle.std.proofs.lemmas.List.Elements.{Contains-push, Contains-push_cases, Contains-append_left}
use Rattle.std.proofs.lemmas.Option.{none-some, slice_get_cases}
use Rattle.std.proofs.lemmas.Map.Views.{btree_set_contains_iff}
use Rattle.oci_dir.specs.Device.{File}
use Rattle.oci_layout_store.proofs.Loose.{keys-more, no_element}
use Rattle.oci_manifest.specs.Descriptor.{Descriptor, key_cmp}
use Rattle.oci_store.specs.Graph.{Node}
use Rattle.oci_store.proofs.KeyOrder.{key_cmp_total, key_cmp_exact}
use Rattle.oci_store.proofs.Lookups.{has_key-from_Contains, Contains-from_has_key}
use Rattle.oci_verify.specs.Intact.{is_matching}
use Rattle.oci_verify.specs.Corrupt.{AreCorrupt, AreCorruptOf}

-- a set has those of the keys that pass a test
abbrev pub HasAsked : (Descriptor → Bool) → List Descriptor → BTreeSet Descriptor → Type 0
HasAsked is_asked keys set = (k : Descriptor) → (contains key_cmp set k ≡ true) ↔ ((is_asked k ≡ true) × Contains keys k)

HasAsked-nil : (is_asked : Descriptor → Bool) (set : BTreeSet Descriptor) → set.keys ≡ [] → HasAsked is_asked [] set
HasAsked-nil is_asked set none k = (
  λ h. absurd (no_element k (subst (λ (ks : List Descriptor). Contains ks k) none ((btree_set_contains_iff key_cmp_total key_cmp_exact set k).0 h))),
  λ h. absurd (no_element k h.1),
)

pub HasAsked-none : (is_asked : Descriptor → Bool) (keys : List Descriptor) (set : BTreeSet Descriptor) → set.keys ≡ [] → HasAsked is_asked (take 0 keys) set
HasAsked-none is_asked [] set none = HasAsked-nil is_asked set none
HasAsked-none is_asked (k ∷ keys) set none = HasAsked-nil is_asked set none

-- one key more, which came if it passes the test
pub HasAsked-more : (is_asked : Descriptor → Bool) (keys : List Descriptor) (i : ℕ) (old new : BTreeSet Descriptor) (key : Descriptor) (answer : Bool) → i < length keys → key ≡ get_or keys i key → answer ≡ is_asked key → HasAsked is_asked (take i keys) old
    → ((k : Descriptor) → (contains key_cmp new k ≡ true) ↔ ((contains key_cmp old k ≡ true) ⊎ ((k ≡ key) × (answer ≡ true)))) → HasAsked is_asked (take (i + 1) keys) new
HasAsked-more is_asked keys i old new key answer lt at right before grown k =
    let next : take (i + 1) keys ≡ take i keys ++ key ∷ [] = take_more keys i key lt ∙ ap (λ (x : Descriptor). take i keys ++ x ∷ []) (sym at) in (
      λ h. elim ((grown k).0 h) [
        | inl was ↦
            let p = (before k).0 was in
            (p.0, subst (λ (ks : List Descriptor). Contains ks k) (sym next) (Contains-append_left (take i keys) (key ∷ []) k p.1))
        | inr is ↦ (
          ap is_asked is.0 ∙ sym right ∙ is.1,
          subst (λ (ks : List Descriptor). Contains ks k) (sym next) (subst (λ (x : Descriptor). Contains (take i keys ++ key ∷ []) x) (sym is.0) (Contains-push (take i keys) key)),
        )
      ],
      λ h. (grown k).1 (elim (Contains-push_cases (take i keys) key k (subst (λ (ks : List Descriptor). Contains ks k) next h.1)) [
        | inl was ↦ inl ((before k).1 (h.0, was))
        | inr is ↦ inr (sym is, right ∙ ap is_asked is ∙ h.0)
      ]),
    )

-- a set has the damaged keys, and those of the held ones so far whose files do not match them, if they
-- pass a test
abbrev pub HasCorrupt : (Descriptor → Bool) → File → List Descriptor → List Descriptor → BTreeSet Descriptor → Type 0
HasCorrupt is_asked file damaged keys set = (k : Descriptor) → (contains key_cmp set k ≡ true) ↔ ((is_asked k ≡ true) × (Contains damaged k ⊎ (Contains keys k × (is_matching file k ≡ false))))

HasCorrupt-nil : (is_asked : Descriptor → Bool) (file : File) (damaged : List Descriptor) (set : BTreeSet Descriptor) → HasAsked is_asked damaged set → HasCorrupt is_asked file damaged [] set
HasCorrupt-nil is_asked file damaged set is k = (
  λ h. let p = (is k).0 h in (p.0, inl p.1),
  λ h. elim h.1 [ inl there ↦ (is k).1 (h.0, there) | inr held ↦ absurd (no_element k held.0) ],
)

pub HasCorrupt-none : (is_asked : Descriptor → Bool) (file : File) (damaged : List Descriptor) (graph : List Node) (set : BTreeSet Descriptor) → HasAsked is_asked damaged set → HasCorrupt is_asked file damaged (keys_of (take 0 graph)) set
HasCorrupt-none is_asked file damaged [] set is = HasCorrupt-nil is_asked file damaged set is
HasCorrupt-none is_asked file damaged (n ∷ graph) set is = HasCorrupt-nil is_asked file damaged set is

HasCorrupt-push : (is_asked : Descriptor → Bool) (file : File) (damaged keys : List Descriptor) (old new : BTreeSet Descriptor) (key : Descriptor) → HasCorrupt is_asked file damaged keys old
    → ((k : Descriptor) → (contains key_cmp new k ≡ true) ↔ ((contains key_cmp old k ≡ true) ⊎ ((k ≡ key) × (is_asked key ≡ true) × (is_matching file key ≡ false)))) → HasCorrupt is_asked file damaged (keys ++ key ∷ []) new
HasCorrupt-push is_asked file damaged keys old new key before grown k = (
  λ h. elim ((grown k).0 h) [
    | inl was ↦
        let p = (before k).0 was in
        elim p.1 [
          | inl there ↦ (p.0, inl there)
          | inr held ↦ (p.0, inr (Contains-append_left keys (key ∷ []) k held.0, held.1))
        ]
    | inr is ↦ (ap is_asked is.0 ∙ is.1, inr (subst (λ (x : Descriptor). Contains (keys ++ key ∷ []) x) (sym is.0) (Contains-push keys key), ap (is_matching file) is.0 ∙ is.2))
  ],
  λ h. (grown k).1 (elim h.1 [
    | inl there ↦ inl ((before k).1 (h.0, inl there))
    | inr held ↦ elim (Contains-push_cases keys key k held.0) [
      | inl was ↦ inl ((before k).1 (h.0, inr (was, held.1)))
      | inr is ↦ inr (sym is, ap is_asked is ∙ h.0, ap (is_matching file) is ∙ held.1)
    ]
  ]),
)

-- at each place is a key
pub no_key : (graph : List Node) (i : ℕ) → i < length graph → option_map (λ (n : Node). n.0) (slice_get graph i) ≡ None → ⊥
no_key graph i lt none =
    elim (slice_get_cases graph i).1 [
      | inl here ↦ none-some (here.0).0 (sym none ∙ ap (option_map (λ (n : Node). n.0)) here.2)
      | inr past ↦ absurd (omega (arith, lt, past.0))
    ]

-- an answer is true exactly if the key is asked for, and its file does not match
answered : (answer a b : Bool) → answer ≡ (a && not b) → (answer ≡ true) ↔ ((a ≡ true) × (b ≡ false))
answered answer true true is = (λ h. (refl, cc (is, h)), λ h. cc h.1)
answered answer true false is = (λ h. (refl, refl), λ h. is)
answered answer false b is = (λ h. (cc (is, h), cc (is, h)), λ h. cc h.0)

pub HasCorrupt-more : (is_asked : Descriptor → Bool) (file : File) (damaged : List Descriptor) (graph : List Node) (i : ℕ) (old new : BTreeSet Descriptor) (key : Descriptor) (answer : Bool) → i < length graph → option_map (λ (n : Node). n.0) (slice_get graph i) ≡ Some key
    → answer ≡ (is_asked key && not (is_matching file key)) → HasCorrupt is_asked file damaged (keys_of (take i graph)) old
    → ((k : Descriptor) → (contains key_cmp new k ≡ true) ↔ ((contains key_cmp old k ≡ true) ⊎ ((k ≡ key) × (answer ≡ true)))) → HasCorrupt is_asked file damaged (keys_of (take (i + 1) graph)) new
HasCorrupt-more is_asked file damaged graph i old new key answer lt at right before grown =
    let iff = answered answer (is_asked key) (is_matching file key) right in
    subst (λ (ks : List Descriptor). HasCorrupt is_asked file damaged ks new) (sym (keys-more graph i key lt at))
    (HasCorrupt-push is_asked file damaged (keys_of (take i graph)) old new key before (λ k. (
      λ h. elim ((grown k).0 h) [
        | inl was ↦ inl was
        | inr is ↦
            let p = iff.0 is.1 in
            inr (is.0, p.0, p.1)
      ],
      λ h. (grown k).1 (elim h [ inl was ↦ inl was | inr is ↦ inr (is.0, iff.1 (is.1, is.2)) ]),
    )))

-- all held keys
pub AreCorruptOf-all : (is_asked : Descriptor → Bool) (file : File) (damaged : List Descriptor) (graph : List Node) (set : BTreeSet Descriptor) (keys : List Descriptor) → HasCorrupt is_asked file damaged (keys_of graph) set → keys ≡ set.keys → IsStrictlySortedBy key_cmp keys
    → AreCorruptOf is_asked file graph damaged keys
AreCorruptOf-all is_asked file damaged graph set keys has e order = record {
  each = λ k.
      let iff = btree_set_contains_iff key_cmp_total key_cmp_exact set k in (
        λ c.
            let p = (has k).0 (iff.1 (subst (λ (ks : List Descriptor). Contains ks k) e c)) in
            elim p.1 [
              | inl there ↦ (p.0, inl there)
              | inr held ↦ (p.0, inr (has_key-from_Contains graph k held.0, held.1))
            ],
        λ h. subst (λ (ks : List Descriptor). Contains ks k) (sym e) (iff.0 ((has k).1 (elim h.1 [
          | inl there ↦ (h.0, inl there)
          | inr held ↦ (h.0, inr (Contains-from_has_key graph k held.0, held.1))
        ]))),
      );
  order = order;
}

-- where each key is asked for
pub AreCorrupt-any : (file : File) (graph : List Node) (damaged keys : List Descriptor) → AreCorruptOf (λ (k : Descriptor). true) file graph damaged keys → AreCorrupt file graph damaged keys
AreCorrupt-any file graph damaged keys are = record {
  each = λ k. (λ there. ((are.each k).0 there).1, λ h. (are.each k).1 (refl, h));
  order = are.order;
}
