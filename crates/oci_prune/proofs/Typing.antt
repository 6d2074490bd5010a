-- What is attached to keys of some types, from its parts.
use Rattle.std.proofs.Common.{◌≡◌, ℕ, true, inl, inr, List, [], ◌∷◌, map, Bor, nat_cmp, is_some, sym, ap, subst}
use Rattle.std.specs.Prelude.{◌↔◌, Contains}
use Rattle.std.specs.BTreeSet.{BTreeSet, contains}
use Rattle.std.specs.Cmp.Lexicographic.{slice_cmp}
use Rattle.std.specs.List.{list_any}
use Rattle.std.specs.Map.{keys_of}
use Rattle.std.specs.Str.{bytes_eq}
use Rattle.std.proofs.lemmas.Bool.{or_cases, or_left, or_right}
use Rattle.std.proofs.lemmas.Map.Views.{btree_set_contains_iff}
use Rattle.std.proofs.lemmas.Slice.Eq.{bytes_eq-Decides}
use Rattle.oci_manifest.specs.Descriptor.{Descriptor}
use Rattle.oci_store.specs.Content.{Entry}
use Rattle.oci_store.specs.Graph.{Node}
use Rattle.oci_store.specs.State.{State}
use Rattle.oci_store.proofs.KeyOrder.{key_cmp_total, key_cmp_exact}
use Rattle.oci_store.proofs.Lookups.{has_key-same_keys}
use Rattle.oci_prune.specs.Attached.{AreAttachments, AttachedIn, attached_in}
use Rattle.oci_prune.specs.Belongs.{AreMembers}
use Rattle.oci_prune.specs.Files.{HasDigests}
use Rattle.oci_prune.specs.Plan.{AreHeld}
use Rattle.oci_prune.specs.Subjects.{Refers}
use Rattle.oci_prune.specs.Typed.{IsOfTypes, IsReachedDigest, RefersByTypes, StatesOfTypes}
use Rattle.oci_prune.specs.declared.attachments.Attachments.{Attachments}
use Rattle.oci_prune.proofs.Elements.{no_element, Contains-head, Contains-tail, Contains-cons}
use Rattle.oci_prune.proofs.Plans.{Same, kept_same, kept_from_reached, reached_from_kept}

abbrev Keys : Type 0
Keys = List Descriptor

abbrev Digests : Type 0
Digests = BTreeSet (List ℕ)

-- ---- texts

-- a text is found among borrowed ones
pub among_texts : (texts : List (Bor (List ℕ))) (text : List ℕ) → list_any (λ (t : Bor (List ℕ)). bytes_eq t.now text) texts ≡ true → Contains (map (λ (t : Bor (List ℕ)). t.now) texts) text
among_texts [] text h = cc h
among_texts (t ∷ texts) text h =
    elim (or_cases (bytes_eq t.now text) (list_any (λ (u : Bor (List ℕ)). bytes_eq u.now text) texts) h) [
      | inl is ↦ subst (Contains (t.now ∷ map (λ (u : Bor (List ℕ)). u.now) texts)) ((bytes_eq-Decides t.now text).0 is) (Contains-head t.now (map (λ (u : Bor (List ℕ)). u.now) texts))
      | inr later ↦ Contains-tail t.now (map (λ (u : Bor (List ℕ)). u.now) texts) text (among_texts texts text later)
    ]

pub found_among : (texts : List (Bor (List ℕ))) (text : List ℕ) → Contains (map (λ (t : Bor (List ℕ)). t.now) texts) text → list_any (λ (t : Bor (List ℕ)). bytes_eq t.now text) texts ≡ true
found_among [] text h = absurd (no_element text h)
found_among (t ∷ texts) text h =
    elim (Contains-cons t.now (map (λ (u : Bor (List ℕ)). u.now) texts) text h) [
      | inl is ↦ or_left (bytes_eq t.now text) (list_any (λ (u : Bor (List ℕ)). bytes_eq u.now text) texts) ((bytes_eq-Decides t.now text).1 is)
      | inr later ↦ or_right (bytes_eq t.now text) (list_any (λ (u : Bor (List ℕ)). bytes_eq u.now text) texts) (found_among texts text later)
    ]

-- ---- digests and tables

-- the digests of the members to which nothing is attached are those that the given keys reach
pub reached_exact : (graph : List Node) (keys listed : Keys) (attachments : Attachments) (set : BTreeSet Descriptor) (digests : Digests) → ((k subject : Descriptor) → AttachedIn attachments k subject → ⊥) → AreMembers graph keys (AttachedIn attachments) set
    → listed ≡ set.keys → HasDigests listed digests → (digest : List ℕ) → (contains (slice_cmp nat_cmp) digests digest ≡ true) ↔ IsReachedDigest graph keys digest
reached_exact graph keys listed attachments set digests none are same has digest = (
  λ h.
      let p = (has digest).0 h in
      let member = (btree_set_contains_iff key_cmp_total key_cmp_exact set p.0).1 (subst (λ (ks : Keys). Contains ks p.0) same p.1) in
      (p.0, reached_from_kept graph keys p.0 (kept_same graph keys (AttachedIn attachments) (λ _ _. ⊥) none p.0 ((are p.0).0 member)), p.2),
  λ r.
      let member = (are r.0).1 (kept_from_reached graph keys (AttachedIn attachments) r.0 r.1.0 r.1.1) in
      (has digest).1 (r.0, subst (λ (ks : Keys). Contains ks r.0) (sym same) ((btree_set_contains_iff key_cmp_total key_cmp_exact set r.0).0 member), r.2),
)

-- the tables of what is attached, if the digests are those that the given keys reach
pub typed_same : (store : State) (keys held : Keys) (digests : Digests) (types : List (List ℕ)) (attachments : Attachments) → keys_of store.nodes ≡ keys_of store.entries → AreHeld store.nodes held
    → ((digest : List ℕ) → (contains (slice_cmp nat_cmp) digests digest ≡ true) ↔ IsReachedDigest store.nodes keys digest) → AreAttachments (StatesOfTypes store.entries digests types) held [] attachments → Same (AttachedIn attachments) (RefersByTypes store keys types)
typed_same store keys held digests types attachments same is_held reached are k subject = (
  λ h. elim ((are k subject).0 h) [
    | inl p ↦ record {
      refers = (p.1.0, p.1.1.0, p.1.2);
      typed = λ r. p.1.1.1 ((reached p.1.0.digest).1 (subst (λ (d : List ℕ). IsReachedDigest store.nodes keys d) (sym p.1.2) r));
    }
    | inr follows ↦ absurd (no_element (follows.0, k) follows.1)
  ],
  λ h.
      let refers = h.refers in
      (are k subject).1
      (inl ((is_held.each k).1 (has_key-same_keys store.entries store.nodes k (sym same) (ap is_some refers.1.1)), (refers.0, (refers.1, λ r. h.typed (subst (λ (d : List ℕ). IsReachedDigest store.nodes keys d) refers.2 ((reached refers.0.digest).0 r))), refers.2))),
)

-- the referrers of a key, if the digests have its digest
pub typed_referrers : (entries : List Entry) (keys found : Keys) (subject : Descriptor) (digests : Digests) (types : List (List ℕ)) (attachments : Attachments) → contains (slice_cmp nat_cmp) digests subject.digest ≡ true
    → AreAttachments (StatesOfTypes entries digests types) keys [] attachments → found ≡ attached_in attachments subject → (k : Descriptor) → Contains found k ↔ (Contains keys k × Refers entries k subject × IsOfTypes entries types k)
typed_referrers entries keys found subject digests types attachments has are e k = (
  λ h. elim ((are k subject).0 (subst (λ (ks : Keys). Contains ks k) e h)) [
    | inl p ↦ (p.0, (p.1.0, p.1.1.0, p.1.2), p.1.1.1 (subst (λ (d : List ℕ). contains (slice_cmp nat_cmp) digests d ≡ true) (sym p.1.2) has))
    | inr follows ↦ absurd (no_element (follows.0, k) follows.1)
  ],
  λ p. subst (λ (ks : Keys). Contains ks k) (sym e) ((are k subject).1 (inl (p.0, (p.1.0, (p.1.1, λ _. p.2), p.1.2)))),
)
