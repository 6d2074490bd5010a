-- What a walk notes of manifests: their subjects, and the layers that are not distributed.
use Rattle.std.proofs.Common.{◌≡◌, ℕ, ◌+◌, ◌<◌, true, inl, inr, ◌⊎◌, List, [], ◌∷◌, ◌++◌, length, take, get_or, Option, Some, None, Ok, refl, sym, ap, subst, ◌∙◌, arith}
use Rattle.std.specs.Prelude.{◌↔◌, Contains}
use Rattle.std.specs.Map.{keys_of}
use Rattle.std.specs.Option.{unwrap_or}
use Rattle.std.proofs.lemmas.List.{map-append, take_more}
use Rattle.std.proofs.lemmas.List.Elements.{Contains-append_left, Contains-push, Contains-push_cases}
use Rattle.oci_manifest.specs.Descriptor.{Descriptor}
use Rattle.oci_manifest.specs.MediaTypes.{kind_of}
use Rattle.oci_manifest.specs.Subject.{HasSubject, subject_of}
use Rattle.oci_manifest.specs.declared.kind.Kind.{Kind}
use Rattle.oci_manifest.specs.declared.kind.Kind.TheVariants.{Leaf}
use Rattle.oci_manifest.specs.Undistributed.{undistributed_of}
use Rattle.oci_manifest.specs.declared.manifest.links.Links.{Links}
use Rattle.oci_manifest.proofs.Asides.{aside-sound, aside-complete}
use Rattle.oci_manifest.proofs.Subjects.{subject_of-sound, subject_of-complete}
use Rattle.oci_store.specs.Graph.{Node}
use Rattle.oci_store.specs.Keyed.{has_key}
use Rattle.oci_store.proofs.Lookups.{Contains-from_has_key, has_key-append_left, has_key-from_Contains}
use Rattle.oci_layout_store.specs.Blobs.{blob_at, blob_path}
use Rattle.oci_dir.specs.Device.{File}
use Rattle.oci_layout_store.specs.Opened.{listed_in}
use Rattle.oci_layout_store.specs.Stated.{AreLinksOf, ArePaired, AreStated, AreSubjects, AreUndistributed, IsNoted, ListsLayer, StatesIn, with_subject}
use Rattle.oci_layout_store.specs.declared.layout.stated.Stated.{Stated}
use Rattle.oci_layout_store.proofs.Walk.{leaf_lists}

abbrev Pairs : Type 0
Pairs = List (Descriptor × Descriptor)

-- ---- a file

-- a leaf lists and states nothing
pub leaf_links : (file : File) (k : Descriptor) (links : Links) → kind_of k.media_type ≡ Leaf → links.successors.items ≡ [] → links.subject ≡ None → links.undistributed.items ≡ [] → AreLinksOf file k links
unfolding subject_of undistributed_of
leaf_links file k links leaf no_keys no_subject no_layers = record {
  successors = no_keys ∙ sym (leaf_lists file k leaf);
  subject = ap (λ (kind : Kind). subject_of kind (blob_at file k.digest)) leaf ∙ ap (λ (o : Option Descriptor). Ok o) (sym no_subject);
  undistributed = ap (λ (kind : Kind). undistributed_of kind (blob_at file k.digest)) leaf ∙ ap (λ (ks : List Descriptor). Ok ks) (sym no_layers);
}

-- what the bytes that were read list and state is what the file does
pub read_links : (file : File) (k : Descriptor) (bytes : List ℕ) (links : Links) → file (blob_path k.digest) ≡ Some bytes → links.successors.items ≡ listed_in file k → subject_of (kind_of k.media_type) bytes ≡ Ok links.subject
    → undistributed_of (kind_of k.media_type) bytes ≡ Ok links.undistributed.items → AreLinksOf file k links
read_links file k bytes links at listed subject layers = record {
  successors = listed;
  subject = ap (λ (o : Option (List ℕ)). subject_of (kind_of k.media_type) (unwrap_or o [])) at ∙ subject;
  undistributed = ap (λ (o : Option (List ℕ)). undistributed_of (kind_of k.media_type) (unwrap_or o [])) at ∙ layers;
}

-- ---- the pairs of a graph

no_pair : (pair : Descriptor × Descriptor) → Contains [] pair → ⊥
no_pair pair h = omega (arith, h.1)

held_cases : (graph : List Node) (n : Node) (k : Descriptor) → has_key (graph ++ n ∷ []) k ≡ true → (has_key graph k ≡ true) ⊎ (n.0 ≡ k)
held_cases graph n k held =
    elim (Contains-push_cases (keys_of graph) n.0 k (subst (λ (ks : List Descriptor). Contains ks k) (map-append (λ (m : Node). m.0) graph (n ∷ [])) (Contains-from_has_key (graph ++ n ∷ []) k held))) [
      | inl was ↦ inl (has_key-from_Contains graph k was)
      | inr is ↦ inr is
    ]

held_last : (graph : List Node) (n : Node) → has_key (graph ++ n ∷ []) n.0 ≡ true
held_last graph n =
    has_key-from_Contains (graph ++ n ∷ []) n.0 (subst (λ (ks : List Descriptor). Contains ks n.0) (sym (map-append (λ (m : Node). m.0) graph (n ∷ []))) (Contains-push (keys_of graph) n.0))

-- a key was held with the subject of its file, if that states one
pub subject_added : (file : File) (graph : List Node) (pairs : Pairs) (k : Descriptor) (ks : List Descriptor) (subject : Option Descriptor) → subject_of (kind_of k.media_type) (blob_at file k.digest) ≡ Ok subject → AreSubjects file graph pairs
    → AreSubjects file (graph ++ (k, ks) ∷ []) (with_subject pairs k subject)
subject_added file graph pairs k ks None reads are other subject = (
  λ there.
      let states = (are other subject).0 there in
      (has_key-append_left graph ((k, ks) ∷ []) other states.0, states.1),
  λ states. elim (held_cases graph (k, ks) other states.0) [
    | inl was ↦ (are other subject).1 (was, states.1)
    | inr is ↦
        let own = subst (λ (d : Descriptor). HasSubject (kind_of d.media_type) (blob_at file d.digest) subject) (sym is) states.1 in
        let both : Ok None ≡ Ok (Some subject) = sym reads ∙ subject_of-complete (kind_of k.media_type) (blob_at file k.digest) subject own in
        cc both
  ],
)
subject_added file graph pairs k ks (Some found) reads are other subject = (
  λ there. elim (Contains-push_cases pairs (k, found) (other, subject) there) [
    | inl was ↦
        let states = (are other subject).0 was in
        (has_key-append_left graph ((k, ks) ∷ []) other states.0, states.1)
    | inr is ↦
        let states : StatesIn file (graph ++ (k, ks) ∷ []) k found = (held_last graph (k, ks), subject_of-sound (kind_of k.media_type) (blob_at file k.digest) found reads) in
        subst (λ (p : Descriptor × Descriptor). StatesIn file (graph ++ (k, ks) ∷ []) p.0 p.1) is states
  ],
  λ states. elim (held_cases graph (k, ks) other states.0) [
    | inl was ↦ Contains-append_left pairs ((k, found) ∷ []) (other, subject) ((are other subject).1 (was, states.1))
    | inr is ↦
        let own = subst (λ (d : Descriptor). HasSubject (kind_of d.media_type) (blob_at file d.digest) subject) (sym is) states.1 in
        let both : Ok (Some found) ≡ Ok (Some subject) = sym reads ∙ subject_of-complete (kind_of k.media_type) (blob_at file k.digest) subject own in
        let same : found ≡ subject = cc both in
        let pair : (k, found) ≡ (other, subject) = ap (λ (d : Descriptor). (d, found)) is ∙ ap (λ (s : Descriptor). (other, s)) same in
        subst (Contains (pairs ++ (k, found) ∷ [])) pair (Contains-push pairs (k, found))
  ],
)

-- ---- the layers of a graph

no_two : (pairs : Pairs) (from other : Descriptor) → pairs ≡ [] → Contains pairs (from, other) → ⊥
no_two pairs from other none there = no_pair (from, other) (subst (λ (ps : Pairs). Contains ps (from, other)) none there)

-- the pairs with no key are the same
pub paired_none : (pairs : Pairs) (k : Descriptor) → ArePaired pairs k [] pairs
paired_none pairs k from other = (
  λ there. inl there,
  λ h. elim h [
    | inl was ↦ was
    | inr is ↦ absurd (omega (arith, is.1.1))
  ],
)

-- one pair more
paired_more : (old pairs new : Pairs) (k other : Descriptor) (found : List Descriptor) → new ≡ pairs ++ (k, other) ∷ [] → ArePaired old k found pairs → ArePaired old k (found ++ other ∷ []) new
paired_more old pairs new k other found grown are from each = (
  λ there. elim (Contains-push_cases pairs (k, other) (from, each) (subst (λ (ps : Pairs). Contains ps (from, each)) grown there)) [
    | inl was ↦ elim ((are from each).0 was) [
      | inl before ↦ inl before
      | inr is ↦ inr (is.0, Contains-append_left found (other ∷ []) each is.1)
    ]
    | inr is ↦
        inr (ap (λ (p : Descriptor × Descriptor). p.0) is, subst (λ (x : Descriptor). Contains (found ++ other ∷ []) x) (ap (λ (p : Descriptor × Descriptor). p.1) is) (Contains-push found other))
  ],
  λ h. subst (λ (ps : Pairs). Contains ps (from, each)) (sym grown) (elim h [
    | inl before ↦ Contains-append_left pairs ((k, other) ∷ []) (from, each) ((are from each).1 (inl before))
    | inr is ↦ elim (Contains-push_cases found other each is.1) [
      | inl was ↦ Contains-append_left pairs ((k, other) ∷ []) (from, each) ((are from each).1 (inr (is.0, was)))
      | inr last ↦
          let pair : (k, other) ≡ (from, each) = ap (λ (d : Descriptor). (d, other)) is.0 ∙ ap (λ (x : Descriptor). (from, x)) last in
          subst (Contains (pairs ++ (k, other) ∷ [])) pair (Contains-push pairs (k, other))
    ]
  ]),
)

-- the pair of the next key of a list
pub paired_next : (old pairs new : Pairs) (k other : Descriptor) (found : List Descriptor) (i : ℕ) → i < length found → other ≡ get_or found i other → new ≡ pairs ++ (k, other) ∷ [] → ArePaired old k (take i found) pairs → ArePaired old k (take (i + 1) found) new
paired_next old pairs new k other found i lt is grown are =
    subst (λ (ks : List Descriptor). ArePaired old k ks new) (sym (take_more found i other lt ∙ ap (λ (y : Descriptor). take i found ++ y ∷ []) (sym is))) (paired_more old pairs new k other (take i found) grown are)

-- a key was held with the layers of its file
layers_added : (file : File) (graph : List Node) (old new : Pairs) (k : Descriptor) (ks found : List Descriptor) → undistributed_of (kind_of k.media_type) (blob_at file k.digest) ≡ Ok found → ArePaired old k found new
    → AreUndistributed file graph old → AreUndistributed file (graph ++ (k, ks) ∷ []) new
layers_added file graph old new k ks found reads paired are from layer = (
  λ there. elim ((paired from layer).0 there) [
    | inl was ↦
        let p = (are from layer).0 was in
        (has_key-append_left graph ((k, ks) ∷ []) from p.0, p.1)
    | inr is ↦
        let own : (has_key (graph ++ (k, ks) ∷ []) k ≡ true) × ListsLayer k (blob_at file k.digest) layer =
        (held_last graph (k, ks), (found, aside-sound (kind_of k.media_type) (blob_at file k.digest) found reads, is.1)) in
        subst (λ (d : Descriptor). (has_key (graph ++ (k, ks) ∷ []) d ≡ true) × ListsLayer d (blob_at file d.digest) layer) is.0 own
  ],
  λ p. (paired from layer).1 (elim (held_cases graph (k, ks) from p.0) [
    | inl was ↦ inl ((are from layer).1 (was, p.1))
    | inr is ↦
        let own : ListsLayer k (blob_at file k.digest) layer = subst (λ (d : Descriptor). ListsLayer d (blob_at file d.digest) layer) (sym is) p.1 in
        let both : Ok own.0 ≡ Ok found = sym (aside-complete (kind_of k.media_type) (blob_at file k.digest) own.0 own.1) ∙ reads in
        let same : own.0 ≡ found = cc both in
        inr (is, subst (λ (ls : List Descriptor). Contains ls layer) same own.2)
  ]),
)

-- ---- both

-- nothing is stated in an empty graph
pub none_stated : (file : File) (graph : List Node) (stated : Stated) → graph ≡ [] → stated.subjects.items ≡ [] → stated.undistributed.items ≡ [] → AreStated file graph stated
none_stated file graph stated no_graph no_subjects no_layers = record {
  subjects = λ k subject. (λ there. absurd (no_two stated.subjects.items k subject no_subjects there), λ states. absurd (none k states.0));
  undistributed = λ k layer. (λ there. absurd (no_two stated.undistributed.items k layer no_layers there), λ lists. absurd (none k lists.0));
}
  where
    none : (k : Descriptor) → has_key graph k ≡ true → ⊥
    none k held = cc (subst (λ (ns : List Node). has_key ns k ≡ true) no_graph held)

-- a key was held, with what its file lists and states
pub stated_grown : (file : File) (graph now : List Node) (old new : Stated) (k : Descriptor) (links : Links) → now ≡ graph ++ (k, links.successors.items) ∷ [] → IsNoted old k links new → AreLinksOf file k links → AreStated file graph old → AreStated file now new
stated_grown file graph now old new k links grown noted reads are = record {
  subjects = rw (grown, noted.subjects) (subject_added file graph old.subjects.items k links.successors.items links.subject reads.subject are.subjects);
  undistributed = rw grown (layers_added file graph old.undistributed.items new.undistributed.items k links.successors.items links.undistributed.items reads.undistributed noted.undistributed are.undistributed);
}
