-- The subjects that a layout remembers, against what its files state.
use Rattle.std.proofs.Common.{◌≡◌, ℕ, ◌+◌, ◌<◌, inl, inr, List, [], ◌∷◌, ◌++◌, length, get_or, take, is_some, sym, ap, subst, ◌∙◌}
use Rattle.std.specs.Prelude.{◌↔◌, Contains}
use Rattle.std.proofs.lemmas.List.Elements.{Contains-push, Contains-push_cases, Contains-append_left, Contains-append_right, Contains-append_cases}
use Rattle.oci_manifest.specs.Descriptor.{Descriptor}
use Rattle.oci_manifest.specs.MediaTypes.{kind_of}
use Rattle.oci_manifest.specs.Subject.{HasSubject}
use Rattle.oci_store.specs.Graph.{Node}
use Rattle.oci_store.specs.Tags.{Tags}
use Rattle.oci_store.proofs.Lookups.{has_key-same_keys}
use Rattle.oci_layout_store.specs.Blobs.{stored, keys_of-stored}
use Rattle.oci_dir.specs.Device.{File}
use Rattle.oci_layout_store.specs.Stated.{AreSubjects, StatesIn}
use Rattle.oci_layout_store.proofs.Stored.{value_at-stored}
use Rattle.oci_prune.specs.Attached.{AreFollowers, HasAttached, followers_in}
use Rattle.oci_prune.specs.Subjects.{HasPairs, IsAdded, Referrers, States, referrers_in}
use Rattle.oci_prune.specs.declared.attachments.Attachments.{Attachments}
use Rattle.oci_prune.proofs.Elements.{next_element}

abbrev Pairs : Type 0
Pairs = List (Descriptor × Descriptor)

abbrev Pair : Type 0
Pair = Descriptor × Descriptor

-- ---- the map

pairs_push : (pairs : Pairs) (p : Pair) (old new : Referrers) → HasPairs pairs old → IsAdded p.0 p.1.digest old new → HasPairs (pairs ++ p ∷ []) new
pairs_push pairs p old new has added k subject = (
  λ h. elim ((added k subject).0 h) [
    | inl was ↦
        let r = (has k subject).0 was in
        (r.0, Contains-append_left pairs (p ∷ []) (k, r.0) r.1, r.2)
    | inr both ↦ (p.1, subst (λ (j : Descriptor). Contains (pairs ++ p ∷ []) (j, p.1)) both.0 (Contains-push pairs p), both.1)
  ],
  λ r. (added k subject).1 (elim (Contains-push_cases pairs p (k, r.0) r.1) [
    | inl was ↦ inl ((has k subject).1 (r.0, was, r.2))
    | inr is ↦ inr (ap (λ (q : Pair). q.0) is, ap (λ (q : Pair). q.1.digest) is ∙ r.2)
  ]),
)

-- the map of one pair more
pub pairs_more : (pairs : Pairs) (i : ℕ) (p : Pair) (old new : Referrers) → i < length pairs → p ≡ get_or pairs i p → HasPairs (take i pairs) old → IsAdded p.0 p.1.digest old new → HasPairs (take (i + 1) pairs) new
pairs_more pairs i p old new lt is has added =
    subst (λ (ps : Pairs). HasPairs ps new) (sym (next_element pairs i p lt is)) (pairs_push (take i pairs) p old new has added)

-- ---- what the files state

-- what a held key's file states is what the key states
pub stated_in : (file : File) (graph : List Node) (k subject : Descriptor) → StatesIn file graph k subject ↔ States (stored file graph) k subject
stated_in file graph k subject = (
  λ in_file. (_, value_at-stored file graph k in_file.0, in_file.1),
  λ states.
      let held = has_key-same_keys (stored file graph) graph k (sym (keys_of-stored file graph)) (ap is_some states.1) in
      let same : states.0 ≡ _ = cc (sym states.1 ∙ value_at-stored file graph k held) in
      (held, subst (λ (bytes : List ℕ). HasSubject (kind_of k.media_type) bytes subject) same states.2),
)

-- the remembered subjects, and tags, are what is attached
pub remembered_attached : (file : File) (graph : List Node) (pairs : Pairs) (tags : Tags) (attachments : Attachments) → AreSubjects file graph pairs → HasPairs pairs attachments.referrers → AreFollowers tags attachments.followers
    → HasAttached (stored file graph) tags attachments
remembered_attached file graph pairs tags attachments are has follow k subject = (
  λ h. elim (Contains-append_cases (referrers_in attachments.referrers subject) (followers_in attachments.followers subject) k h) [
    | inl first ↦
        let r = (has k subject).0 first in
        inl (r.0, (stated_in file graph k r.0).0 ((are k r.0).0 r.1), r.2)
    | inr second ↦ inr ((follow k subject).0 second)
  ],
  λ p. elim p [
    | inl refers ↦
        let there = (has k subject).1 (refers.0, (are k refers.0).1 ((stated_in file graph k refers.0).1 refers.1), refers.2) in
        Contains-append_left (referrers_in attachments.referrers subject) (followers_in attachments.followers subject) k there
    | inr follows ↦ Contains-append_right (referrers_in attachments.referrers subject) (followers_in attachments.followers subject) k ((follow k subject).1 follows)
  ],
)
