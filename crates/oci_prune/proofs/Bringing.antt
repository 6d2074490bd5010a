-- What belongs to keys, from its parts.
use Rattle.std.proofs.Common.{◌≡◌, ℕ, ◌+◌, ◌<◌, true, inl, inr, List, [], ◌∷◌, ◌++◌, filter, Result, Ok, Err, length, get_or, take, is_some, sym, ap, subst}
use Rattle.std.specs.Prelude.{Contains, IfOk, IfErr}
use Rattle.std.specs.BTreeSet.{BTreeSet, contains}
use Rattle.std.specs.List.{IsDistinct}
use Rattle.std.specs.Map.{keys_of}
use Rattle.std.proofs.lemmas.List.Elements.{Contains-push, Contains-push_cases, Contains-append_left, Contains-append_right}
use Rattle.std.proofs.lemmas.Map.Views.{btree_set_contains_iff}
use Rattle.std.proofs.lemmas.Result.{IfErr-weaker}
use Rattle.oci_manifest.specs.Descriptor.{Descriptor, key_cmp, same_key, is_among}
use Rattle.oci_store.specs.Content.{Entry}
use Rattle.oci_store.specs.Graph.{Node}
use Rattle.oci_store.specs.Tags.{Tags, by_bytes}
use Rattle.oci_store.specs.Visiting.{with_keys}
use Rattle.oci_store.proofs.KeyOrder.{key_cmp_total, key_cmp_exact}
use Rattle.oci_store.proofs.Lookups.{has_key-same_keys}
use Rattle.oci_store.proofs.Membership.{Keys, Contains-from_among, among_from_Contains, among-with_keys, stays-with_keys, there-with_keys, among-filter, among_filter_from}
use Rattle.oci_prune.specs.Attached.{AttachedBy, AttachedIn, attached_in, followers_in, AreAttachments, AreFollowers, follows_one}
use Rattle.oci_prune.specs.Belonging.{AreAttached, AreAttachedTo, IsBelonging, IsComplete}
use Rattle.oci_prune.specs.Belongs.{Belongs, given, needed, AreMembers}
use Rattle.oci_prune.specs.Plan.{AreHeld}
use Rattle.oci_prune.specs.Subjects.{States, referrers_in}
use Rattle.oci_prune.specs.declared.attachments.Attachments.{Attachments}
use Rattle.oci_prune.specs.declared.belonging.Belonging.{Belonging}
use Rattle.oci_prune_fault.specs.declared.fault.PruneFault.{PruneFault}
use Rattle.oci_prune_fault.specs.declared.fault.PruneFault.TheVariants as fault
use Rattle.oci_prune.proofs.Elements.{no_element, next_element}
use Rattle.oci_prune.proofs.Keeping.{held_from_kept}
use Rattle.oci_prune.proofs.Plans.{Same, kept_same, are_kept_same}
use Rattle.oci_prune.proofs.Reaching.{members_reached, member_from_reached}

abbrev Relation : Type 1
Relation = Descriptor → Descriptor → Type 0

-- ---- the attached members

pub attached_to_none : (attachments : Attachments) (set : BTreeSet Descriptor) → AreAttachedTo attachments set [] []
attached_to_none attachments set k = (λ h. absurd (no_element k h), λ p. absurd (no_element p.1.0 p.1.1))

attached_to_push : (attachments : Attachments) (set : BTreeSet Descriptor) (subjects : Keys) (subject : Descriptor) (old new : Keys) → AreAttachedTo attachments set subjects old
    → new ≡ with_keys old (filter (λ (k : Descriptor). contains key_cmp set k) (attached_in attachments subject)) → AreAttachedTo attachments set (subjects ++ subject ∷ []) new
attached_to_push attachments set subjects subject old new are e k = (
  λ h. elim (among-with_keys old within k (subst (λ (t : Keys). is_among t k ≡ true) e (among_from_Contains new k h))) [
    | inl was ↦
        let p = (are k).0 (Contains-from_among old k was) in
        (p.0, (p.1.0, Contains-append_left subjects (subject ∷ []) p.1.0 p.1.1, p.1.2))
    | inr now ↦
        let p = among-filter (λ (j : Descriptor). contains key_cmp set j) (attached_in attachments subject) k now in
        (p.0, (subject, Contains-push subjects subject, Contains-from_among (attached_in attachments subject) k p.1))
  ],
  λ p. Contains-from_among new k (subst (λ (t : Keys). is_among t k ≡ true) (sym e) (elim (Contains-push_cases subjects subject p.1.0 p.1.1) [
    | inl was ↦ stays-with_keys old within k (among_from_Contains old k ((are k).1 (p.0, (p.1.0, was, p.1.2))))
    | inr is ↦
        let there : AttachedIn attachments k subject = subst (λ (s : Descriptor). AttachedIn attachments k s) (sym is) p.1.2 in
        there-with_keys old within k (among_filter_from (λ (j : Descriptor). contains key_cmp set j) (attached_in attachments subject) k p.0 (among_from_Contains (attached_in attachments subject) k there))
  ])),
)
  where
    within : Keys
    within = filter (λ (j : Descriptor). contains key_cmp set j) (attached_in attachments subject)

pub attached_to_more : (attachments : Attachments) (set : BTreeSet Descriptor) (subjects : Keys) (i : ℕ) (subject : Descriptor) (old new : Keys) → i < length subjects → subject ≡ get_or subjects i subject → AreAttachedTo attachments set (take i subjects) old
    → new ≡ with_keys old (filter (λ (k : Descriptor). contains key_cmp set k) (attached_in attachments subject)) → AreAttachedTo attachments set (take (i + 1) subjects) new
attached_to_more attachments set subjects i subject old new lt is are e =
    subst (λ (ks : Keys). AreAttachedTo attachments set ks new) (sym (next_element subjects i subject lt is)) (attached_to_push attachments set (take i subjects) subject old new are e)

-- the members that are attached to a member, if the subjects are the members
pub attached_members : (graph : List Node) (keys subjects found : Keys) (attachments : Attachments) (set : BTreeSet Descriptor) → AreMembers graph keys (AttachedIn attachments) set → subjects ≡ set.keys → AreAttachedTo attachments set subjects found
    → AreAttached graph keys (AttachedIn attachments) found
attached_members graph keys subjects found attachments set are same to k = (
  λ h.
      let p = (to k).0 h in
      ((are k).0 p.0, (p.1.0, (are p.1.0).0 ((btree_set_contains_iff key_cmp_total key_cmp_exact set p.1.0).1 (subst (λ (ks : Keys). Contains ks p.1.0) same p.1.1)), p.1.2)),
  λ p. (to k).1 ((are k).1 p.0, (p.1.0, subst (λ (ks : Keys). Contains ks p.1.0) (sym same) ((btree_set_contains_iff key_cmp_total key_cmp_exact set p.1.0).0 ((are p.1.0).1 p.1.1)), p.1.2)),
)

-- ---- what is always so

pub complete_from : (graph : List Node) (keys : Keys) (tags : Tags) (attachments : Attachments) (b : Belonging) → AreMembers graph keys (AttachedIn attachments) b.members → AreAttached graph keys (AttachedIn attachments) b.attached.items
    → AreFollowers tags attachments.followers → IsDistinct same_key b.attached.items → by_bytes b.tags.items ≡ filter (λ (t : List ℕ × Descriptor). follows_one b.members.keys t.0) tags
    → attachments ≡ b.attachments → IsComplete graph keys tags b
complete_from graph keys tags attachments b are to follow distinct named tables = record {
  held = λ k h. held_from_kept graph keys (AttachedIn attachments) k ((are k).0 h);
  given = λ k one held. (are k).1 (given one held);
  listed = λ from k member edge held. (are k).1 (needed ((are from).0 member) (inl edge) held);
  followed = λ k subject member follows held.
      let attached : AttachedIn attachments k subject = Contains-append_right (referrers_in attachments.referrers subject) (followers_in attachments.followers subject) k ((follow k subject).1 follows) in
      let belongs : Belongs graph keys (AttachedIn attachments) k = needed ((are subject).0 member) (inr attached) held in
      ((are k).1 belongs, (to k).1 (belongs, (subject, (are subject).0 member, attached)));
  attached = λ k h. (are k).1 ((to k).0 h).0;
  distinct = distinct;
  reached = λ k. (λ h. members_reached graph keys b.attached.items (AttachedIn attachments) to k ((are k).0 h), λ p. (are k).1 (member_from_reached graph keys b.attached.items (AttachedIn attachments) to k p.0 p.1));
  members = subst (λ (a : Attachments). AreMembers graph keys (AttachedIn a) b.members) tables are;
  by_tables = subst (λ (a : Attachments). AreAttached graph keys (AttachedIn a) b.attached.items) tables to;
  followers = subst (λ (a : Attachments). AreFollowers tags a.followers) tables follow;
  tags = named;
}

-- ---- what is so if the tables have what is attached

-- the tables of all that is attached
pub attached_same : (graph : List Node) (entries : List Entry) (held : Keys) (tags : Tags) (attachments : Attachments) → keys_of graph ≡ keys_of entries → AreHeld graph held → AreAttachments (States entries) held tags attachments → Same (AttachedIn attachments) (AttachedBy entries tags)
attached_same graph entries held tags attachments same is_held are k subject = (
  λ h. elim ((are k subject).0 h) [
    | inl refers ↦ inl refers.1
    | inr follows ↦ inr follows
  ],
  λ h. (are k subject).1 (elim h [
    | inl refers ↦ inl ((is_held.each k).1 (has_key-same_keys entries graph k (sym same) (ap is_some refers.1.1)), refers)
    | inr follows ↦ inr follows
  ]),
)

attached_also : (graph : List Node) (keys found : Keys) (R Q : Relation) → Same R Q → AreAttached graph keys R found → AreAttached graph keys Q found
attached_also graph keys found R Q same to k = (
  λ h.
      let p = (to k).0 h in
      (kept_same graph keys R Q (λ r s. (same r s).0) k p.0, (p.1.0, kept_same graph keys R Q (λ r s. (same r s).0) p.1.0 p.1.1, (same k p.1.0).0 p.1.2)),
  λ p. (to k).1 (kept_same graph keys Q R (λ r s. (same r s).1) k p.0, (p.1.0, kept_same graph keys Q R (λ r s. (same r s).1) p.1.0 p.1.1, (same k p.1.0).1 p.1.2)),
)

-- two facts of a value that was returned
pub ok_both : {T E : Type 0} (r : Result T E) (P Q R : T → Type 0) → ((x : T) → P x → Q x → R x) → IfOk r P → IfOk r Q → IfOk r R
ok_both (Ok x) P Q R to p q = to x p q
ok_both (Err e) P Q R to p q = tt

-- want of memory is a fault of any kind
pub memory_fault : {T : Type 0} (r : Result T PruneFault) (P : PruneFault → Type 0) → P fault.Memory → IfErr r (λ (e : PruneFault). e ≡ fault.Memory) → IfErr r P
memory_fault r P memory h = IfErr-weaker r (λ (e : PruneFault). e ≡ fault.Memory) P (λ e is. subst P (sym is) memory) h

-- what belongs to keys by tables that have what is attached
pub belonging_from : (graph : List Node) (keys : Keys) (tags : Tags) (R : Relation) (attachments : Attachments) (b : Belonging) → Same (AttachedIn attachments) R → IsComplete graph keys tags b → b.attachments ≡ attachments → IsBelonging graph keys R b
belonging_from graph keys tags R attachments b attached complete tables =
    let same : Same (AttachedIn b.attachments) R = subst (λ (a : Attachments). Same (AttachedIn a) R) (sym tables) attached in
    record {
      members = are_kept_same graph keys (AttachedIn b.attachments) R b.members same complete.members;
      attached = attached_also graph keys b.attached.items (AttachedIn b.attachments) R same complete.by_tables;
      attachments = same;
    }
