-- What is planned, from its parts.
use Rattle.std.proofs.Common.{◌≡◌, Bool, true, false, not, ◌⊎◌, inl, inr, List, [], ◌∷◌, ◌++◌, filter, get_or, None, Ok, is_some, refl, sym, ap, subst}
use Rattle.std.specs.Prelude.{◌↔◌, Contains}
use Rattle.std.specs.BTreeSet.{BTreeSet, contains}
use Rattle.std.specs.List.Sorted.{IsStrictlySortedBy}
use Rattle.std.specs.List.{All, slice_get}
use Rattle.std.specs.Map.{keys_of, values_of}
use Rattle.std.proofs.lemmas.Bool.{not-true}
use Rattle.std.proofs.lemmas.List.Elements.{All-append, All-contains, All-contains_itself, All-weaker, Contains-append_left, Contains-append_right, Contains-get_or}
use Rattle.std.proofs.lemmas.List.Kept.{IsStrictlySortedBy-filter}
use Rattle.std.proofs.lemmas.Map.Views.{btree_set_contains_iff}
use Rattle.oci_manifest.specs.Descriptor.{Descriptor, key_cmp, is_among}
use Rattle.oci_store.specs.Graph.{Node, Reaches, root as start, along}
use Rattle.oci_store.specs.Keyed.{has_key, HasAll, first_missing}
use Rattle.oci_store.specs.State.{State}
use Rattle.oci_store.specs.Tags.{AreNames}
use Rattle.oci_dir.specs.Device.{Device}
use Rattle.oci_store.proofs.KeyOrder.{key_cmp_total, key_cmp_exact}
use Rattle.oci_store.proofs.Membership.{Contains-from_among, among_from_Contains, among-filter, among_filter_from}
use Rattle.oci_store.proofs.Lookups.{has_key-from_Contains, Contains-from_has_key, has_key-same_keys}
use Rattle.oci_layout_store.specs.Entries.{said, unreadable_places}
use Rattle.oci_layout_store.specs.Layout.{LayoutState, OpenedIndex, manifests_of}
use Rattle.oci_layout_store.specs.Saved.{first_entries, shadowed_keys}
use Rattle.oci_layout_store.proofs.Loose.{HasKeys}
use Rattle.oci_layout_store.proofs.SavedEntries.{named_held-held}
use Rattle.oci_prune.specs.Attached.{AttachedIn, AreAttachments}
use Rattle.oci_prune.specs.Belongs.{Needs, Belongs, given, needed, IsNeeded, IsUnknown, AreMembers, AllKnown}
use Rattle.oci_prune.specs.Plan.{AreHeld, AreRemoved, RefersIf, IsSafe, roots_of}
use Rattle.oci_prune.specs.Refusal.{ChecksWhole, IsKeyFault, IsPlanFaultFrom, IsUnknownFault}
use Rattle.oci_prune.specs.Subjects.{IsSubjectFault, States}
use Rattle.oci_prune.specs.declared.attachments.Attachments.{Attachments}
use Rattle.oci_prune_fault.specs.declared.fault.PruneFault.{PruneFault}
use Rattle.oci_prune_fault.specs.declared.fault.PruneFault.TheVariants as fault
use Rattle.oci_prune.proofs.Elements.{no_element}
use Rattle.oci_prune.proofs.Keeping.{held_from_kept}

-- ---- the held keys

-- the keys of a set that has the keys of a graph
pub held_from_set : (graph : List Node) (set : BTreeSet Descriptor) (keys : List Descriptor) → HasKeys set (keys_of graph) → keys ≡ set.keys → IsStrictlySortedBy key_cmp keys → AreHeld graph keys
held_from_set graph set keys h e order = record {
  each = λ k.
      let iff = btree_set_contains_iff key_cmp_total key_cmp_exact set k in (
        λ c. has_key-from_Contains graph k ((h k).0 (iff.1 (subst (λ (ks : List Descriptor). Contains ks k) e c))),
        λ held. subst (λ (ks : List Descriptor). Contains ks k) (sym e) (iff.0 ((h k).1 (Contains-from_has_key graph k held))),
      );
  order = order;
}

-- ---- other relations that hold of the same keys

needs_same : (graph : List Node) (R Q : Descriptor → Descriptor → Type 0) → ((referrer subject : Descriptor) → R referrer subject → Q referrer subject) → (k other : Descriptor) → Needs graph R k other → Needs graph Q k other
needs_same graph R Q to k other (inl edge) = inl edge
needs_same graph R Q to k other (inr refers) = inr (to other k refers)

pub kept_same : (graph : List Node) (roots : List Descriptor) (R Q : Descriptor → Descriptor → Type 0) → ((referrer subject : Descriptor) → R referrer subject → Q referrer subject) → (k : Descriptor) → Belongs graph roots R k → Belongs graph roots Q k
kept_same graph roots R Q to k (given named held) = given named held
kept_same graph roots R Q to k (needed {from} kept needs held) = needed (kept_same graph roots R Q to from kept) (needs_same graph R Q to from k needs) held

unknown_same : (graph : List Node) (roots : List Descriptor) (R Q : Descriptor → Descriptor → Type 0) → ((referrer subject : Descriptor) → R referrer subject → Q referrer subject) → (k : Descriptor) → IsUnknown graph roots R k → IsUnknown graph roots Q k
unknown_same graph roots R Q to k u = record { needed = now u.needed; absent = u.absent; is_manifest = u.is_manifest }
  where
    now : IsNeeded graph roots R k → IsNeeded graph roots Q k
    now (inl named) = inl named
    now (inr p) = inr (p.0, kept_same graph roots R Q to p.0 p.1, needs_same graph R Q to p.0 k p.2)

abbrev pub Same : (R Q : Descriptor → Descriptor → Type 0) → Type 0
Same R Q = (referrer subject : Descriptor) → R referrer subject ↔ Q referrer subject

pub are_kept_same : (graph : List Node) (roots : List Descriptor) (R Q : Descriptor → Descriptor → Type 0) (set : BTreeSet Descriptor) → Same R Q → AreMembers graph roots R set → AreMembers graph roots Q set
are_kept_same graph roots R Q set same are k = (
  λ h. kept_same graph roots R Q (λ r s. (same r s).0) k ((are k).0 h),
  λ kept. (are k).1 (kept_same graph roots Q R (λ r s. (same r s).1) k kept),
)

pub all_known_same : (graph : List Node) (roots : List Descriptor) (R Q : Descriptor → Descriptor → Type 0) → Same R Q → AllKnown graph roots R → AllKnown graph roots Q
all_known_same graph roots R Q same known k unknown = known k (unknown_same graph roots Q R (λ r s. (same r s).1) k unknown)

pub walk_key_fault : (store : State) (roots : List Descriptor) (keeps : Bool) (R : Descriptor → Descriptor → Type 0) (refuses : Bool) (e : PruneFault) → (store.is_honest → Same R (RefersIf keeps store)) → IsUnknownFault (λ (k : Descriptor). (refuses ≡ true) × IsUnknown store.nodes roots R k) e → IsKeyFault store roots keeps e
walk_key_fault store roots keeps R refuses (fault.Unknown k) same h = λ honest. unknown_same store.nodes roots R (RefersIf keeps store) (λ r s. (same honest r s).0) k h.1
walk_key_fault store roots keeps R refuses fault.Memory same h = tt
walk_key_fault store roots keeps R refuses (fault.NotRemoved path) same h = absurd h
walk_key_fault store roots keeps R refuses (fault.Fetch k e) same h = absurd h
walk_key_fault store roots keeps R refuses (fault.Layout e) same h = absurd h
walk_key_fault store roots keeps R refuses fault.NoTags same h = absurd h
walk_key_fault store roots keeps R refuses (fault.LinkedBlobs path) same h = absurd h

pub subject_key_fault : (store : State) (roots : List Descriptor) (keeps : Bool) (e : PruneFault) → IsSubjectFault store (λ (k : Descriptor). (keeps ≡ true) × (has_key store.nodes k ≡ true)) e → IsKeyFault store roots keeps e
subject_key_fault store roots keeps (fault.Unknown k) h = absurd h
subject_key_fault store roots keeps fault.Memory h = tt
subject_key_fault store roots keeps (fault.NotRemoved path) h = absurd h
subject_key_fault store roots keeps (fault.Fetch k e) h = h
subject_key_fault store roots keeps (fault.Layout e) h = h
subject_key_fault store roots keeps fault.NoTags h = absurd h
subject_key_fault store roots keeps (fault.LinkedBlobs path) h = absurd h

-- ---- the subjects of the held keys

pub attached_by_held : (store : State) (keys : List Descriptor) (attachments : Attachments) → keys_of store.nodes ≡ keys_of store.entries → AreHeld store.nodes keys → AreAttachments (States store.entries) keys [] attachments → Same (AttachedIn attachments) (RefersIf true store)
attached_by_held store keys attachments same held are referrer subject = (
  λ attached. elim ((are referrer subject).0 attached) [
    | inl refers ↦ refers.1
    | inr follows ↦ absurd (no_element (follows.0, referrer) follows.1)
  ],
  λ refers. (are referrer subject).1 (inl ((held.each referrer).1 (has_key-same_keys store.entries store.nodes referrer (sym same) (ap is_some refers.1.1)), refers)),
)

pub attached_by_none : (store : State) (attachments : Attachments) → ((k subject : Descriptor) → AttachedIn attachments k subject → ⊥) → Same (AttachedIn attachments) (RefersIf false store)
attached_by_none store attachments none referrer subject = (λ attached. absurd (none referrer subject attached), λ never. absurd never)

-- ---- safety

pub kept_from_reached : (graph : List Node) (roots : List Descriptor) (R : Descriptor → Descriptor → Type 0) (k : Descriptor) → Reaches graph roots k → has_key graph k ≡ true → Belongs graph roots R k
kept_from_reached graph roots R k (start named) held = given named held
kept_from_reached graph roots R k (along {from} path edge) held = needed (kept_from_reached graph roots R from path (ap is_some edge.1)) (inl edge) held

pub reached_from_kept : (graph : List Node) (roots : List Descriptor) (k : Descriptor) → Belongs graph roots (λ _ _. ⊥) k → Reaches graph roots k × (has_key graph k ≡ true)
reached_from_kept graph roots k (given named held) = (start named, held)
reached_from_kept graph roots k (needed {from} kept (inl edge) held) = (along (reached_from_kept graph roots from kept).0 edge, held)
reached_from_kept graph roots k (needed {from} kept (inr never) held) = absurd never

pub safe_from_kept : (graph : List Node) (roots : List Descriptor) (R : Descriptor → Descriptor → Type 0) (set : BTreeSet Descriptor) → AreMembers graph roots R set → IsSafe graph roots set
safe_from_kept graph roots R set are = record {
  held = λ k h. held_from_kept graph roots R k ((are k).0 h);
  reached = λ k reaches held. (are k).1 (kept_from_reached graph roots R k reaches held);
  closed = λ from to kept edge held. (are to).1 (needed ((are from).0 kept) (inl edge) held);
}

-- it is safe for fewer roots too
pub safe_for_fewer : (graph : List Node) (more roots : List Descriptor) (set : BTreeSet Descriptor) → IsSafe graph (more ++ roots) set → IsSafe graph roots set
safe_for_fewer graph more roots set safe = record {
  held = safe.held;
  reached = λ k reaches held. safe.reached k (reached_from_more k reaches) held;
  closed = safe.closed;
}
  where
    reached_from_more : (k : Descriptor) → Reaches graph roots k → Reaches graph (more ++ roots) k
    reached_from_more k (start named) = start (Contains-append_right more roots k named)
    reached_from_more k (along {from} path edge) = along (reached_from_more from path) edge

-- the roots that are held are kept
pub roots_kept : (graph : List Node) (roots : List Descriptor) (set : BTreeSet Descriptor) → IsSafe graph roots set → HasAll graph roots → All (λ (k : Descriptor). contains key_cmp set k ≡ true) roots
roots_kept graph roots set safe all place d lt = safe.reached (get_or roots place d) (start (Contains-get_or roots place d lt)) (all place d lt)

-- ---- the plan

pub tags_fault : {D : Type 0} (dir : Device) (l : LayoutState D) (roots : List Descriptor) (keeps : Bool) (e : PruneFault) → (e ≡ fault.Memory) ⊎ ((e ≡ fault.NoTags) × (l.tags ≡ [])) → IsPlanFaultFrom dir l roots keeps e
tags_fault dir l roots keeps e (inl memory) = rw memory tt
tags_fault dir l roots keeps e (inr none) = rw none.0 none.1

-- ---- the check before the plan

no_first : (keys : List Descriptor) → slice_get keys 0 ≡ None → keys ≡ []
no_first [] h = refl
no_first (k ∷ keys) h = cc h

-- a layout passes whose opened index has no first absent entry and no entry that is no descriptor, and
-- of whose damaged manifests the first that is not held is none
pub checks_whole : (graph : List Node) (opened : OpenedIndex) → slice_get opened.absent 0 ≡ None → first_missing graph (manifests_of opened.damaged) ≡ None → unreadable_places (said opened.content).entries ≡ [] → ChecksWhole {T = Unit {0}} graph opened (Ok tt)
checks_whole graph opened no_absent none_damaged none_unreadable = record {
  whole = no_first opened.absent no_absent;
  sound = none_damaged;
  readable = none_unreadable;
  first = λ some. absurd (some (no_first opened.absent no_absent));
  second = λ no_entry some. absurd (some none_damaged);
  third = λ no_entry no_damaged some. absurd (some none_unreadable);
}

-- ---- the roots

pub roots_held : {D : Type 0} (l : LayoutState D) → AreNames l.graph l.tags → HasAll l.graph (roots_of l)
roots_held l names = All-append (λ (k : Descriptor). has_key l.graph k ≡ true) (values_of l.tags) (shadowed_keys l.opened l.graph l.tags) names.held (named_held-held l.graph (first_entries (is_among l.opened.absent) l.graph l.tags (said l.opened.content).entries))

pub tags_kept : {D : Type 0} (l : LayoutState D) (kept : BTreeSet Descriptor) → All (λ (k : Descriptor). contains key_cmp kept k ≡ true) (roots_of l) → All (λ (k : Descriptor). contains key_cmp kept k ≡ true) (values_of l.tags)
tags_kept l kept rooted =
    let hidden = shadowed_keys l.opened l.graph l.tags in
    All-weaker (λ (k : Descriptor). Contains (values_of l.tags) k) (λ (k : Descriptor). contains key_cmp kept k ≡ true)
    (λ k tagged. All-contains (λ (k : Descriptor). contains key_cmp kept k ≡ true) (values_of l.tags ++ hidden) k rooted (Contains-append_left (values_of l.tags) hidden k tagged))
    (values_of l.tags) (All-contains_itself (values_of l.tags))

pub are_removed : (graph : List Node) (kept : BTreeSet Descriptor) (held removed : List Descriptor) → AreHeld graph held → removed ≡ filter (λ (k : Descriptor). not (contains key_cmp kept k)) held → AreRemoved graph kept removed
are_removed graph kept held removed are e = record {
  each = λ k. (
    λ h.
        let p = among-filter is_gone held k (subst (λ (ks : List Descriptor). is_among ks k ≡ true) e (among_from_Contains removed k h)) in
        ((are.each k).0 (Contains-from_among held k p.1), not-true (contains key_cmp kept k) p.0),
    λ h. Contains-from_among removed k (subst (λ (ks : List Descriptor). is_among ks k ≡ true) (sym e) (among_filter_from is_gone held k (ap not h.1) (among_from_Contains held k ((are.each k).1 h.0)))),
  );
  order = subst (λ (ks : List Descriptor). IsStrictlySortedBy key_cmp ks) (sym e) (IsStrictlySortedBy-filter key_cmp is_gone held are.order);
}
  where
    is_gone : Descriptor → Bool
    is_gone k = not (contains key_cmp kept k)
