-- How far the walk to the members is.
use Rattle.std.proofs.Common.{◌≡◌, ℕ, ◌+◌, ◌<◌, ◌≤◌, Bool, true, false, ◌⊎◌, inl, inr, List, [], length, get_or, Some, is_some, sym, ap, subst, ◌∙◌, arith}
use Rattle.std.specs.Prelude.{◌≢◌, Contains}
use Rattle.std.specs.BTreeSet.{BTreeSet, contains}
use Rattle.std.specs.List.{slice_get}
use Rattle.std.proofs.lemmas.Bool.{cases_order}
use Rattle.std.proofs.lemmas.Map.Views.{btree_set_contains_iff}
use Rattle.std.proofs.lemmas.Option.{slice_get_within, slice_get-get_or}
use Rattle.oci_manifest.specs.Descriptor.{Descriptor, key_cmp, is_among}
use Rattle.oci_manifest.specs.MediaTypes.{kind_of}
use Rattle.oci_manifest.specs.declared.kind.Kind.TheVariants.{Leaf}
use Rattle.oci_store.specs.Graph.{Node}
use Rattle.oci_store.specs.Keyed.{value_at, has_key}
use Rattle.oci_store.specs.Visiting.{with_keys}
use Rattle.oci_store.proofs.KeyOrder.{key_cmp_total, key_cmp_exact}
use Rattle.oci_store.proofs.Membership.{Keys, Contains-from_among, among_from_Contains, among-with_keys, among_from_place, place_from_among, slice_get-with_keys, stays-with_keys, there-with_keys}
use Rattle.oci_prune.proofs.Elements.{no_element}
use Rattle.oci_prune.specs.Attached.{AttachedIn, attached_in}
use Rattle.oci_prune.specs.Belongs.{Needs, Belongs, given, needed, IsNeeded, IsUnknown, AreMembers, AllKnown}
use Rattle.oci_prune.specs.Refusal.{IsUnknownFault}
use Rattle.oci_prune.specs.declared.attachments.Attachments.{Attachments}
use Rattle.oci_prune.specs.Walk.{IsVisit, KeepsHeld, HasOneMore, IsWalking}
use Rattle.oci_prune_fault.specs.declared.fault.PruneFault.{PruneFault}
use Rattle.oci_prune_fault.specs.declared.fault.PruneFault.TheVariants as fault

abbrev Relation : Type 1
Relation = Descriptor → Descriptor → Type 0

-- an empty set has no key
pub none_kept : (set : BTreeSet Descriptor) → set.keys ≡ [] → (k : Descriptor) → contains key_cmp set k ≡ true → ⊥
none_kept set none k h = no_element k (subst (λ (ks : Keys). Contains ks k) none ((btree_set_contains_iff key_cmp_total key_cmp_exact set k).0 h))

-- ---- a visit

-- a visit of a held key
pub visit_held : (graph : List Node) (attachments : Attachments) (k : Descriptor) (old new successors : Keys) → value_at graph k ≡ Some successors → new ≡ with_keys (with_keys old successors) (attached_in attachments k) → IsVisit graph (AttachedIn attachments) k old new
visit_held graph attachments k old new successors listed e = record {
  stays = λ i j h. subst (λ (t : Keys). slice_get t i ≡ Some j) (sym e) (slice_get-with_keys (with_keys old successors) (attached_in attachments k) i j (slice_get-with_keys old successors i j h));
  each = λ j. (λ h. to j (subst (λ (t : Keys). is_among t j ≡ true) e (among_from_Contains new j h)), λ h. Contains-from_among new j (subst (λ (t : Keys). is_among t j ≡ true) (sym e) (back j h)));
}
  where
    to : (j : Descriptor) → is_among (with_keys (with_keys old successors) (attached_in attachments k)) j ≡ true → Contains old j ⊎ ((has_key graph k ≡ true) × Needs graph (AttachedIn attachments) k j)
    to j h =
        let held : has_key graph k ≡ true = ap is_some listed in
        elim (among-with_keys (with_keys old successors) (attached_in attachments k) j h) [
          | inl first ↦
              elim (among-with_keys old successors j first) [
                | inl was ↦ inl (Contains-from_among old j was)
                | inr lists ↦ inr (held, inl (successors, listed, Contains-from_among successors j lists))
              ]
          | inr refers ↦ inr (held, inr (Contains-from_among (attached_in attachments k) j refers))
        ]

    back : (j : Descriptor) → Contains old j ⊎ ((has_key graph k ≡ true) × Needs graph (AttachedIn attachments) k j) → is_among (with_keys (with_keys old successors) (attached_in attachments k)) j ≡ true
    back j h =
        elim h [
          | inl was ↦ stays-with_keys (with_keys old successors) (attached_in attachments k) j (stays-with_keys old successors j (among_from_Contains old j was))
          | inr needs ↦
              elim needs.1 [
                | inl edge ↦
                    let same : edge.0 ≡ successors = cc (sym edge.1 ∙ listed) in
                    stays-with_keys (with_keys old successors) (attached_in attachments k) j (there-with_keys old successors j (among_from_Contains successors j (subst (λ (t : Keys). Contains t j) same edge.2)))
                | inr refers ↦ there-with_keys (with_keys old successors) (attached_in attachments k) j (among_from_Contains (attached_in attachments k) j refers)
              ]
        ]

-- a visit of an absent key
pub visit_absent : (graph : List Node) (refers : Relation) (k : Descriptor) (found : Keys) → has_key graph k ≡ false → IsVisit graph refers k found found
visit_absent graph refers k found absent = record { stays = λ i j h. h; each = λ j. (λ h. inl h, λ h. elim h [ inl was ↦ was | inr p ↦ cc (sym absent ∙ p.0) ]) }

pub noted_held : (graph : List Node) (k : Descriptor) (old new : BTreeSet Descriptor) → has_key graph k ≡ true → HasOneMore k old new → KeepsHeld graph k old new
noted_held graph k old new held more j = (
  λ h. elim ((more j).0 h) [ inl was ↦ inl was | inr is ↦ inr (is, subst (λ (x : Descriptor). has_key graph x ≡ true) (sym is) held) ],
  λ h. (more j).1 (elim h [ inl was ↦ inl was | inr is ↦ inr is.0 ]),
)

pub noted_absent : (graph : List Node) (k : Descriptor) (set : BTreeSet Descriptor) → has_key graph k ≡ false → KeepsHeld graph k set set
noted_absent graph k set absent j = (λ h. inl h, λ h. elim h [ inl was ↦ was | inr is ↦ cc (sym absent ∙ sym (ap (λ (x : Descriptor). has_key graph x) is.0) ∙ is.1) ])

-- ---- the walk

pub walking_start : (graph : List Node) (roots found : Keys) (refers : Relation) (refuses : Bool) (set : BTreeSet Descriptor) → found ≡ with_keys [] roots → set.keys ≡ [] → IsWalking graph roots refers refuses found set 0
walking_start graph roots found refers refuses set e none = record {
  has_keys = λ k h. Contains-from_among found k (subst (λ (t : Keys). is_among t k ≡ true) (sym e) (there-with_keys [] roots k (among_from_Contains roots k h)));
  needed = λ k h.
      elim (among-with_keys [] roots k (subst (λ (t : Keys). is_among t k ≡ true) e (among_from_Contains found k h))) [
        | inl never ↦ cc never
        | inr listed ↦ inl (Contains-from_among roots k listed)
      ];
  visited = λ i from k lt. absurd (omega (arith, lt));
  known = λ _ i k lt. absurd (omega (arith, lt));
  kept = λ k. (λ h. absurd (none_kept set none k h), λ p. absurd (omega (arith, p.1)));
}

-- a needed key that is held is kept
pub kept_from_needed : (graph : List Node) (roots : Keys) (refers : Relation) (k : Descriptor) → IsNeeded graph roots refers k → has_key graph k ≡ true → Belongs graph roots refers k
kept_from_needed graph roots refers k (inl named) held = given named held
kept_from_needed graph roots refers k (inr p) held = needed p.1 p.2 held

pub walking_step : (graph : List Node) (roots : Keys) (refers : Relation) (refuses : Bool) (found more : Keys) (set set_after : BTreeSet Descriptor) (place : ℕ) (key : Descriptor) → IsWalking graph roots refers refuses found set place → slice_get found place ≡ Some key
    → IsVisit graph refers key found more → KeepsHeld graph key set set_after → (refuses ≡ true → has_key graph key ≡ false → kind_of key.media_type ≡ Leaf) → IsWalking graph roots refers refuses more set_after (place + 1)
walking_step graph roots refers refuses found more set set_after place key w at visit noted known = record {
  has_keys = λ k h. (visit.each k).1 (inl (w.has_keys k h));
  needed = λ k h.
      elim ((visit.each k).0 h) [
        | inl was ↦ w.needed k was
        | inr p ↦ inr (key, kept_from_needed graph roots refers key (w.needed key (Contains-from_among found key (among_from_place found place key at))) p.0, p.1)
      ];
  visited = λ i from k lt there held needs.
      elim (earlier i from lt there) [
        | inl p ↦ (visit.each k).1 (inl (w.visited i from k p.0 p.1 held needs))
        | inr p ↦
            (visit.each k).1
            (inr (subst (λ (x : Descriptor). has_key graph x ≡ true) p.1 held, subst (λ (x : Descriptor). Needs graph refers x k) p.1 needs))
      ];
  known = λ strict i k lt there absent.
      elim (earlier i k lt there) [
        | inl p ↦ w.known strict i k p.0 p.1 absent
        | inr p ↦ subst (λ (x : Descriptor). kind_of x.media_type ≡ Leaf) (sym p.1) (known strict (subst (λ (x : Descriptor). has_key graph x ≡ false) p.1 absent))
      ];
  kept = λ k. (
    λ h. elim ((noted k).0 h) [
      | inl was ↦
          let p = (w.kept k).0 was in
          (p.0, omega (arith, p.1), visit.stays p.0 k p.2, p.3)
      | inr is ↦ (place, omega arith, subst (λ (x : Descriptor). slice_get more place ≡ Some x) (sym is.0) (visit.stays place key at), is.1)
    ],
    λ p. (noted k).1 (elim (earlier p.0 k p.1 p.2) [
      | inl q ↦ inl ((w.kept k).1 (p.0, q.0, q.1, p.3))
      | inr q ↦ inr (q.1, p.3)
    ]),
  );
}
  where
    -- what stands at a place that was visited stood there before, or is the key of this visit
    earlier : (i : ℕ) (k : Descriptor) → i < place + 1 → slice_get more i ≡ Some k → ((i < place) × (slice_get found i ≡ Some k)) ⊎ ((i ≡ place) × (k ≡ key))
    earlier i k lt there =
        elim (cases_order i place) [
          | inl here ↦
              let now = visit.stays place key at in
              inr (here, cc (sym (subst (λ (n : ℕ). slice_get more n ≡ Some k) here there) ∙ now))
          | inr apart ↦
              elim apart [
                | inr after ↦ absurd (omega (arith, lt, after))
                | inl before ↦
                    let within = slice_get_within found place key at in
                    let old = slice_get-get_or found i key (omega (arith, before, within)) in
                    let same = visit.stays i (get_or found i key) old in
                    let is : get_or found i key ≡ k = cc (sym same ∙ there) in
                    inl (before, subst (λ (x : Descriptor). slice_get found i ≡ Some x) is old)
              ]
        ]

pub inside_step : (found : Keys) (place : ℕ) (k : Descriptor) → slice_get found place ≡ Some k → place + 1 ≤ length found
inside_step found place k at =
    let lt = slice_get_within found place k at in
    omega (arith, lt)

-- the fault of a visit is one of the walk
pub walk_fault : (graph : List Node) (roots : Keys) (refers : Relation) (refuses : Bool) (found : Keys) (set : BTreeSet Descriptor) (place : ℕ) (key : Descriptor) (e : PruneFault) → IsWalking graph roots refers refuses found set place
    → slice_get found place ≡ Some key → IsUnknownFault (λ (k : Descriptor). (refuses ≡ true) × (k ≡ key) × (has_key graph k ≡ false) × (kind_of k.media_type ≢ Leaf)) e
    → IsUnknownFault (λ (k : Descriptor). (refuses ≡ true) × IsUnknown graph roots refers k) e
walk_fault graph roots refers refuses found set place key (fault.Unknown k) w at h =
    let there = w.needed key (Contains-from_among found key (among_from_place found place key at)) in
    (h.0, record { needed = subst (IsNeeded graph roots refers) (sym h.1) there; absent = h.2; is_manifest = h.3 })
walk_fault graph roots refers refuses found set place key fault.Memory w at h = tt
walk_fault graph roots refers refuses found set place key (fault.NotRemoved path) w at h = absurd h
walk_fault graph roots refers refuses found set place key (fault.Layout e) w at h = absurd h
walk_fault graph roots refers refuses found set place key (fault.Fetch k e) w at h = absurd h
walk_fault graph roots refers refuses found set place key fault.NoTags w at h = absurd h
walk_fault graph roots refers refuses found set place key (fault.LinkedBlobs path) w at h = absurd h

-- ---- the end

-- a kept key is held
pub held_from_kept : (graph : List Node) (roots : Keys) (refers : Relation) (k : Descriptor) → Belongs graph roots refers k → has_key graph k ≡ true
held_from_kept graph roots refers k (given named held) = held
held_from_kept graph roots refers k (needed kept needs held) = held

-- every key that is needed was found
all_found : (graph : List Node) (roots : Keys) (refers : Relation) (refuses : Bool) (found : Keys) (set : BTreeSet Descriptor) → IsWalking graph roots refers refuses found set (length found) → (k : Descriptor) → Belongs graph roots refers k → Contains found k
all_found graph roots refers refuses found set w k (given named held) = w.has_keys k named
all_found graph roots refers refuses found set w k (needed {from} kept needs held) =
    let there = all_found graph roots refers refuses found set w from kept in
    let at = place_from_among found from (among_from_Contains found from there) in
    w.visited at.0 from k (slice_get_within found at.0 from at.1) at.1 (held_from_kept graph roots refers from kept) needs

pub walked_kept : (graph : List Node) (roots : Keys) (refers : Relation) (refuses : Bool) (found : Keys) (set : BTreeSet Descriptor) → IsWalking graph roots refers refuses found set (length found) → AreMembers graph roots refers set
walked_kept graph roots refers refuses found set w k = (
  λ h.
      let p = (w.kept k).0 h in
      kept_from_needed graph roots refers k (w.needed k (Contains-from_among found k (among_from_place found p.0 k p.2))) p.3,
  λ kept.
      let at = place_from_among found k (among_from_Contains found k (all_found graph roots refers refuses found set w k kept)) in
      (w.kept k).1 (at.0, slice_get_within found at.0 k at.1, at.1, held_from_kept graph roots refers k kept),
)

pub walked_known : (graph : List Node) (roots : Keys) (refers : Relation) (refuses : Bool) (found : Keys) (set : BTreeSet Descriptor) → IsWalking graph roots refers refuses found set (length found) → refuses ≡ true → AllKnown graph roots refers
walked_known graph roots refers refuses found set w strict k unknown =
    let there = found_from_needed unknown.needed in
    let at = place_from_among found k (among_from_Contains found k there) in
    unknown.is_manifest (w.known strict at.0 k (slice_get_within found at.0 k at.1) at.1 unknown.absent)
  where
    found_from_needed : IsNeeded graph roots refers k → Contains found k
    found_from_needed (inl named) = w.has_keys k named
    found_from_needed (inr p) =
        let there = all_found graph roots refers refuses found set w p.0 p.1 in
        let at = place_from_among found p.0 (among_from_Contains found p.0 there) in
        w.visited at.0 p.0 k (slice_get_within found at.0 p.0 at.1) at.1 (held_from_kept graph roots refers p.0 p.1) p.2
