-- What is left of a layout when a tag goes.
use Rattle.std.proofs.Common.{◌≡◌, ◌≢◌, ℕ, zero, suc, ◌+◌, ◌<◌, ◌≤◌, length, get_or, String, Global, string_bytes, Bool, true, false, cond, not, inl, inr, List, [], ◌∷◌, ◌++◌, filter, None, Less, refl, sym, ap, subst, ◌∙◌, arith}
use Rattle.std.specs.Prelude.{IsErrOf, Err, Contains}
use Rattle.std.specs.BTreeSet.{BTreeSet, contains}
use Rattle.std.specs.Cmp.Lexicographic.{slice_cmp}
use Rattle.std.specs.List.{AllByRecursion}
use Rattle.std.specs.List.Sorted.{IsStrictlySortedBy}
use Rattle.std.specs.Map.{keys_of}
use Rattle.std.specs.Ordering.{is_eq, nat_cmp}
use Rattle.std.specs.Str.{bytes_eq}
use Rattle.std.proofs.lemmas.Bool.{cases_Bool, not-true, true≢false}
use Rattle.std.proofs.lemmas.List.Elements.{Contains-append_cases, Contains-append_left, Contains-append_right}
use Rattle.std.proofs.lemmas.Map.Text.{is_eq-slice_cmp}
use Rattle.std.proofs.lemmas.Slice.Eq.{bytes_eq-Decides}
use Rattle.oci_manifest.specs.Descriptor.{Descriptor, is_among, key_cmp}
use Rattle.oci_manifest.specs.declared.key.Key.{Key}
use Rattle.oci_store.specs.Content.{Entry}
use Rattle.oci_store.specs.Graph.{Node}
use Rattle.oci_store.specs.Tags.{IsUntagFault, Tags, by_bytes, tag_at, without_tag}
use Rattle.oci_store.specs.declared.fault.RefFault.{RefFault}
use Rattle.oci_store.specs.declared.fault.RefFault.TheVariants as fault
use Rattle.oci_store.proofs.Membership.{Contains-from_among, among_from_Contains, among-filter, among_filter_from}
use Rattle.oci_layout_store.proofs.OrderedTags.{IsOrdered, first_at, same_bytes}
use Rattle.oci_prune.specs.Attached.{AreFollowers, AttachedBy, AttachedIn, HasAttached, followers_in}
use Rattle.oci_prune.specs.Belongs.{AreMembers, IsUnknown, needed}
use Rattle.oci_prune.specs.Plan.{AreHeld, IsSafe, KnowsListed}
use Rattle.oci_prune.specs.Subjects.{referrers_in}
use Rattle.oci_prune.specs.Untagged.{AreLeft, HasFollowers, StaysItself}
use Rattle.oci_prune.specs.declared.attachments.Attachments.{Attachments}
use Rattle.oci_prune.proofs.Plans.{are_kept_same, kept_same, safe_for_fewer, safe_from_kept}

abbrev Set : Type 0
Set = BTreeSet Descriptor

abbrev Keys : Type 0
Keys = List Descriptor

-- ---- what is kept

-- the members from the keys that stay for themselves are what is left
pub are_left : (graph : List Node) (entries : List Entry) (tags : Tags) (going others held outside roots : Keys) (attachments : Attachments) (gone kept : Set) → AreHeld graph held → HasAttached entries tags attachments
    → AreMembers graph going (AttachedIn attachments) gone → outside ≡ filter (λ (k : Descriptor). not (contains key_cmp gone k)) held → roots ≡ outside ++ others → AreMembers graph roots (AttachedIn attachments) kept
    → AreLeft graph going others (AttachedBy entries tags) kept
are_left graph entries tags going others held outside roots attachments gone kept are_held has are_gone outer joined are_kept = record {
  roots = roots;
  each = λ k. (λ h. to k (subst (λ (ks : Keys). Contains ks k) joined h), λ h. subst (λ (ks : Keys). Contains ks k) (sym joined) (back k h));
  members = are_kept_same graph roots (AttachedIn attachments) (AttachedBy entries tags) kept has are_kept;
}
  where
    is_outside : Descriptor → Bool
    is_outside k = not (contains key_cmp gone k)

    to : (k : Descriptor) → Contains (outside ++ others) k → StaysItself graph going others (AttachedBy entries tags) k
    to k h =
        elim (Contains-append_cases outside others k h) [
          | inr other ↦ inl other
          | inl out ↦
              let p = among-filter is_outside held k (subst (λ (ks : Keys). is_among ks k ≡ true) outer (among_from_Contains outside k out)) in
              inr ((are_held.each k).0 (Contains-from_among held k p.1), λ belongs. true≢false (sym ((are_gone k).1 (kept_same graph going (AttachedBy entries tags) (AttachedIn attachments) (λ r s. (has r s).1) k belongs)) ∙ not-true (contains key_cmp gone k) p.0))
        ]

    back : (k : Descriptor) → StaysItself graph going others (AttachedBy entries tags) k → Contains (outside ++ others) k
    back k (inl other) = Contains-append_right outside others k other
    back k (inr p) =
        elim (cases_Bool (contains key_cmp gone k)) [
          | inl goes ↦ absurd (p.1 (kept_same graph going (AttachedIn attachments) (AttachedBy entries tags) (λ r s. (has r s).0) k ((are_gone k).0 goes)))
          | inr stays ↦
              Contains-append_left outside others k (Contains-from_among outside k (subst (λ (ks : Keys). is_among ks k ≡ true) (sym outer) (among_filter_from is_outside held k (ap not stays) (among_from_Contains held k ((are_held.each k).1 p.0)))))
        ]

-- what the others reach is kept
pub others_safe : (graph : List Node) (others outside roots : Keys) (attached : Descriptor → Descriptor → Type 0) (kept : Set) → roots ≡ outside ++ others → AreMembers graph roots attached kept → IsSafe graph others kept
others_safe graph others outside roots attached kept joined are =
    safe_for_fewer graph outside others kept (subst (λ (ks : Keys). IsSafe graph ks kept) joined (safe_from_kept graph roots attached kept are))

-- with each kept key the keys of the tags that name its digest are kept
pub has_followers : (graph : List Node) (tags : Tags) (roots : Keys) (attachments : Attachments) (kept : Set) → AreFollowers tags attachments.followers → AreMembers graph roots (AttachedIn attachments) kept → HasFollowers graph tags kept
has_followers graph tags roots attachments kept followers are k subject is_kept follows held =
    let there = Contains-append_right (referrers_in attachments.referrers subject) (followers_in attachments.followers subject) k ((followers k subject).1 follows) in
    (are k).1 (needed ((are subject).0 is_kept) (inr there) held)

-- ---- what is known

-- where a held key lists an unknown one, not all listed manifests are held
pub not_listed : (graph : List Node) (held : Keys) (attached : Descriptor → Descriptor → Type 0) (k : Descriptor) → AreHeld graph held → ((j subject : Descriptor) → attached j subject → ⊥) → IsUnknown graph held attached k → KnowsListed graph → ⊥
not_listed graph held attached k are none unknown knows =
    elim unknown.needed [
      | inl named ↦ true≢false (sym ((are.each k).0 named) ∙ unknown.absent)
      | inr p ↦
          elim p.2 [
            | inl edge ↦ true≢false (sym (knows p.0 k edge unknown.is_manifest) ∙ unknown.absent)
            | inr refers ↦ none k p.0 refers
          ]
    ]

-- ---- the tags

abbrev Named : Type 0
Named = String Global × Descriptor

-- a tag by its bytes
abbrev by_text : Named → List ℕ × Descriptor
by_text t = (string_bytes t.0, t.1)

-- the tags once those before a place are left out that do not stay
abbrev pub left_at : (List ℕ × Descriptor → Bool) → ℕ → List Named → Tags
left_at stays zero es = by_bytes es
left_at stays (suc i) [] = []
left_at stays (suc i) (e ∷ es) = cond (stays (by_text e)) (by_text e ∷ left_at stays i es) (left_at stays i es)

-- at the end those that stay are left
pub all_left : (stays : List ℕ × Descriptor → Bool) (es : List Named) (i : ℕ) → length es ≤ i → left_at stays i es ≡ filter stays (by_bytes es)
all_left stays [] zero past = refl
all_left stays [] (suc i) past = refl
all_left stays (e ∷ es) zero past = absurd (omega (arith, past))
all_left stays (e ∷ es) (suc i) past =
    let rest = all_left stays es i (omega (arith, past)) in
    elim (stays (by_text e)) as (λ b. cond b (by_text e ∷ left_at stays i es) (left_at stays i es) ≡ cond b (by_text e ∷ filter stays (by_bytes es)) (filter stays (by_bytes es))) [
      | true ↦ ap (λ (ts : Tags). by_text e ∷ ts) rest
      | false ↦ rest
    ]

one_more : (i : ℕ) → suc i ≡ i + 1
one_more i = omega arith

stays_next : (stays : List ℕ × Descriptor → Bool) (es : List Named) (i : ℕ) (t : Named) → i < length es → t ≡ get_or es i t → stays (by_text t) ≡ true → left_at stays (suc i) es ≡ left_at stays i es
stays_next stays [] i t lt is so = absurd (omega (arith, lt))
stays_next stays (e ∷ es) zero t lt is so =
    let here : stays (by_text e) ≡ true = ap (λ (u : Named). stays (by_text u)) (sym is) ∙ so in
    ap (λ (b : Bool). cond b (by_text e ∷ by_bytes es) (by_bytes es)) here
stays_next stays (e ∷ es) (suc i) t lt is so =
    let rest = stays_next stays es i t (omega (arith, lt)) is so in
    elim (stays (by_text e)) as (λ b. cond b (by_text e ∷ left_at stays (suc i) es) (left_at stays (suc i) es) ≡ cond b (by_text e ∷ left_at stays i es) (left_at stays i es)) [
      | true ↦ ap (λ (ts : Tags). by_text e ∷ ts) rest
      | false ↦ rest
    ]

-- a tag that stays is left
pub next_stays : (stays : List ℕ × Descriptor → Bool) (es : List Named) (i : ℕ) (t : Named) → i < length es → t ≡ get_or es i t → stays (by_text t) ≡ true → left_at stays (i + 1) es ≡ left_at stays i es
next_stays stays es i t lt is so = subst (λ (n : ℕ). left_at stays n es ≡ left_at stays i es) (one_more i) (stays_next stays es i t lt is so)

-- a name before all others is that of no other tag
none_named : (name : List ℕ) (tags : Tags) → AllByRecursion (λ (n : List ℕ). slice_cmp nat_cmp name n ≡ Less) (keys_of tags) → without_tag tags name ≡ tags
none_named name [] h = refl
none_named name (t ∷ tags) h =
    let apart : bytes_eq name t.0 ≡ false = sym (is_eq-slice_cmp name t.0) ∙ ap is_eq h.0 in
    rw apart (ap (λ (ts : Tags). t ∷ ts) (none_named name tags h.1))

-- a later name is another one
later_name : (name : List ℕ) (es : List Named) (i : ℕ) (t : Named) → AllByRecursion (λ (n : List ℕ). slice_cmp nat_cmp name n ≡ Less) (keys_of (by_bytes es)) → i < length es → t ≡ get_or es i t → bytes_eq (string_bytes t.0) name ≡ false
later_name name [] i t h lt is = absurd (omega (arith, lt))
later_name name (e ∷ es) zero t h lt is =
    let apart : bytes_eq name (string_bytes t.0) ≡ false = ap (λ (u : Named). bytes_eq name (string_bytes u.0)) is ∙ sym (is_eq-slice_cmp name (string_bytes e.0)) ∙ ap is_eq h.0 in
    elim (cases_Bool (bytes_eq (string_bytes t.0) name)) [
      | inr other ↦ other
      | inl same ↦ cc (sym apart ∙ (bytes_eq-Decides name (string_bytes t.0)).1 (sym ((bytes_eq-Decides (string_bytes t.0) name).0 same)))
    ]
later_name name (e ∷ es) (suc i) t h lt is = later_name name es i t h.1 (omega (arith, lt)) is

goes_next : (stays : List ℕ × Descriptor → Bool) (es : List Named) (i : ℕ) (t : Named) → IsOrdered (by_bytes es) → i < length es → t ≡ get_or es i t → stays (by_text t) ≡ false → left_at stays (suc i) es ≡ without_tag (left_at stays i es) (string_bytes t.0)
unfolding IsStrictlySortedBy
goes_next stays [] i t order lt is goes = absurd (omega (arith, lt))
goes_next stays (e ∷ es) zero t order lt is goes =
    let here : stays (by_text e) ≡ false = ap (λ (u : Named). stays (by_text u)) (sym is) ∙ goes in
    let name : string_bytes e.0 ≡ string_bytes t.0 = ap (λ (u : Named). string_bytes u.0) (sym is) in
    let itself = same_bytes (string_bytes e.0) in
    let out : without_tag (by_text e ∷ by_bytes es) (string_bytes e.0) ≡ by_bytes es = rw itself (none_named (string_bytes e.0) (by_bytes es) order.0) in
    ap (λ (b : Bool). cond b (by_text e ∷ by_bytes es) (by_bytes es)) here ∙ sym out ∙ ap (without_tag (by_text e ∷ by_bytes es)) name
goes_next stays (e ∷ es) (suc i) t order lt is goes =
    let within : i < length es = omega (arith, lt) in
    let rest = goes_next stays es i t order.1 within is goes in
    let apart = later_name (string_bytes e.0) es i t order.0 within is in
    let name = string_bytes t.0 in
    elim (stays (by_text e)) as (λ b. cond b (by_text e ∷ left_at stays (suc i) es) (left_at stays (suc i) es) ≡ without_tag (cond b (by_text e ∷ left_at stays i es) (left_at stays i es)) name) [
      | true ↦ rw apart (ap (λ (ts : Tags). by_text e ∷ ts) rest)
      | false ↦ rest
    ]

-- a tag that does not stay is left out
pub next_goes : (stays : List ℕ × Descriptor → Bool) (es : List Named) (i : ℕ) (t : Named) → IsOrdered (by_bytes es) → i < length es → t ≡ get_or es i t → stays (by_text t) ≡ false → left_at stays (i + 1) es ≡ without_tag (left_at stays i es) (string_bytes t.0)
next_goes stays es i t order lt is goes = subst (λ (n : ℕ). left_at stays n es ≡ without_tag (left_at stays i es) (string_bytes t.0)) (one_more i) (goes_next stays es i t order lt is goes)

some_there : (name : List ℕ) (t : List ℕ × Descriptor) (tags : Tags) → tag_at tags name ≢ None → tag_at (t ∷ tags) name ≢ None
some_there name t tags there none =
    elim (cases_Bool (bytes_eq name t.0)) [
      | inl same ↦ cc (rw same at none)
      | inr apart ↦ there (rw apart at none)
    ]

-- the tag at the place is still there
pub next_there : (stays : List ℕ × Descriptor → Bool) (es : List Named) (i : ℕ) (t : Named) → i < length es → t ≡ get_or es i t → tag_at (left_at stays i es) (string_bytes t.0) ≢ None
next_there stays [] i t lt is = absurd (omega (arith, lt))
next_there stays (e ∷ es) zero t lt is = λ none. cc (sym (ap (λ (u : Named). tag_at (by_text e ∷ by_bytes es) (string_bytes u.0)) is ∙ first_at (by_text e) (by_bytes es)) ∙ none)
next_there stays (e ∷ es) (suc i) t lt is =
    let rest = next_there stays es i t (omega (arith, lt)) is in
    elim (stays (by_text e)) as (λ b. tag_at (cond b (by_text e ∷ left_at stays i es) (left_at stays i es)) (string_bytes t.0) ≢ None) [
      | true ↦ some_there (string_bytes t.0) (by_text e) (left_at stays i es) rest
      | false ↦ rest
    ]

-- no removal of such a tag is refused
pub never_refused : (tags : Tags) (name : List ℕ) (e : RefFault) → IsUntagFault tags name e → (IsErrOf {T = Key} (Err e) fault.Memory → ⊥) → name ≢ [] → tag_at tags name ≢ None → ⊥
never_refused tags name fault.EmptyReference is memory named there = named is
never_refused tags name fault.UnknownReference is memory named there = there is.1
never_refused tags name fault.NotHeld is memory named there = is
never_refused tags name fault.Memory is memory named there = memory refl

-- the name at a place is one of those of the tags
pub name_at : (es : List Named) (i : ℕ) (t : Named) → i < length es → t ≡ get_or es i t → AllByRecursion (λ (n : List ℕ). n ≢ []) (keys_of (by_bytes es)) → string_bytes t.0 ≢ []
name_at [] i t lt is h = absurd (omega (arith, lt))
name_at (e ∷ es) zero t lt is h = λ none. h.0 (ap (λ (u : Named). string_bytes u.0) (sym is) ∙ none)
name_at (e ∷ es) (suc i) t lt is h = name_at es i t (omega (arith, lt)) is h.1
