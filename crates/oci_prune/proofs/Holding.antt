-- The plan of a prune that keeps each held key.
use Rattle.std.proofs.Common.{◌≡◌, ◌≢◌, ◌⊎◌, true, false, inl, inr, ℕ, List, [], None, is_some, refl, sym, ap, subst, ◌∙◌}
use Rattle.std.specs.Prelude.{Contains}
use Rattle.std.specs.BTreeSet.{BTreeSet, contains}
use Rattle.std.specs.List.{slice_get}
use Rattle.std.specs.List.Sorted.{IsStrictlySortedBy}
use Rattle.std.proofs.lemmas.Bool.{cases_Bool, false≢true, true≢false}
use Rattle.oci_manifest.specs.Descriptor.{Descriptor, key_cmp}
use Rattle.oci_store.specs.Graph.{Node, root as start}
use Rattle.oci_store.specs.Keyed.{has_key, first_missing}
use Rattle.oci_dir.specs.Device.{Device}
use Rattle.oci_layout_store.specs.Entries.{said, unreadable_places}
use Rattle.oci_layout_store.specs.Layout.{LayoutState, OpenedIndex, manifests_of}
use Rattle.oci_layout_store.specs.Meaning.{meaning}
use Rattle.oci_layout_store.specs.declared.fault.LayoutFault.TheVariants as layout
use Rattle.oci_prune.specs.Belongs.{AllKnown, given}
use Rattle.oci_prune.specs.Plan.{AreHeld, AreRemoved, IsSafe, KnowsListed, RefersIf}
use Rattle.oci_prune.specs.Refusal.{IsCheckFault, IsHeldPlanFault, IsKeyFault, IsUntaggedFault}
use Rattle.oci_prune_fault.specs.declared.fault.PruneFault.{PruneFault}
use Rattle.oci_prune_fault.specs.declared.fault.PruneFault.TheVariants as fault
use Rattle.oci_prune.proofs.Elements.{no_element}

-- what is safe for the held keys is safe for any
pub safe_for_any : (graph : List Node) (held roots : List Descriptor) (set : BTreeSet Descriptor) → AreHeld graph held → IsSafe graph held set → IsSafe graph roots set
safe_for_any graph held roots set are safe = record {
  held = safe.held;
  reached = λ k reaches there. safe.reached k (start ((are.each k).1 there)) there;
  closed = safe.closed;
}

nothing_ordered : IsStrictlySortedBy key_cmp []
unfolding IsStrictlySortedBy
nothing_ordered = tt

-- no key is removed if each held key is kept
pub none_removed : (graph : List Node) (set : BTreeSet Descriptor) (removed : List Descriptor) → ((k : Descriptor) → has_key graph k ≡ true → contains key_cmp set k ≡ true) → removed ≡ [] → AreRemoved graph set removed
none_removed graph set removed kept none = record {
  each = λ k. (
    λ h. absurd (no_element k (subst (λ (ks : List Descriptor). Contains ks k) none h)),
    λ h. absurd (true≢false (sym (kept k h.0) ∙ h.1)),
  );
  order = subst (IsStrictlySortedBy key_cmp) (sym none) nothing_ordered;
}

-- no key that the held ones need is unknown, so each manifest that they list is held
pub knows_listed : (dir : Device) (graph : List Node) (held : List Descriptor) (attached : Descriptor → Descriptor → Type 0) → AreHeld graph held → AllKnown graph held attached → KnowsListed graph
knows_listed dir graph held attached are known from k edge manifest =
    elim (cases_Bool (has_key graph k)) [
      | inl there ↦ there
      | inr absent ↦
          let holds = ap is_some edge.1 in
          absurd (known k (record { needed = inr (from, given ((are.each from).1 holds) holds, inl edge); absent = absent; is_manifest = manifest }))
    ]

-- a fault of the check is one of the plan
pub check_fault : {D : Type 0} (dir : Device) (l : LayoutState D) (e : PruneFault) → IsCheckFault dir l.graph l.opened e → IsHeldPlanFault dir l e
check_fault dir l (fault.Unknown k) h = inl h
check_fault dir l (fault.NotRemoved path) h = h
check_fault dir l (fault.Fetch k e) h = absurd h
check_fault dir l (fault.Layout (layout.BadManifest k e)) h = absurd h
check_fault dir l (fault.Layout layout.NoLayoutFile) h = h
check_fault dir l (fault.Layout layout.BadLayoutFile) h = h
check_fault dir l (fault.Layout layout.BadVersion) h = h
check_fault dir l (fault.Layout (layout.BadIndex e)) h = h
check_fault dir l (fault.Layout layout.Device) h = h
check_fault dir l (fault.Layout (layout.Corrupt k)) h = h
check_fault dir l (fault.Layout layout.Memory) h = h
check_fault dir l (fault.Layout layout.AlreadyLayout) h = h
check_fault dir l fault.Memory h = h
check_fault dir l fault.NoTags h = h
check_fault dir l (fault.LinkedBlobs path) h = h

-- so is a fault of the walk from the held keys
pub walk_fault : {D : Type 0} (dir : Device) (l : LayoutState D) (held : List Descriptor) (e : PruneFault) → AreHeld l.graph held → IsKeyFault (meaning dir l.graph l.tags) held false e → IsHeldPlanFault dir l e
walk_fault dir l held (fault.Unknown k) are h = inr (λ honest.
    let u = h honest in
    elim u.needed [
      | inl named ↦ absurd (true≢false (sym ((are.each k).0 named) ∙ u.absent))
      | inr p ↦
          elim p.2 [
            | inl edge ↦ (p.0, edge, u.absent, u.is_manifest)
            | inr refers ↦ absurd refers
          ]
    ])
walk_fault dir l held (fault.NotRemoved path) are h = absurd h
walk_fault dir l held (fault.Fetch k e) are h = absurd (false≢true h.0.0)
walk_fault dir l held (fault.Layout layout.NoLayoutFile) are h = absurd h
walk_fault dir l held (fault.Layout layout.BadLayoutFile) are h = absurd h
walk_fault dir l held (fault.Layout layout.BadVersion) are h = absurd h
walk_fault dir l held (fault.Layout (layout.BadIndex e)) are h = absurd h
walk_fault dir l held (fault.Layout layout.Device) are h = absurd h
walk_fault dir l held (fault.Layout (layout.Corrupt k)) are h = absurd h
walk_fault dir l held (fault.Layout layout.Memory) are h = absurd h
walk_fault dir l held (fault.Layout (layout.BadManifest k e)) are h = absurd (false≢true h.0.0)
walk_fault dir l held (fault.Layout layout.AlreadyLayout) are h = absurd h
walk_fault dir l held fault.Memory are h = tt
walk_fault dir l held fault.NoTags are h = absurd h
walk_fault dir l held (fault.LinkedBlobs path) are h = absurd h

-- ---- a layout without tags

-- where the check finds nothing to refuse, only a read fails
pub check_untagged : (dir : Device) (graph : List Node) (opened : OpenedIndex) (e : PruneFault) → opened.absent ≡ [] → first_missing graph (manifests_of opened.damaged) ≡ None → unreadable_places (said opened.content).entries ≡ [] → dir.is_honest → dir.link ≡ None
    → IsCheckFault dir graph opened e → IsUntaggedFault dir e
check_untagged dir graph opened (fault.Unknown k) whole sound readable honest unlinked (inl first) = cc (sym (ap (λ (ks : List Descriptor). slice_get ks 0) whole) ∙ first)
check_untagged dir graph opened (fault.Unknown k) whole sound readable honest unlinked (inr second) = cc (sym sound ∙ second.1)
check_untagged dir graph opened (fault.LinkedBlobs path) whole sound readable honest unlinked h = cc (sym unlinked ∙ h honest)
check_untagged dir graph opened (fault.Layout (layout.BadIndex e)) whole sound readable honest unlinked h = cc (sym (ap (λ (places : List ℕ). slice_get places 0) readable) ∙ h.1)
check_untagged dir graph opened (fault.Layout layout.Device) whole sound readable honest unlinked h = h
check_untagged dir graph opened fault.Memory whole sound readable honest unlinked h = tt
check_untagged dir graph opened fault.NoTags whole sound readable honest unlinked h = tt
check_untagged dir graph opened (fault.NotRemoved path) whole sound readable honest unlinked h = absurd h
check_untagged dir graph opened (fault.Fetch k e) whole sound readable honest unlinked h = absurd h
check_untagged dir graph opened (fault.Layout layout.NoLayoutFile) whole sound readable honest unlinked h = absurd h
check_untagged dir graph opened (fault.Layout layout.BadLayoutFile) whole sound readable honest unlinked h = absurd h
check_untagged dir graph opened (fault.Layout layout.BadVersion) whole sound readable honest unlinked h = absurd h
check_untagged dir graph opened (fault.Layout (layout.Corrupt k)) whole sound readable honest unlinked h = absurd h
check_untagged dir graph opened (fault.Layout layout.Memory) whole sound readable honest unlinked h = absurd h
check_untagged dir graph opened (fault.Layout (layout.BadManifest k e)) whole sound readable honest unlinked h = absurd h
check_untagged dir graph opened (fault.Layout layout.AlreadyLayout) whole sound readable honest unlinked h = absurd h

-- a fault of the tags says that there is none, or is that of memory
pub tags_untagged : (dir : Device) (e : PruneFault) (none : Type 0) → (e ≡ fault.Memory) ⊎ ((e ≡ fault.NoTags) × none) → IsUntaggedFault dir e
tags_untagged dir e none (inl memory) = rw memory tt
tags_untagged dir e none (inr untagged) = rw untagged.0 tt
