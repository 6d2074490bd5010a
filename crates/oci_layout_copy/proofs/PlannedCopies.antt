-- The graph that a planned copy would leave is a copy.
use Rattle.std.proofs.Common.{◌≡◌, Bool, true, false, inl, inr, List, Some, sym, ap, subst, ◌∙◌}
use Rattle.std.specs.Prelude.{◌⊎◌, Contains}
use Rattle.std.specs.BTreeSet.{BTreeSet, contains}
use Rattle.std.proofs.lemmas.Bool.{cases_Bool}
use Rattle.std.proofs.lemmas.Option.{same_Some}
use Rattle.oci_manifest.specs.Descriptor.{Descriptor, key_cmp}
use Rattle.oci_store.specs.Closed.{IsClosed}
use Rattle.oci_store.specs.Copied.{Agree, IsCopied}
use Rattle.oci_store.specs.Graph.{Node, Reaches, root as start, along}
use Rattle.oci_store.specs.Keyed.{value_at, has_key, HasAll}
use Rattle.oci_store.specs.State.{State}
use Rattle.oci_store.proofs.Lookups.{All-value_at, found, has_key-from_HasAll}
use Rattle.oci_plan.specs.Outside.{IsOutside, IsToBring, root as outside, along as onward}
use Rattle.oci_plan.specs.Plan.{Planned}
use Rattle.oci_plan.specs.declared.gathering.Existing.{Existing}
use Rattle.oci_plan.specs.declared.gathering.Existing.TheVariants.{Skip, Descend}
use Rattle.oci_copy.specs.Destination.{IsClosedWhenSkipping}
use Rattle.oci_copy.specs.Grown.{graph_of}
use Rattle.oci_copy.specs.Planned.{IsPlanOf}
use Rattle.oci_copy.specs.declared.options.Options.{Options}
use Rattle.oci_copy.proofs.Headline.{reached-to_bring}
use Rattle.oci_prune.specs.After.{after_copy}
use Rattle.oci_prune.proofs.Arriving.{value_new, value_there}
use Rattle.oci_layout_copy.specs.PlannedMirror.{HasKeys}

-- what a source reaches is held, or reached past what is held, if the held keys are closed and list
-- what the source's list
held_or_outside : (source held : List Node) (roots : List Descriptor) → IsClosed held → Agree source held → (k : Descriptor) → Reaches source roots k → (has_key held k ≡ true) ⊎ IsOutside source held roots k
held_or_outside source held roots closed agree k (start named) =
    elim (cases_Bool (has_key held k)) [
      | inl there ↦ inl there
      | inr fresh ↦ inr (outside named fresh)
    ]
held_or_outside source held roots closed agree k (along {from} path edge) =
    elim (cases_Bool (has_key held k)) [
      | inl there ↦ inl there
      | inr fresh ↦ elim (held_or_outside source held roots closed agree from path) [
        | inr before ↦ inr (onward before edge fresh)
        | inl there ↦
            let one = found held from there in
            let same : edge.0 ≡ one.0 = agree from edge.0 one.0 edge.1 one.1 in
            let lists : HasAll held one.0 = All-value_at (λ (n : Node). HasAll held n.1) held from one.0 closed one.1 in
            inl (has_key-from_HasAll held one.0 k lists (subst (λ (ks : List Descriptor). Contains ks k) same edge.2))
      ]
    ]

-- so what is reached and not held is to be brought
reached_to_bring : (existing : Existing) (source held : List Node) (roots : List Descriptor) → IsClosedWhenSkipping existing held → Agree source held → (k : Descriptor) → Reaches source roots k → has_key held k ≡ false → IsToBring existing source held roots k
reached_to_bring Skip source held roots closed agree k reached fresh =
    elim (held_or_outside source held roots closed agree k reached) [
      | inl there ↦ cc (sym fresh ∙ there)
      | inr is ↦ is
    ]
reached_to_bring Descend source held roots closed agree k reached fresh = (reached, fresh)

-- the graph after a planned copy is that of a copy
pub copied_after : (source old : State) (options : Options) (roots : List Descriptor) (p : Planned) → IsPlanOf source options old roots p → source.is_honest → source.nodes ≡ graph_of source → (arriving : BTreeSet Descriptor) → HasKeys arriving p.keys → Agree (graph_of source) old.nodes
    → IsCopied (graph_of source) (graph_of source) roots old.nodes (after_copy source arriving old).nodes
copied_after source old options roots p plan honest listed arriving has agree k x = (to, back)
  where
    graph : List Node
    graph = graph_of source

    after : List Node
    after = (after_copy source arriving old).nodes

    arrives : Descriptor → Bool
    arrives j = contains key_cmp arriving j

    in_graph : value_at source.nodes k ≡ value_at graph k
    in_graph = ap (λ (ns : List Node). value_at ns k) listed

    to : value_at after k ≡ Some x → (value_at old.nodes k ≡ Some x) ⊎ ((value_at graph k ≡ Some x) × Reaches graph roots k)
    to at =
        elim (cases_Bool (has_key old.nodes k)) [
          | inl held ↦
              let one = found old.nodes k held in
              let same : one.0 ≡ x = same_Some one.0 x (sym (value_there arrives source.nodes old.nodes k one.0 one.1) ∙ at) in
              inl (one.1 ∙ ap Some same)
          | inr absent ↦ elim (cases_Bool (arrives k)) [
            | inl comes ↦ inr (sym in_graph ∙ sym (value_new arrives true source.nodes old.nodes k absent comes) ∙ at, reached-to_bring options.existing graph old.nodes roots k ((plan.outside honest k).0 ((has k).0 comes)))
            | inr stays ↦ cc (sym (value_new arrives false source.nodes old.nodes k absent stays) ∙ at)
          ]
        ]

    back : (value_at old.nodes k ≡ Some x) ⊎ ((value_at graph k ≡ Some x) × Reaches graph roots k) → value_at after k ≡ Some x
    back (inl at) = value_there arrives source.nodes old.nodes k x at
    back (inr new) =
        elim (cases_Bool (has_key old.nodes k)) [
          | inl held ↦
              let one = found old.nodes k held in
              let same : x ≡ one.0 = agree k x one.0 new.0 one.1 in
              value_there arrives source.nodes old.nodes k one.0 one.1 ∙ ap Some (sym same)
          | inr absent ↦
              let comes = (has k).1 ((plan.outside honest k).1 (reached_to_bring options.existing graph old.nodes roots plan.closed agree k new.1 absent)) in
              value_new arrives true source.nodes old.nodes k absent comes ∙ in_graph ∙ new.0
        ]
