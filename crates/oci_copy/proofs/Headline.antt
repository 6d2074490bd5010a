-- A run that kept what it owes, and has the roots, made a copy.
use Rattle.std.proofs.Common.{◌≡◌, ◌+◌, length, ◌⊎◌, inl, inr, ℕ, true, List, [], ◌∷◌, ◌++◌, Some, refl, sym, ap, subst, ◌∙◌, append-nil, arith}
use Rattle.std.specs.Prelude.{Contains}
use Rattle.std.specs.List.{All}
use Rattle.std.specs.Map.{keys_of}
use Rattle.std.proofs.lemmas.List.Elements.{All-nil, All-weaker, All-append, All-contains}
use Rattle.std.proofs.lemmas.Option.{same_Some}
use Rattle.std.proofs.lemmas.Bool.{cases_Bool}
use Rattle.oci_manifest.specs.Descriptor.{Descriptor, same_key}
use Rattle.oci_manifest.proofs.Keys.{Decides-same_key}
use Rattle.oci_store.specs.Keyed.{value_at, has_key, HasAll}
use Rattle.oci_store.specs.Content.{Entry, successors_in}
use Rattle.oci_store.specs.Graph.{Node, nodes_of, Reaches}
use Rattle.oci_store.specs.Graph as graph
use Rattle.oci_store.specs.Closed.{IsClosed}
use Rattle.oci_store.specs.Copied.{Agree, IsCopied, AreReached}
use Rattle.oci_store.proofs.Lookups.{All-value_at, value_at-append_cases, has_key-append_left, has_key-same_keys}
use Rattle.oci_store.proofs.Copies.{holds_reached, grows_to_copy}
use Rattle.oci_plan.specs.Met.{IsMet}
use Rattle.oci_plan.specs.Met as path
use Rattle.oci_plan.specs.Outside.{IsOutside, IsToBring}
use Rattle.oci_plan.specs.Outside as outside
use Rattle.oci_plan.specs.Plan.{Planned}
use Rattle.oci_plan.specs.declared.gathering.Existing.{Existing}
use Rattle.oci_plan.specs.declared.gathering.Existing.TheVariants.{Skip, Descend}
use Rattle.oci_store.specs.State.{State}
use Rattle.oci_copy.specs.declared.options.Options.{Options}
use Rattle.oci_copy.specs.Destination.{IsClosedWhenSkipping}
use Rattle.oci_copy.specs.Copy.{IsCopy, OnlyGrows}
use Rattle.oci_copy.specs.Grown.{graph_of, IsGrown, HasKnownBytes, ListsByBytes}
use Rattle.oci_copy.specs.Kept.{Keeps}
use Rattle.oci_copy.specs.Planned.{IsPlanOf}
use Rattle.oci_copy.specs.Report.{IsReport}
use Rattle.oci_copy.specs.declared.report.Report.{Report}
use Rattle.oci_copy.proofs.Growth.{HasAll-append}

-- what is outside is reached
pub reached-from_outside : (source held : List Node) (roots : List Descriptor) (k : Descriptor) → IsOutside source held roots k → Reaches source roots k
reached-from_outside source held roots k (outside.root there fresh) = graph.root there
reached-from_outside source held roots k (outside.along {from} {to} before edge fresh) = graph.along (reached-from_outside source held roots from before) edge

-- so is what is to be brought
pub reached-to_bring : (existing : Existing) (source held : List Node) (roots : List Descriptor) (k : Descriptor) → IsToBring existing source held roots k → Reaches source roots k
reached-to_bring Skip source held roots k bring = reached-from_outside source held roots k bring
reached-to_bring Descend source held roots k bring = bring.0

-- a node of a content is that of a pair
found-nodes_of : (entries : List Entry) (k : Descriptor) (listed : List Descriptor) → value_at (nodes_of entries) k ≡ Some listed
    → (bytes : List ℕ) × (value_at entries k ≡ Some bytes) × (listed ≡ successors_in k bytes)
found-nodes_of [] k listed h = cc h
found-nodes_of (e ∷ entries) k listed h =
    elim (cases_Bool (same_key e.0 k)) [
      | inl same ↦
          let key = (Decides-same_key e.0 k).0 same in
          let is : successors_in e.0 e.1 ≡ listed = same_Some _ _ (rw same at h) in
          (e.1, rw same refl, sym is ∙ ap (λ (d : Descriptor). successors_in d e.1) key)
      | inr other ↦
          let it = found-nodes_of entries k listed (rw other at h) in
          (it.0, rw other it.1, it.2)
    ]

-- contents that agree have graphs that agree
pub Agree-nodes_of : (a b : List Entry) → Agree a b → Agree (nodes_of a) (nodes_of b)
Agree-nodes_of a b agree k x y at_a at_b =
    let one = found-nodes_of a k x at_a in
    let two = found-nodes_of b k y at_b in
    one.2 ∙ ap (successors_in k) (agree k one.0 two.0 one.1 two.1) ∙ sym two.2

-- a list that grew by a source's pairs agrees with the source where it did before
Agree-grown : {X : Type 0} (source old added : List (Descriptor × X)) → Agree source old → All (λ (e : Descriptor × X). value_at source e.0 ≡ Some e.1) added → Agree source (old ++ added)
Agree-grown {X} source old added agree own k x y at_source at_new =
    elim (value_at-append_cases old added k y at_new) [
      | inl kept ↦ agree k x y at_source kept
      | inr new ↦ same_Some x y (sym at_source ∙ All-value_at (λ (e : Descriptor × X). value_at source e.0 ≡ Some e.1) added k y own new)
    ]

-- what only grew by nodes all of whose listed keys are held is closed where it was
pub closed_kept : {shares : Type 0} {source : State} {planned : List Descriptor} {opening now : State} → Keeps shares source planned opening now → IsClosed opening.nodes → IsClosed now.nodes
closed_kept {shares} {source} {planned} {opening} {now} keeps was =
    let more : (ks : List Descriptor) → HasAll opening.nodes ks → HasAll now.nodes ks =
    λ (ks : List Descriptor) (h : HasAll opening.nodes ks). subst (λ (l : List Node). HasAll l ks) (sym keeps.is) (HasAll-append opening.nodes keeps.added ks h) in
    let old = All-weaker (λ (n : Node). HasAll opening.nodes n.1) (λ (n : Node). HasAll now.nodes n.1) (λ n h. more n.1 h) opening.nodes was in
    subst (λ (l : List Node). All (λ (n : Node). HasAll now.nodes n.1) l) (sym keeps.is) (All-append (λ (n : Node). HasAll now.nodes n.1) opening.nodes keeps.added old keeps.supported)

-- a key that was met where held keys are passed over is met where they are not
met_descending : (existing : Existing) (entries : List Entry) (held : List Node) (roots : List Descriptor) (k : Descriptor) → IsMet existing entries held roots k → IsMet Descend entries held roots k
met_descending existing entries held roots k (path.root there pass) = path.root there refl
met_descending existing entries held roots k (path.along {from} {to} before under pass) = path.along (met_descending existing entries held roots from before) under refl

module _ {shares : Type 0} {source : State} {options : Options} {opening now : State} {p : Planned} {roots : List Descriptor}
    (plan : IsPlanOf source options opening roots p) (keeps : Keeps shares source p.keys opening now) where
  -- what is planned is reached
  reached : source.is_honest → (k : Descriptor) → Contains p.keys k → Reaches (graph_of source) roots k
  reached h k there = reached-to_bring options.existing (graph_of source) opening.nodes roots k ((plan.outside h k).0 there)

  each : source.is_honest → AreReached (graph_of source) (graph_of source) roots keeps.added
  each h = λ i d lt. (keeps.own h i d lt, reached h _ (keeps.planned_keys i d lt))

  grown_content : HasKnownBytes shares source opening now → IsGrown (graph_of source) source.entries roots opening.entries now.entries
  grown_content known =
      let was = (keeps.known known).1 in
      (was.added, was.is, λ i d lt. let e = was.each i d lt in (e.1, reached known.is_honest _ e.0))

  -- a run that kept what it owes only grew
  pub only_grows : OnlyGrows shares source opening roots now
  only_grows = record {
    begins = (keeps.added, keeps.is);
    grown = λ h. (keeps.added, keeps.is, each h);
    grown_content = grown_content;
    sound = λ known. (keeps.known known).0;
    met = (keeps.added, keeps.is, λ i d lt. met_descending options.existing source.entries opening.nodes roots _ (All-contains (IsMet options.existing source.entries opening.nodes roots) p.keys _ plan.met (keeps.planned_keys i d lt)));
    whole = (keeps.added, keeps.is, keeps.supported);
    checked = (keeps.added, keeps.is, keeps.checked);
    closed = closed_kept keeps;
    failures = keeps.rising;
    name = keeps.name;
    lasts = keeps.lasts;
  }

  -- where the planned keys are held, so are the roots
  roots_held : HasAll now.nodes p.keys → HasAll now.nodes roots
  roots_held all = All-weaker (λ k. (has_key opening.nodes k ≡ true) ⊎ Contains p.keys k) (λ k. has_key now.nodes k ≡ true) held roots plan.roots_held
    where
      held : (k : Descriptor) → (has_key opening.nodes k ≡ true) ⊎ Contains p.keys k → has_key now.nodes k ≡ true
      held k (inl old) = subst (λ (l : List Node). has_key l k ≡ true) (sym keeps.is) (has_key-append_left opening.nodes keeps.added k old)
      held k (inr new) = All-contains (λ d. has_key now.nodes d ≡ true) p.keys k all new

  module _ (all : HasAll now.nodes p.keys) where
    agrees : source.is_honest → Agree (graph_of source) opening.nodes → Agree (graph_of source) (opening.nodes ++ keeps.added)
    agrees h agree = Agree-grown (graph_of source) opening.nodes keeps.added agree (keeps.own h)

    reached_held : source.is_honest → Agree (graph_of source) opening.nodes → (k : Descriptor) → Reaches (graph_of source) roots k → has_key now.nodes k ≡ true
    reached_held h agree = holds options.existing plan.closed (λ k bring. (plan.outside h k).1 bring)
      where
        after : Agree (graph_of source) now.nodes
        after = subst (Agree (graph_of source)) (sym keeps.is) (agrees h agree)

        -- the destination is closed; or what is reached is held already or to be brought
        holds : (existing : Existing) → IsClosedWhenSkipping existing opening.nodes → ((k : Descriptor) → IsToBring existing (graph_of source) opening.nodes roots k → Contains p.keys k)
            → (k : Descriptor) → Reaches (graph_of source) roots k → has_key now.nodes k ≡ true
        holds Skip was_closed bring = holds_reached (graph_of source) now.nodes roots after (closed_kept keeps was_closed) (roots_held all)
        holds Descend was bring = λ k r. elim (cases_Bool (has_key opening.nodes k)) [
          | inl old ↦ subst (λ (l : List Node). has_key l k ≡ true) (sym keeps.is) (has_key-append_left opening.nodes keeps.added k old)
          | inr new ↦ All-contains (λ d. has_key now.nodes d ≡ true) p.keys k all (bring k (r, new))
        ]

    copied : source.is_honest → Agree (graph_of source) opening.nodes → IsCopied (graph_of source) (graph_of source) roots opening.nodes now.nodes
    copied h agree =
        subst (λ (l : List Node). IsCopied (graph_of source) (graph_of source) roots opening.nodes l) (sym keeps.is)
        (grows_to_copy (List Descriptor) (graph_of source) (graph_of source) opening.nodes keeps.added roots (agrees h agree) (each h)
        (λ k r. subst (λ (l : List Node). has_key l k ≡ true) keeps.is (reached_held h agree k r)))

    copied_content : (opening.is_sound → opening.nodes ≡ graph_of opening) → keys_of now.nodes ≡ keys_of now.entries → HasKnownBytes shares source opening now → Agree source.entries opening.entries
        → IsCopied (graph_of source) source.entries roots opening.entries now.entries
    copied_content listed same known agree_entries =
        let was = (keeps.known known).1 in
        let own : All (λ (e : Entry). value_at source.entries e.0 ≡ Some e.1) was.added = λ i d lt. (was.each i d lt).1 in
        let agree : Agree (graph_of source) opening.nodes = subst (Agree (graph_of source)) (sym (listed known.is_sound)) (Agree-nodes_of source.entries opening.entries agree_entries) in
        let holds : (k : Descriptor) → Reaches (graph_of source) roots k → has_key now.entries k ≡ true = λ k r. has_key-same_keys now.nodes now.entries k same (reached_held known.is_honest agree k r) in
        subst (λ (l : List Entry). IsCopied (graph_of source) source.entries roots opening.entries l) (sym was.is)
        (grows_to_copy (List ℕ) (graph_of source) source.entries opening.entries was.added roots (Agree-grown source.entries opening.entries was.added agree_entries own)
        (λ i d lt. let e = was.each i d lt in (e.1, reached known.is_honest _ e.0))
        (λ k r. subst (λ (l : List Entry). has_key l k ≡ true) was.is (holds k r)))

    -- a run that holds all that is planned made a copy
    pub is_copy : (opening.is_sound → opening.nodes ≡ graph_of opening) → keys_of now.nodes ≡ keys_of now.entries → (report : Report) → IsReport options.existing source opening roots now report
        → IsCopy shares options source opening roots now report
    is_copy listed same report reported = record {
      graph = copied;
      reached = reached_held;
      content = copied_content listed same;
      roots_held = roots_held all;
      was_closed = plan.closed;
      was_sound = plan.visited;
      reported = reported;
    }

-- the report of a run that holds all that is planned
pub is_report : {source : State} {options : Options} {opening now : State} {p : Planned} {roots : List Descriptor} → IsPlanOf source options opening roots p → (report : Report)
    → report.planned ≡ length p.keys → report.pushed ≡ length p.keys → report.skipped ≡ length p.skipped → length now.nodes ≡ length opening.nodes + length p.keys
    → IsReport options.existing source opening roots now report
is_report {opening = opening} {p = p} plan report planned pushed skipped count = record {
  planned = λ h. (p.keys, plan.can_push.plan.distinct, plan.outside h, sym planned);
  pushed = planned ∙ sym pushed;
  gained = count ∙ ap (λ (n : ℕ). length opening.nodes + n) (sym pushed);
  skipped = skipped ∙ ap length plan.skipped;
}

-- a copy that has no plan changed nothing
pub unchanged_grows : (shares : Type 0) (source opening : State) (roots : List Descriptor) → OnlyGrows shares source opening roots opening
unchanged_grows shares source opening roots = record {
  begins = ([], sym (append-nil opening.nodes));
  grown = λ h. ([], sym (append-nil opening.nodes), All-nil (λ (e : Node). (value_at (graph_of source) e.0 ≡ Some e.1) × Reaches (graph_of source) roots e.0));
  grown_content = λ known. ([], sym (append-nil opening.entries), All-nil (λ (e : Entry). (value_at source.entries e.0 ≡ Some e.1) × Reaches (graph_of source) roots e.0));
  sound = λ known. known.is_sound;
  met = ([], sym (append-nil opening.nodes), All-nil (λ (n : Node). IsMet Descend source.entries opening.nodes roots n.0));
  whole = ([], sym (append-nil opening.nodes), All-nil (λ (n : Node). HasAll opening.nodes n.1));
  checked = ([], sym (append-nil opening.nodes), All-nil ListsByBytes);
  closed = λ was. was;
  failures = omega arith;
  name = refl;
  lasts = λ h entries tags same was. was;
}
