-- The goal of a mirror: its roots, its tags, and the entries that stay.
use Rattle.std.proofs.Common.{◌≡◌, ◌≢◌, ℕ, Bool, true, false, cond, not, ◌&&◌, inl, inr, List, [], ◌∷◌, ◌++◌, filter, Option, Some, None, is_some, refl, sym, ap, subst, ◌∙◌}
use Rattle.std.specs.Prelude.{◌↔◌, ◌⊎◌, Contains}
use Rattle.std.specs.List.{All}
use Rattle.std.specs.Map.{keys_of, values_of}
use Rattle.std.proofs.lemmas.Bool.{cases_Bool}
use Rattle.std.proofs.lemmas.List.{append-nil, map-append}
use Rattle.std.proofs.lemmas.List.Elements.{All-append, All-contains, All-contains_itself, All-cons, All-head, All-nil, All-tail, All-weaker, Contains-append_cases, Contains-append_left, Contains-append_right}
use Rattle.std.proofs.lemmas.Slice.Eq.{bytes_eq-Decides}
use Rattle.oci_manifest.specs.Descriptor.{Descriptor}
use Rattle.oci_store.specs.Graph.{Node}
use Rattle.oci_store.specs.Keyed.{has_key, HasAll}
use Rattle.oci_store.specs.Tags.{Tags, tag_at}
use Rattle.oci_store.proofs.Membership.{Keys, with_keys-append}
use Rattle.oci_layout_store.specs.Brought.{gives_way, staying}
use Rattle.oci_dir.specs.Device.{Device}
use Rattle.oci_layout_store.specs.Entries.{IndexEntry, entry_keys, said}
use Rattle.oci_layout_store.specs.Layout.{LayoutState}
use Rattle.oci_layout_store.specs.Saved.{is_name, last_place, later_place, no_name}
use Rattle.oci_copy.specs.Grown.{BeginsWith}
use Rattle.oci_prune.specs.Pruned.{KeepsReached}
use Rattle.oci_prune.proofs.Elements.{Contains-cons, no_element}
use Rattle.oci_entries.specs.Brought.{named_entries}
use Rattle.oci_layout_copy.specs.Goal.{AreKeptTags, Fits, Goal, IsOnlySelected, IsPrepared, forgotten_entries, is_forgotten, spared_tags}
use Rattle.oci_entries.specs.Pattern.{matches_name, matches_one, matching_entries, unmatched_tags}
use Rattle.oci_selection.specs.Selected.{each_once, named_keys, other_tags, set_tags, AreOfRoots, IsOfRoot}
use Rattle.oci_selection.proofs.AttachedRoots.{both_of_roots}
use Rattle.oci_layout_copy.proofs.Mirrored.{grown_value, reached_from_more}
use Rattle.oci_selection.proofs.NamedRoots.{keys_named}
use Rattle.oci_selection.proofs.Selections.{placed_both}

abbrev pub IsNamed : List ℕ → Type 0
IsNamed name = name ≢ []

-- ---- names

-- those of tags of names are of names
pub filtered_named : (test : List ℕ × Descriptor → Bool) (tags : Tags) → All IsNamed (keys_of tags) → All IsNamed (keys_of (filter test tags))
filtered_named test [] all = all
filtered_named test (t ∷ tags) all =
    let rest = filtered_named test tags (All-tail IsNamed t.0 (keys_of tags) all) in
    elim (test t) as (λ b. All IsNamed (keys_of (cond b (t ∷ filter test tags) (filter test tags)))) [
      | true ↦ All-cons IsNamed t.0 (keys_of (filter test tags)) (All-head IsNamed t.0 (keys_of tags) all) rest
      | false ↦ rest
    ]

pub both_named : (tags others : Tags) → All IsNamed (keys_of tags) → All IsNamed (keys_of others) → All IsNamed (keys_of (tags ++ others))
both_named tags others named more = subst (All IsNamed) (sym (map-append (λ (e : List ℕ × Descriptor). e.0) tags others)) (All-append IsNamed (keys_of tags) (keys_of others) named more)

-- those of tags that a mirror may leave alone are of names
pub spared_named : (patterns : List (List ℕ)) (tags selected : Tags) → All IsNamed (keys_of tags) → All IsNamed (keys_of (spared_tags patterns tags selected))
spared_named patterns tags selected all =
    filtered_named (λ (t : List ℕ × Descriptor). not (is_some (tag_at (set_tags [] selected) t.0))) (unmatched_tags patterns tags) (filtered_named (λ (t : List ℕ × Descriptor). not (matches_one patterns t.0)) tags all)

-- ---- the roots

once_is : (first second : Keys) (k : Descriptor) → Contains (each_once (first ++ second)) k ↔ Contains (first ++ second) k
once_is first second k = placed_both first second (each_once (first ++ second)) (with_keys-append [] first second) k

-- the roots are the selected keys, and the others
pub goal_parts : (selected keys roots : Keys) → roots ≡ each_once (selected ++ keys) → (k : Descriptor) → Contains roots k ↔ (Contains selected k ⊎ Contains keys k)
goal_parts selected keys roots are k = subst (λ (ks : Keys). Contains ks k ↔ (Contains selected k ⊎ Contains keys k)) (sym are) (came, there)
  where
    came : Contains (each_once (selected ++ keys)) k → Contains selected k ⊎ Contains keys k
    came h = Contains-append_cases selected keys k ((once_is selected keys k).0 h)

    there : Contains selected k ⊎ Contains keys k → Contains (each_once (selected ++ keys)) k
    there (inl first) = (once_is selected keys k).1 (Contains-append_left selected keys k first)
    there (inr second) = (once_is selected keys k).1 (Contains-append_right selected keys k second)

-- with the keys of the kept tags and entries, and those that are kept for them
pub goal_roots : (selected listed own attached keys roots : Keys) → keys ≡ each_once (listed ++ attached) → roots ≡ each_once (selected ++ keys) → ((k : Descriptor) → Contains listed k ↔ Contains own k)
    → (k : Descriptor) → Contains roots k ↔ (Contains selected k ⊎ (Contains own k ⊎ Contains attached k))
goal_roots selected listed own attached keys roots are all same k = (came, there)
  where
    parts : Contains keys k ↔ (Contains listed k ⊎ Contains attached k)
    parts = goal_parts listed attached keys are k

    more : Contains listed k ⊎ Contains attached k → Contains own k ⊎ Contains attached k
    more (inl first) = inl ((same k).0 first)
    more (inr second) = inr second

    back : Contains own k ⊎ Contains attached k → Contains listed k ⊎ Contains attached k
    back (inl first) = inl ((same k).1 first)
    back (inr second) = inr second

    apart : Contains selected k ⊎ Contains keys k → Contains selected k ⊎ (Contains own k ⊎ Contains attached k)
    apart (inl first) = inl first
    apart (inr second) = inr (more (parts.0 second))

    came : Contains roots k → Contains selected k ⊎ (Contains own k ⊎ Contains attached k)
    came h = apart ((goal_parts selected keys roots all k).0 h)

    there : Contains selected k ⊎ (Contains own k ⊎ Contains attached k) → Contains roots k
    there (inl first) = (goal_parts selected keys roots all k).1 (inl first)
    there (inr second) = (goal_parts selected keys roots all k).1 (inr (parts.1 (back second)))

-- ---- the entries with a name

every_matches : (name : Option (List ℕ)) → matches_name [] name ≡ true
every_matches None = refl
every_matches (Some name) = refl

-- with no patterns each entry with a name matches
pub all_named : (es : List IndexEntry) → matching_entries [] es ≡ named_entries es
all_named [] = refl
all_named (e ∷ es) = rw (every_matches e.name) (more (not (no_name e.name)) (all_named es))
  where
    more : (b : Bool) → matching_entries [] es ≡ named_entries es → cond (b && true) (e ∷ matching_entries [] es) (matching_entries [] es) ≡ cond b (e ∷ named_entries es) (named_entries es)
    more true rest = ap (λ (xs : List IndexEntry). e ∷ xs) rest
    more false rest = rest

-- if those with a name are of roots, all are
of_named : (roots : Keys) (es : List IndexEntry) → All (IsOfRoot roots) (named_entries es) → All (IsOfRoot roots) es
of_named roots [] all = All-nil (IsOfRoot roots)
of_named roots (e ∷ es) all =
    elim (cases_Bool (not (no_name e.name))) [
      | inl named ↦
          let both : All (IsOfRoot roots) (e ∷ named_entries es) = rw named at all in
          All-cons (IsOfRoot roots) e es (All-head (IsOfRoot roots) e (named_entries es) both) (of_named roots es (All-tail (IsOfRoot roots) e (named_entries es) both))
      | inr unnamed ↦ All-cons (IsOfRoot roots) e es (λ named k is. cc (sym unnamed ∙ named)) (of_named roots es (rw unnamed at all))
    ]

-- the entries of roots are of more roots
pub of_more_roots : (roots more : Keys) (es : List IndexEntry) → All (Contains more) roots → All (IsOfRoot roots) es → All (IsOfRoot more) es
of_more_roots roots more es among = All-weaker (IsOfRoot roots) (IsOfRoot more) (λ e of named k is. All-contains (Contains more) roots k among (of named k is)) es

-- ---- a goal fits

pub fits : {D : Type 0} (l : LayoutState D) (selected listed attached keys roots : Keys) (tags : Tags) → keys ≡ each_once (listed ++ attached) → roots ≡ each_once (selected ++ keys) → HasAll l.graph keys
    → ((k : Descriptor) → Contains listed k ↔ Contains (named_keys tags (named_entries (said l.opened.content).entries)) k) → Fits l selected roots
fits l selected listed attached keys roots tags are all held same = record {
  held = All-weaker (Contains roots) (λ (k : Descriptor). Contains selected k ⊎ (has_key l.graph k ≡ true)) (λ k there. known k ((goal_parts selected keys roots all k).0 there)) roots (All-contains_itself roots);
  selected = All-weaker (Contains selected) (Contains roots) (λ k there. (goal_parts selected keys roots all k).1 (inl there)) selected (All-contains_itself selected);
  named = of_named roots entries (keys_named roots (named_entries entries) (All-weaker (Contains (entry_keys (named_entries entries))) (Contains roots) root_of (entry_keys (named_entries entries)) (All-contains_itself (entry_keys (named_entries entries)))));
}
  where
    entries : List IndexEntry
    entries = (said l.opened.content).entries

    known : (k : Descriptor) → Contains selected k ⊎ Contains keys k → Contains selected k ⊎ (has_key l.graph k ≡ true)
    known k (inl first) = inl first
    known k (inr second) = inr (All-contains (λ (j : Descriptor). has_key l.graph j ≡ true) keys k held second)

    root_of : (k : Descriptor) → Contains (entry_keys (named_entries entries)) k → Contains roots k
    root_of k there =
        (goal_parts selected keys roots all k).1 (inr ((goal_parts listed attached keys are k).1 (inl ((same k).1 (Contains-append_right (values_of tags) (entry_keys (named_entries entries)) k there)))))

-- its tags are of its roots
pub goal_tags : (selected goal : Keys) (kept tags : Tags) → All IsNamed (keys_of kept) → All (Contains goal) (values_of kept) → All (Contains goal) selected → AreOfRoots selected tags → AreOfRoots goal (kept ++ tags)
goal_tags selected goal kept tags named rooted among of =
    both_of_roots goal kept tags (record { named = named; rooted = rooted }) (record { named = of.named; rooted = All-weaker (Contains selected) (Contains goal) (λ k there. All-contains (Contains goal) selected k among there) (values_of tags) of.rooted })

-- ---- a goal after a copy

-- what was held, and what is selected and came, is held
pub goal_held : (old new : List Node) (selected goal : Keys) → BeginsWith old new → HasAll new selected → All (λ (k : Descriptor). Contains selected k ⊎ (has_key old k ≡ true)) goal → HasAll new goal
goal_held old new selected goal begins came = All-weaker (λ (k : Descriptor). Contains selected k ⊎ (has_key old k ≡ true)) (λ (k : Descriptor). has_key new k ≡ true) now goal
  where
    now : (k : Descriptor) → Contains selected k ⊎ (has_key old k ≡ true) → has_key new k ≡ true
    now k (inl there) = All-contains (λ (j : Descriptor). has_key new j ≡ true) selected k came there
    now k (inr held) = ap (λ (graph : List Node). has_key graph k) begins.1 ∙ ap is_some (grown_value old begins.0 k held) ∙ held

-- what a prune keeps for a goal, it keeps for some of its roots
pub some_stay : (old new : List Node) (roots more : Keys) → All (Contains more) roots → KeepsReached old new more → KeepsReached old new roots
some_stay old new roots more among keeps k reached = keeps k (reached_from_more old roots more (λ j there. All-contains (Contains more) roots j among there) k reached)

-- ---- without patterns

none_unmatched : (tags : Tags) → unmatched_tags [] tags ≡ []
none_unmatched [] = refl
none_unmatched (t ∷ tags) = none_unmatched tags

pub none_spared : (tags selected : Tags) → spared_tags [] tags selected ≡ []
none_spared tags selected = ap (λ (ts : Tags). other_tags ts selected) (none_unmatched tags)

later_some : (o : Option ℕ) (b : Bool) → is_some o ≡ true → is_some (later_place o b) ≡ true
later_some (Some i) b some = refl
later_some None b some = cc some

later_here : (o : Option ℕ) → is_some (later_place o true) ≡ true
later_here (Some i) = refl
later_here None = refl

-- a name has a last place among entries that pass a test, if one of the name does
last_there : (name : List ℕ) (p : IndexEntry → Bool) (es : List IndexEntry) (e : IndexEntry) → Contains es e → p e ≡ true → is_name name e.name ≡ true → is_some (last_place name (filter p es)) ≡ true
last_there name p [] e there passes named = absurd (no_element e there)
last_there name p (d ∷ es) e there passes named =
    elim (Contains-cons d es e there) [
      | inl is ↦
          let first : p d ≡ true = ap p is ∙ passes in
          let here : is_name name d.name ≡ true = ap (λ (x : IndexEntry). is_name name x.name) is ∙ named in
          rw (first, here) (later_here (last_place name (filter p es)))
      | inr later ↦
          let some = last_there name p es e later passes named in
          elim (p d) as (λ b. is_some (last_place name (cond b (d ∷ filter p es) (filter p es))) ≡ true) [
            | true ↦ later_some (last_place name (filter p es)) (is_name name d.name) some
            | false ↦ some
          ]
    ]

goes : (es : List IndexEntry) (e : IndexEntry) (gone selected : Tags) → Contains es e → (name : Option (List ℕ)) → e.name ≡ name → not (no_name name) ≡ true → not (gives_way false (forgotten_entries [] gone selected es) name) ≡ false
goes es e gone selected there None is named = cc named
goes es e gone selected there (Some []) is named = cc named
goes es e gone selected there (Some (c ∷ cs)) is named =
    let p : IndexEntry → Bool = λ (x : IndexEntry). is_forgotten [] gone selected x in
    let passes : p e ≡ true = rw is refl in
    let same : is_name (c ∷ cs) e.name ≡ true = rw is ((bytes_eq-Decides (c ∷ cs) (c ∷ cs)).1 refl) in
    ap not (last_there (c ∷ cs) p es e there passes same)

none_left : (es : List IndexEntry) (gone selected : Tags) (some : List IndexEntry) → All (Contains es) some → named_entries (staying false (forgotten_entries [] gone selected es) some) ≡ []
none_left es gone selected [] among = refl
none_left es gone selected (e ∷ some) among =
    let rest = none_left es gone selected some (All-tail (Contains es) e some among) in
    elim (cases_Bool (not (no_name e.name))) [
      | inl named ↦ rw (goes es e gone selected (All-head (Contains es) e some among) e.name refl named) rest
      | inr unnamed ↦
          elim (not (gives_way false (forgotten_entries [] gone selected es) e.name))
          as (λ b. named_entries (cond b (e ∷ staying false (forgotten_entries [] gone selected es) some) (staying false (forgotten_entries [] gone selected es) some)) ≡ []) [
            | true ↦ rw unnamed rest
            | false ↦ rest
          ]
    ]

-- no entry with a name stays
pub no_names_stay : (es : List IndexEntry) (gone selected : Tags) → named_entries (staying false (forgotten_entries [] gone selected es) es) ≡ []
no_names_stay es gone selected = none_left es gone selected es (All-contains_itself es)

nothing_kept : {D : Type 0} (device : D → Device) (old : LayoutState D) (is_exact : Bool) (selected kept : Tags) (attached : Keys) → AreKeptTags device old is_exact (spared_tags [] old.tags selected) kept attached → (kept ≡ []) × (attached ≡ [])
nothing_kept device old false selected kept attached are = (are.0 ∙ none_spared old.tags selected, are.1)
nothing_kept device old true selected kept attached (inl none) = (none.1, none.2)
nothing_kept device old true selected kept attached (inr some) = absurd (some.0 (none_spared old.tags selected))

-- without patterns the goal is what is selected
pub only_selected : {D : Type 0} (device : D → Device) (is_exact : Bool) (old new : LayoutState D) (selected goal : Goal) → IsPrepared device [] is_exact selected old new goal → IsOnlySelected new selected goal
only_selected device is_exact old new selected goal is = record {
  roots = λ k. ((λ there. part k ((is.aim.roots k).0 there)), (λ there. (is.aim.roots k).1 (inl there)));
  tags = is.aim.tags ∙ ap (λ (ts : Tags). ts ++ selected.1) nothing.0;
  entries = none;
}
  where
    nothing : (is.kept ≡ []) × (is.attached ≡ [])
    nothing = nothing_kept device old is_exact selected.1 is.kept is.attached is.tags

    before : List IndexEntry
    before = (said old.opened.content).entries

    named : List IndexEntry
    named = named_entries (said new.opened.content).entries

    none : named ≡ []
    none =
        let gone = set_tags [] (other_tags old.tags is.kept) in
        let chosen = set_tags [] selected.1 in
        ap named_entries (is.entries.entries ∙ append-nil (staying false (forgotten_entries [] gone chosen before) before)) ∙ no_names_stay before gone chosen

    part : (k : Descriptor) → Contains selected.0 k ⊎ (Contains (named_keys is.kept named) k ⊎ Contains is.attached k) → Contains selected.0 k
    part k (inl first) = first
    part k (inr (inl own)) = absurd (no_element k (subst (λ (es : List IndexEntry). Contains (named_keys [] es) k) none (subst (λ (ts : Tags). Contains (named_keys ts named) k) nothing.0 own)))
    part k (inr (inr with_them)) = absurd (no_element k (subst (λ (ks : Keys). Contains ks k) nothing.1 with_them))
