-- The tags of an index, and those of which a blob is missing or damaged.
use Rattle.std.proofs.Common.{◌≡◌, ℕ, ◌+◌, ◌<◌, Bool, true, false, cond, ◌||◌, not, inl, inr, Less, IsSome, string_bytes, zero, suc, arith, List, [], ◌∷◌, ◌++◌, filter, length, drop, get_or, Option, Some, None, String, Global, refl, sym, ap, subst, ◌∙◌, append_assoc, append-nil}
use Rattle.std.specs.Prelude.{◌↔◌, Contains, is_some, option_and_then}
use Rattle.std.specs.BTreeSet.{BTreeSet, contains}
use Rattle.std.specs.Cmp.Lexicographic.{slice_cmp}
use Rattle.std.specs.List.{All, AllByRecursion}
use Rattle.std.specs.List.Sorted.{IsStrictlySortedBy}
use Rattle.std.specs.Map.{keys_of}
use Rattle.std.specs.Ordering.{is_eq, nat_cmp}
use Rattle.std.specs.Str.{bytes_eq}
use Rattle.std.proofs.lemmas.Bool.{cases_Bool}
use Rattle.std.proofs.lemmas.List.{drop_more, get_or-map, length-map, map-append}
use Rattle.std.proofs.lemmas.List.Elements.{All-nil, All-push, All-weaker, Contains-append_left, Contains-append_right, Contains-append_cases}
use Rattle.std.proofs.lemmas.List.Kept.{IsStrictlySortedBy-filter}
use Rattle.std.proofs.lemmas.Map.Views.{btree_set_contains_iff, Contains-keys_from_lookup}
use Rattle.std.proofs.lemmas.Map.Text.{is_eq-slice_cmp}
use Rattle.std.proofs.lemmas.Option.{same_Some}
use Rattle.std.proofs.lemmas.Slice.Eq.{bytes_eq-Decides}
use Rattle.oci_layout_store.specs.Entries.{IndexEntry}
use Rattle.oci_layout_store.specs.Saved.{is_name, last_place}
use Rattle.oci_manifest.specs.Descriptor.{Descriptor, key_cmp}
use Rattle.oci_prune.proofs.Elements.{Contains-cons}
use Rattle.oci_store.specs.Graph.{Node, Reaches}
use Rattle.oci_store.specs.Keyed.{has_key}
use Rattle.oci_store.specs.Tags.{Tags, by_bytes, set_tag, tag_at}
use Rattle.oci_store.proofs.KeyOrder.{key_cmp_total, key_cmp_exact}
use Rattle.oci_store.proofs.Membership.{Contains-from_among, among_from_Contains, among-filter, among_filter_from}
use Rattle.oci_store.proofs.TagNames.{tag_at-set, tag_at-kept}
use Rattle.oci_layout_store.proofs.Loose.{no_element}
use Rattle.oci_layout_store.proofs.OrderedTags.{first_at, same_bytes}
use Rattle.oci_query_commands.specs.Broken.{key_of_tag, is_bad, with_broken, with_tag, with_tag_of, AddsBroken, AreAllTags, AreBad, AreBroken, IsBroken}
use Rattle.oci_query_commands.specs.Found.{has_name}
use Rattle.oci_query_commands.proofs.Found.{has_place}

-- ---- the tags of an index

-- the tags of the names that some entries have
abbrev pub HasTags : List IndexEntry → List IndexEntry → Tags → Type 0
HasTags entries first tags = (name : List ℕ) → tag_at tags name ≡ cond (has_name first name) (key_of_tag entries name) None

pub HasTags-none : (entries : List IndexEntry) (tags : Tags) → tags ≡ [] → HasTags entries [] tags
HasTags-none entries tags none name = ap (λ (ts : Tags). tag_at ts name) none

-- one entry more
has_name-more : (first : List IndexEntry) (e : IndexEntry) (name : List ℕ) → has_name (first ++ e ∷ []) name ≡ (has_name first name || is_name name e.name)
has_name-more [] e name = last_or (is_name name e.name)
  where
    last_or : (b : Bool) → (b || false) ≡ b
    last_or true = refl
    last_or false = refl
has_name-more (d ∷ first) e name = ap (λ (b : Bool). is_name name d.name || b) (has_name-more first e name) ∙ or_assoc (is_name name d.name) (has_name first name) (is_name name e.name)
  where
    or_assoc : (a b c : Bool) → (a || (b || c)) ≡ ((a || b) || c)
    or_assoc true b c = refl
    or_assoc false b c = refl

cond_none : (b : Bool) (o : Option Descriptor) → o ≡ None → cond b o None ≡ None
cond_none true o none = none
cond_none false o none = refl

-- whether one test or the other passes, the value is the same
cond_or : (a b : Bool) (o : Option Descriptor) → cond b o (cond a o None) ≡ cond (a || b) o None
cond_or true true o = refl
cond_or true false o = refl
cond_or false true o = refl
cond_or false false o = refl

-- a tag of this name is set if it has a key
tag_at-with : (tags : Tags) (name other : List ℕ) (key : Option Descriptor) → (bytes_eq other name ≡ true → key ≡ None → tag_at tags other ≡ None) → tag_at (with_tag tags name key) other ≡ cond (bytes_eq other name) key (tag_at tags other)
tag_at-with tags name other None before =
    elim (cases_Bool (bytes_eq other name)) [
      | inl same ↦ rw same (before same refl)
      | inr apart ↦ rw apart refl
    ]
tag_at-with tags name other (Some k) before =
    elim (cases_Bool (bytes_eq other name)) [
      | inl same ↦ rw same (subst (λ (n : List ℕ). tag_at (set_tag tags name k) n ≡ Some k) (sym ((bytes_eq-Decides other name).0 same)) (tag_at-set tags name k))
      | inr apart ↦ rw apart (tag_at-kept tags name other k (λ same. cc (sym apart ∙ (bytes_eq-Decides other name).1 same)))
    ]

set_one : (entries first : List IndexEntry) (name : Option (List ℕ)) (tags : Tags) → HasTags entries first tags → (other : List ℕ) → tag_at (with_tag_of entries name tags) other ≡ cond (is_name other name) (key_of_tag entries other) (tag_at tags other)
set_one entries first None tags has other = refl
set_one entries first (Some name) tags has other =
    tag_at-with tags name other (key_of_tag entries name)
    (λ same none. has other ∙ cond_none (has_name first other) (key_of_tag entries other) (ap (key_of_tag entries) ((bytes_eq-Decides other name).0 same) ∙ none))
    ∙ same_key (bytes_eq other name) refl
  where
    same_key : (b : Bool) → bytes_eq other name ≡ b → cond b (key_of_tag entries name) (tag_at tags other) ≡ cond b (key_of_tag entries other) (tag_at tags other)
    same_key true same = ap (key_of_tag entries) (sym ((bytes_eq-Decides other name).0 same))
    same_key false apart = refl

pub HasTags-more : (entries first : List IndexEntry) (e : IndexEntry) (old new : Tags) → HasTags entries first old → new ≡ with_tag_of entries e.name old → HasTags entries (first ++ e ∷ []) new
HasTags-more entries first e old new has is other =
    ap (λ (ts : Tags). tag_at ts other) is
    ∙ set_one entries first e.name old has other
    ∙ ap (cond (is_name other e.name) (key_of_tag entries other)) (has other)
    ∙ cond_or (has_name first other) (is_name other e.name) (key_of_tag entries other)
    ∙ ap (λ (b : Bool). cond b (key_of_tag entries other) None) (sym (has_name-more first e other))

-- a name that no entry has is no tag
no_place : {X : Type 0} (o : Option ℕ) (f : ℕ → Option X) → is_some o ≡ false → option_and_then f o ≡ None
no_place None f none = refl
no_place (Some i) f none = cc none

no_key : (entries : List IndexEntry) (name : List ℕ) → has_name entries name ≡ false → key_of_tag entries name ≡ None
no_key entries [] none = refl
no_key entries (c ∷ cs) none =
    ap (option_and_then (λ (e : IndexEntry). e.key)) (no_place (last_place (c ∷ cs) entries) _ (has_place (c ∷ cs) entries ∙ none))

named_or_none : (entries : List IndexEntry) (name : List ℕ) (b : Bool) → has_name entries name ≡ b → cond b (key_of_tag entries name) None ≡ key_of_tag entries name
named_or_none entries name true has = refl
named_or_none entries name false none = sym (no_key entries name none)

pub HasTags-all : (entries : List IndexEntry) (tags pairs : Tags) → HasTags entries entries tags → pairs ≡ tags → IsStrictlySortedBy (slice_cmp nat_cmp) (keys_of pairs) → AreAllTags entries pairs
HasTags-all entries tags pairs has same order = record {
  each = λ name. ap (λ (ts : Tags). tag_at ts name) same ∙ has name ∙ named_or_none entries name (has_name entries name) refl;
  order = order;
}

-- ---- what a key reaches

pub AreBad-reached : (graph : List Node) (is_corrupt : Descriptor → Bool) (root : Descriptor) (set : BTreeSet Descriptor) (keys bad : List Descriptor) → ((k : Descriptor) → (contains key_cmp set k ≡ true) ↔ Reaches graph (root ∷ []) k)
    → keys ≡ set.keys → IsStrictlySortedBy key_cmp keys → bad ≡ filter (is_bad graph is_corrupt) keys → AreBad graph is_corrupt root bad
AreBad-reached graph is_corrupt root set keys bad reached e order is =
    subst (λ (ks : List Descriptor). AreBad graph is_corrupt root ks) (sym is) (record {
      each = λ k. let iff = btree_set_contains_iff key_cmp_total key_cmp_exact set k in (
        λ c.
            let p = among-filter test keys k (among_from_Contains (filter test keys) k c) in
            (p.0, (reached k).0 (iff.1 (subst (λ (ks : List Descriptor). Contains ks k) e (Contains-from_among keys k p.1)))),
        λ h.
            let there : Contains keys k = subst (λ (ks : List Descriptor). Contains ks k) (sym e) (iff.0 ((reached k).1 h.1)) in
            Contains-from_among (filter test keys) k (among_filter_from test keys k h.0 (among_from_Contains keys k there)),
      );
      order = IsStrictlySortedBy-filter key_cmp test keys order;
    })
  where
    test : Descriptor → Bool
    test = is_bad graph is_corrupt

-- ---- the broken tags

abbrev Broken : Type 0
Broken = List (List ℕ × List Descriptor)

-- how far the tags were passed: those that are broken were found, and these are left
pub record IsBreaking (graph : List Node) (is_corrupt : Descriptor → Bool) (tags : Tags) (found : Broken) (rest : Tags) : Type 0 where
  pub each : All (IsBroken graph is_corrupt (tag_at tags)) found
  pub all : (name : List ℕ) (key bad : Descriptor) → tag_at tags name ≡ Some key → is_bad graph is_corrupt bad ≡ true → Reaches graph (key ∷ []) bad → Contains (keys_of found ++ keys_of rest) name
  pub order : IsStrictlySortedBy (slice_cmp nat_cmp) (keys_of found ++ keys_of rest)

exact_names : (x y : List ℕ) → bytes_eq x y ≡ true → x ≡ y
exact_names x y h = (bytes_eq-Decides x y).0 h

some_tag : (o : Option Descriptor) (k : Descriptor) → o ≡ Some k → IsSome o
some_tag (Some x) k h = refl
some_tag None k h = cc h

pub IsBreaking-start : (graph : List Node) (is_corrupt : Descriptor → Bool) (tags : Tags) (found : Broken) → IsStrictlySortedBy (slice_cmp nat_cmp) (keys_of tags) → found ≡ [] → IsBreaking graph is_corrupt tags found tags
IsBreaking-start graph is_corrupt tags found order none =
    subst (λ (f : Broken). IsBreaking graph is_corrupt tags f tags) (sym none) (record {
      each = All-nil (IsBroken graph is_corrupt (tag_at tags));
      all = λ name key bad named is path. Contains-keys_from_lookup {eq = bytes_eq} exact_names name tags (some_tag (tag_at tags name) key named);
      order = order;
    })

all_without : (P : List ℕ → Type 0) (xs : List (List ℕ)) (y : List ℕ) (zs : List (List ℕ)) → AllByRecursion P (xs ++ y ∷ zs) → AllByRecursion P (xs ++ zs)
all_without P [] y zs h = h.1
all_without P (x ∷ xs) y zs h = (h.0, all_without P xs y zs h.1)

-- names in order are so without one
sorted_without : (xs : List (List ℕ)) (y : List ℕ) (zs : List (List ℕ)) → IsStrictlySortedBy (slice_cmp nat_cmp) (xs ++ y ∷ zs) → IsStrictlySortedBy (slice_cmp nat_cmp) (xs ++ zs)
unfolding IsStrictlySortedBy
sorted_without [] y zs h = h.1
sorted_without (x ∷ xs) y zs h = (all_without (λ (n : List ℕ). slice_cmp nat_cmp x n ≡ Less) xs y zs h.0, sorted_without xs y zs h.1)

-- another name is there without one
there_without : (xs : List (List ℕ)) (y : List ℕ) (zs : List (List ℕ)) (name : List ℕ) → Contains (xs ++ y ∷ zs) name → (y ≡ name → ⊥) → Contains (xs ++ zs) name
there_without xs y zs name there apart =
    elim (Contains-append_cases xs (y ∷ zs) name there) [
      | inl before ↦ Contains-append_left xs zs name before
      | inr later ↦
          elim (Contains-cons y zs name later) [
            | inl is ↦ absurd (apart is)
            | inr after ↦ Contains-append_right xs zs name after
          ]
    ]

below_at : (x : List ℕ) (tags : Tags) (i : ℕ) (d : List ℕ × Descriptor) → i < length tags → AllByRecursion (λ (n : List ℕ). slice_cmp nat_cmp x n ≡ Less) (keys_of tags) → slice_cmp nat_cmp x (get_or tags i d).0 ≡ Less
below_at x [] i d lt h = absurd (omega (arith, lt))
below_at x (t ∷ tags) zero d lt h = h.0
below_at x (t ∷ tags) (suc i) d lt h = below_at x tags i d (omega (arith, lt)) h.1

not_below : (x y : List ℕ) → slice_cmp nat_cmp x y ≡ Less → bytes_eq y x ≡ true → ⊥
not_below x y less same =
    let e : slice_cmp nat_cmp x x ≡ Less = subst (λ (n : List ℕ). slice_cmp nat_cmp x n ≡ Less) ((bytes_eq-Decides y x).0 same) less in
    cc (sym (same_bytes x) ∙ sym (is_eq-slice_cmp x x) ∙ ap is_eq e)

-- among tags in order, the name of each has its key
own_tag : (tags : Tags) → IsStrictlySortedBy (slice_cmp nat_cmp) (keys_of tags) → (i : ℕ) (d : List ℕ × Descriptor) → i < length tags → tag_at tags (get_or tags i d).0 ≡ Some (get_or tags i d).1
unfolding IsStrictlySortedBy
own_tag [] order i d lt = absurd (omega (arith, lt))
own_tag (t ∷ tags) order zero d lt = first_at t tags
own_tag (t ∷ tags) order (suc i) d lt =
    let name = (get_or tags i d).0 in
    let within : i < length tags = omega (arith, lt) in
    elim (cases_Bool (bytes_eq name t.0)) [
      | inl same ↦ absurd (not_below t.0 name (below_at t.0 tags i d within order.0) same)
      | inr apart ↦ rw apart (own_tag tags order.1 i d within)
    ]

next_broken : (graph : List Node) (is_corrupt : Descriptor → Bool) (tags : Tags) (old : Broken) (name : List ℕ) (key : Descriptor) (rest : Tags) → tag_at tags name ≡ Some key
    → IsBreaking graph is_corrupt tags old ((name, key) ∷ rest) → (keys : List Descriptor) → AreBad graph is_corrupt key keys → IsBreaking graph is_corrupt tags (with_broken old name keys) rest
next_broken graph is_corrupt tags old name key rest named before [] bad = record {
  each = before.each;
  all = λ other k b tagged is_bad path.
      there_without (keys_of old) name (keys_of rest) other (before.all other k b tagged is_bad path)
      (λ same.
      let this : key ≡ k = same_Some key k (sym named ∙ ap (tag_at tags) same ∙ tagged) in
      no_element b ((bad.each b).1 (is_bad, subst (λ (x : Descriptor). Reaches graph (x ∷ []) b) (sym this) path)));
  order = sorted_without (keys_of old) name (keys_of rest) before.order;
}
next_broken graph is_corrupt tags old name key rest named before (k ∷ keys) bad =
    let names : keys_of (old ++ (name, k ∷ keys) ∷ []) ++ keys_of rest ≡ keys_of old ++ name ∷ keys_of rest =
    ap (λ (ns : List (List ℕ)). ns ++ keys_of rest) (map-append (λ (t : List ℕ × List Descriptor). t.0) old ((name, k ∷ keys) ∷ []))
    ∙ append_assoc (keys_of old) (name ∷ []) (keys_of rest) in
    record {
      each = All-push (IsBroken graph is_corrupt (tag_at tags)) old (name, k ∷ keys) before.each (record { key = key; named = named; bad = bad; some = λ none. cc none });
      all = λ other j b tagged is_bad path. subst (λ (ns : List (List ℕ)). Contains ns other) (sym names) (before.all other j b tagged is_bad path);
      order = subst (λ (ns : List (List ℕ)). IsStrictlySortedBy (slice_cmp nat_cmp) ns) (sym names) before.order;
    }

-- the tag at the next place
pub IsBreaking-next : (graph : List Node) (is_corrupt : Descriptor → Bool) (pairs : List (String Global × Descriptor)) (old new : Broken) (i : ℕ) (t : String Global × Descriptor) → IsStrictlySortedBy (slice_cmp nat_cmp) (keys_of (by_bytes pairs)) → i < length pairs → t ≡ get_or pairs i t
    → IsBreaking graph is_corrupt (by_bytes pairs) old (by_bytes (drop i pairs)) → AddsBroken graph is_corrupt (string_bytes t.0) t.1 old new → IsBreaking graph is_corrupt (by_bytes pairs) new (by_bytes (drop (i + 1) pairs))
IsBreaking-next graph is_corrupt pairs old new i t order lt is before added =
    let pair : String Global × Descriptor → List ℕ × Descriptor = λ e. (string_bytes e.0, e.1) in
    let tags = by_bytes pairs in
    let rest = by_bytes (drop (i + 1) pairs) in
    let here : by_bytes (drop i pairs) ≡ (string_bytes t.0, t.1) ∷ rest = ap by_bytes (drop_more pairs i t lt ∙ ap (λ (e : String Global × Descriptor). e ∷ drop (i + 1) pairs) (sym is)) in
    let at : get_or tags i (pair t) ≡ pair t = get_or-map pair pairs i t (pair t) lt ∙ ap pair (sym is) in
    let own = own_tag tags order i (pair t) (subst (λ (n : ℕ). i < n) (sym (length-map pairs pair)) lt) in
    let named : tag_at tags (string_bytes t.0) ≡ Some t.1 = subst (λ (e : List ℕ × Descriptor). tag_at tags e.0 ≡ Some e.1) at own in
    subst (λ (f : Broken). IsBreaking graph is_corrupt tags f rest) (sym added.2)
    (next_broken graph is_corrupt tags old (string_bytes t.0) t.1 rest named (subst (λ (ts : Tags). IsBreaking graph is_corrupt tags old ts) here before) added.0 added.1)

-- all tags
pub IsBreaking-all : (graph : List Node) (is_corrupt : Descriptor → Bool) (tags : Tags) (found : Broken) (rest : Tags) → rest ≡ [] → IsBreaking graph is_corrupt tags found rest → AreBroken graph is_corrupt (tag_at tags) found
IsBreaking-all graph is_corrupt tags found rest none before =
    let names : keys_of found ++ keys_of rest ≡ keys_of found = ap (λ (ts : Tags). keys_of found ++ keys_of ts) none ∙ append-nil (keys_of found) in
    record {
      each = before.each;
      all = λ name key bad tagged is path. subst (λ (ns : List (List ℕ)). Contains ns name) names (before.all name key bad tagged is path);
      order = subst (λ (ns : List (List ℕ)). IsStrictlySortedBy (slice_cmp nat_cmp) ns) names before.order;
    }

-- tests that agree
AreBad-same : (graph : List Node) (p q : Descriptor → Bool) → ((k : Descriptor) → p k ≡ q k) → (root : Descriptor) (keys : List Descriptor) → AreBad graph p root keys → AreBad graph q root keys
AreBad-same graph p q same root keys are = record {
  each = λ k.
      let e : is_bad graph p k ≡ is_bad graph q k = ap (λ (b : Bool). not (has_key graph k) || b) (same k) in (
        λ there. let h = (are.each k).0 there in (sym e ∙ h.0, h.1),
        λ h. (are.each k).1 (e ∙ h.0, h.1),
      );
  order = are.order;
}

pub AreBroken-same : (graph : List Node) (p q : Descriptor → Bool) (f g : List ℕ → Option Descriptor) → ((k : Descriptor) → p k ≡ q k) → ((name : List ℕ) → f name ≡ g name) → (found : Broken) → AreBroken graph p f found → AreBroken graph q g found
AreBroken-same graph p q f g same tags found are = record {
  each = All-weaker (IsBroken graph p f) (IsBroken graph q g)
      (λ t broken. record { key = broken.key; named = sym (tags t.0) ∙ broken.named; bad = AreBad-same graph p q same broken.key t.1 broken.bad; some = broken.some }) found are.each;
  all = λ name key bad named is path. are.all name key bad (tags name ∙ named) (ap (λ (b : Bool). not (has_key graph bad) || b) (same bad) ∙ is) path;
  order = are.order;
}
