-- The tags of the entries that a save writes, and the last entry of each name.
use Rattle.std.proofs.Common.{◌≡◌, ℕ, ◌<◌, ◌⊎◌, suc, Bool, true, false, cond, not, ◌&&◌, ◌||◌, ◌≢◌, inl, inr, List, [], ◌∷◌, ◌++◌, map, filter, length, slice_get, option_map, Option, Some, None, refl, sym, ap, subst, ◌∙◌}
use Rattle.std.specs.Prelude.{Contains, IfSome, option_and_then}
use Rattle.std.specs.List.{All, cons_option}
use Rattle.std.specs.Map.{keys_of, values_of}
use Rattle.std.specs.List.Sorted.{IsStrictlySortedBy}
use Rattle.std.specs.Str.{bytes_eq}
use Rattle.std.proofs.lemmas.Bool.{cases_Bool, and_from, and_parts, or_left, or_right}
use Rattle.std.proofs.lemmas.List.Elements.{All-head, All-tail, All-nil, All-cons, All-contains, Contains-append_left, Contains-append_right, Contains-push, All-append, All-weaker, filter_passes}
use Rattle.std.proofs.lemmas.Map.Views.{IfSome-lookup_from_All}
use Rattle.std.proofs.lemmas.Option.{none-some, same_Some, slice_get-get_or}
use Rattle.std.proofs.lemmas.Slice.Eq.{bytes_eq-Decides}
use Rattle.oci_manifest.specs.Descriptor.{Descriptor, is_among, same_key}
use Rattle.oci_manifest.proofs.Keys.{Decides-same_key}
use Rattle.oci_store.specs.Graph.{Node}
use Rattle.oci_store.specs.Keyed.{has_key}
use Rattle.oci_store.specs.Tags.{Tags, AreNames, set_tag, tag_at, without_tag}
use Rattle.oci_store.proofs.TagNames.{tag_at-set, tag_at-kept, tag_at-removed, tag_at-left}
use Rattle.oci_layout_store.specs.Entries.{IndexEntry, entry_keys, is_held, is_this_key, new_entry, owned, tag_owned}
use Rattle.oci_layout_store.specs.Saved.{AreLoose, IsLoose, IsTop, comes_before, entry_or_new, first_from, is_first, is_left, is_name, is_place, last_entry, last_place, later_place, loose_entries, no_name, saved_entries, tag_entry, unnamed_held, unnamed_keys, was_absent}
use Rattle.oci_layout_store.proofs.EntryKeys.{all_keys, entry_keys-append, first_key, key_or_none, no_first_key, same_held, this_key_is}
use Rattle.oci_layout_store.proofs.LastNames.{last_place-within}
use Rattle.oci_layout_store.proofs.Law.{Contains_among, among_from}
use Rattle.oci_layout_store.proofs.OrderedTags.{IsOrdered, below_none, ordered_owned, same_tags}

-- ---- the last entry of a name

-- what comes later, if there is one
abbrev pub later : Option IndexEntry → Option IndexEntry → Option IndexEntry
later (Some e) other = Some e
later None other = other

-- the last entry with a name
abbrev pub last_of : List ℕ → List IndexEntry → Option IndexEntry
last_of name [] = None
last_of name (e ∷ es) = later (last_of name es) (cond (is_name name e.name) (Some e) None)

last_step : (e : IndexEntry) (es : List IndexEntry) (o : Option ℕ) (here : Bool) → ((i : ℕ) → o ≡ Some i → i < length es)
    → option_and_then (slice_get (e ∷ es)) (later_place o here) ≡ later (option_and_then (slice_get es) o) (cond here (Some e) None)
last_step e es (Some i) here within = rw (slice_get-get_or es i e (within i refl)) refl
last_step e es None true within = refl
last_step e es None false within = refl

pub last_entry-last_of : (name : List ℕ) (es : List IndexEntry) → last_entry name es ≡ last_of name es
last_entry-last_of name [] = refl
last_entry-last_of name (e ∷ es) =
    last_step e es (last_place name es) (is_name name e.name) (last_place-within name es) ∙ ap (λ (o : Option IndexEntry). later o (cond (is_name name e.name) (Some e) None)) (last_entry-last_of name es)

pub later_none : (o : Option IndexEntry) → later o None ≡ o
later_none (Some e) = refl
later_none None = refl

later_assoc : (o p q : Option IndexEntry) → later (later o p) q ≡ later o (later p q)
later_assoc (Some e) p q = refl
later_assoc None p q = refl

pub last_of-append : (name : List ℕ) (xs ys : List IndexEntry) → last_of name (xs ++ ys) ≡ later (last_of name ys) (last_of name xs)
last_of-append name [] ys = sym (later_none (last_of name ys))
last_of-append name (x ∷ xs) ys =
    let here = cond (is_name name x.name) (Some x) None in
    ap (λ (o : Option IndexEntry). later o here) (last_of-append name xs ys) ∙ later_assoc (last_of name ys) (last_of name xs) here

pub name_is : (name : List ℕ) (n : Option (List ℕ)) → is_name name n ≡ true → n ≡ Some name
name_is name None h = cc h
name_is name (Some n) h = ap Some (sym ((bytes_eq-Decides name n).0 h))

pub last_cases : (e : IndexEntry) (o : Option IndexEntry) (here : Bool) (d : IndexEntry) → later o (cond here (Some e) None) ≡ Some d → (o ≡ Some d) ⊎ ((here ≡ true) × (e ≡ d))
last_cases e (Some x) here d h = inl h
last_cases e None true d h = inr (refl, same_Some e d h)
last_cases e None false d h = absurd (none-some d h)

pub last_named : (name : List ℕ) (es : List IndexEntry) (d : IndexEntry) → last_of name es ≡ Some d → d.name ≡ Some name
last_named name [] d h = absurd (none-some d h)
last_named name (e ∷ es) d h =
    elim (last_cases e (last_of name es) (is_name name e.name) d h) [
      | inl rest ↦ last_named name es d rest
      | inr here ↦ ap (λ (x : IndexEntry). x.name) (sym here.1) ∙ name_is name e.name here.0
    ]

-- entries without a name are no name's last
pub nameless : (name : List ℕ) (n : Option (List ℕ)) → name ≢ [] → no_name n ≡ true → is_name name n ≡ false
nameless name None full h = refl
nameless [] (Some []) full h = absurd (full refl)
nameless (c ∷ cs) (Some []) full h = refl
nameless name (Some (c ∷ cs)) full h = cc h

pub last_nameless : (name : List ℕ) (es : List IndexEntry) → name ≢ [] → All (λ (e : IndexEntry). no_name e.name ≡ true) es → last_of name es ≡ None
last_nameless name [] full h = refl
last_nameless name (e ∷ es) full h =
    rw (nameless name e.name full (All-head (λ (x : IndexEntry). no_name x.name ≡ true) e es h), last_nameless name es full (All-tail (λ (x : IndexEntry). no_name x.name ≡ true) e es h)) refl

-- ---- the tags of entries

-- the key of an entry, if it is held
abbrev held_key : List Node → Option Descriptor → Option Descriptor
held_key graph None = None
held_key graph (Some k) = cond (has_key graph k) (Some k) None

-- the key of a name, by its last entry
abbrev owner : List Node → Option IndexEntry → Option Descriptor → Option Descriptor
owner graph None before = before
owner graph (Some e) before = held_key graph e.key

owner_later : (graph : List Node) (o p : Option IndexEntry) (before : Option Descriptor) → owner graph (later o p) before ≡ owner graph o (owner graph p before)
owner_later graph (Some e) p before = refl
owner_later graph None p before = refl

owner_cond : (graph : List Node) (b : Bool) (e : IndexEntry) (before : Option Descriptor) → owner graph (cond b (Some e) None) before ≡ cond b (held_key graph e.key) before
owner_cond graph true e before = refl
owner_cond graph false e before = refl

owned_one : (graph : List Node) (key : Option Descriptor) (n : Option (List ℕ)) (tags : Tags) (name : List ℕ) → name ≢ [] → tag_at (tag_owned graph key n tags) name ≡ cond (is_name name n) (held_key graph key) (tag_at tags name)
owned_one graph key None tags name full = refl
owned_one graph key (Some []) tags name full = let apart = nameless name (Some []) full refl in rw apart refl
owned_one graph None (Some (c ∷ cs)) tags name full =
    elim (cases_Bool (bytes_eq name (c ∷ cs))) [
      | inl same ↦
          let is : name ≡ c ∷ cs = (bytes_eq-Decides name (c ∷ cs)).0 same in
          rw same (ap (tag_at (without_tag tags (c ∷ cs))) is ∙ tag_at-removed tags (c ∷ cs))
      | inr apart ↦
          let differ : name ≢ c ∷ cs = λ e. cc (sym apart ∙ (bytes_eq-Decides name (c ∷ cs)).1 e) in
          rw apart (tag_at-left tags (c ∷ cs) name differ)
    ]
owned_one graph (Some k) (Some (c ∷ cs)) tags name full =
    elim (cases_Bool (bytes_eq name (c ∷ cs))) [
      | inl same ↦
          let is : name ≡ c ∷ cs = (bytes_eq-Decides name (c ∷ cs)).0 same in
          elim (cases_Bool (has_key graph k)) [
            | inl held ↦ rw (same, held) (ap (tag_at (set_tag tags (c ∷ cs) k)) is ∙ tag_at-set tags (c ∷ cs) k)
            | inr gone ↦ rw (same, gone) (ap (tag_at (without_tag tags (c ∷ cs))) is ∙ tag_at-removed tags (c ∷ cs))
          ]
      | inr apart ↦
          let differ : name ≢ c ∷ cs = λ e. cc (sym apart ∙ (bytes_eq-Decides name (c ∷ cs)).1 e) in
          elim (cases_Bool (has_key graph k)) [
            | inl held ↦ rw (apart, held) (tag_at-kept tags (c ∷ cs) name k differ)
            | inr gone ↦ rw (apart, gone) (tag_at-left tags (c ∷ cs) name differ)
          ]
    ]

owned_at : (graph : List Node) (es : List IndexEntry) (tags : Tags) (name : List ℕ) → name ≢ [] → tag_at (owned graph es tags) name ≡ owner graph (last_of name es) (tag_at tags name)
owned_at graph [] tags name full = refl
owned_at graph (e ∷ es) tags name full =
    owned_at graph es (tag_owned graph e.key e.name tags) name full
    ∙ ap (owner graph (last_of name es)) (owned_one graph e.key e.name tags name full ∙ sym (owner_cond graph (is_name name e.name) e (tag_at tags name)))
    ∙ sym (owner_later graph (last_of name es) (cond (is_name name e.name) (Some e) None) (tag_at tags name))

-- an empty text is no tag
unnamed_one : (graph : List Node) (key : Option Descriptor) (n : Option (List ℕ)) (tags : Tags) → tag_at tags [] ≡ None → tag_at (tag_owned graph key n tags) [] ≡ None
unnamed_one graph key None tags h = h
unnamed_one graph key (Some []) tags h = h
unnamed_one graph None (Some (c ∷ cs)) tags h =
    let differ : [] ≢ c ∷ cs = λ e. cc e in
    tag_at-left tags (c ∷ cs) [] differ ∙ h
unnamed_one graph (Some k) (Some (c ∷ cs)) tags h =
    let differ : [] ≢ c ∷ cs = λ e. cc e in
    elim (has_key graph k) as (λ b. tag_at (cond b (set_tag tags (c ∷ cs) k) (without_tag tags (c ∷ cs))) [] ≡ None) [
      | true ↦ tag_at-kept tags (c ∷ cs) [] k differ ∙ h
      | false ↦ tag_at-left tags (c ∷ cs) [] differ ∙ h
    ]

unnamed_owned : (graph : List Node) (es : List IndexEntry) (tags : Tags) → tag_at tags [] ≡ None → tag_at (owned graph es tags) [] ≡ None
unnamed_owned graph [] tags h = h
unnamed_owned graph (e ∷ es) tags h = unnamed_owned graph es (tag_owned graph e.key e.name tags) (unnamed_one graph e.key e.name tags h)

unnamed_tag : (tags : Tags) → All (λ (n : List ℕ). n ≢ []) (keys_of tags) → tag_at tags [] ≡ None
unnamed_tag [] h = refl
unnamed_tag (t ∷ tags) h =
    elim (cases_Bool (bytes_eq [] t.0)) [
      | inl same ↦ absurd (All-head (λ (n : List ℕ). n ≢ []) t.0 (keys_of tags) h (sym ((bytes_eq-Decides [] t.0).0 same)))
      | inr apart ↦ rw apart (unnamed_tag tags (All-tail (λ (n : List ℕ). n ≢ []) t.0 (keys_of tags) h))
    ]

-- ---- the last of the entries that come first

-- a name that is no tag belongs to its last entry
abbrev pub owns : (Descriptor → Bool) → Option IndexEntry → Bool
owns absent None = false
owns absent (Some e) = was_absent absent e.key

and_or : (a b : Bool) → (a && (b || true)) ≡ a
and_or true true = refl
and_or true false = refl
and_or false b = refl

pub and_false : (a : Bool) → (a && false) ≡ false
and_false true = refl
and_false false = refl

pub owns_before : (absent : Descriptor → Bool) (is_last : Bool) (o : Option IndexEntry) → comes_before absent None is_last o ≡ owns absent o
owns_before absent is_last None = refl
owns_before absent is_last (Some e) = and_or (was_absent absent e.key) (not is_last)

module _ (absent : Descriptor → Bool) (graph : List Node) (tags : Tags) (all : List IndexEntry) where
  pub first_named : (place : ℕ) (key : Option Descriptor) (name : List ℕ) (n : Option (List ℕ)) → name ≢ [] → n ≡ Some name → tag_at tags name ≡ None
      → is_first absent graph tags all place key n ≡ (is_left absent graph key && owns absent (last_of name all))
  first_named place key [] n full is none = absurd (full refl)
  first_named place key (c ∷ cs) n full is none =
      let is_last : Bool = is_place place (last_place (c ∷ cs) all) in
      ap (is_first absent graph tags all place key) is
      ∙ ap (λ (b : Bool). is_left absent graph key && b) (
      ap (λ (t : Option Descriptor). comes_before absent t is_last (last_entry (c ∷ cs) all)) none
      ∙ owns_before absent is_last (last_entry (c ∷ cs) all) ∙ ap (owns absent) (last_entry-last_of (c ∷ cs) all)
      )

  none_first : (name : List ℕ) → name ≢ [] → tag_at tags name ≡ None → owns absent (last_of name all) ≡ false → (place : ℕ) (es : List IndexEntry) → last_of name (first_from absent graph tags all place es) ≡ None
  none_first name full none owned place [] = refl
  none_first name full none owned place (e ∷ es) =
      let rest : List IndexEntry = first_from absent graph tags all (suc place) es in
      let ih : last_of name rest ≡ None = none_first name full none owned (suc place) es in
      elim (cases_Bool (is_name name e.name)) [
        | inl named ↦
            let first : is_first absent graph tags all place e.key e.name ≡ false = first_named place e.key name e.name full (name_is name e.name named) none
            ∙ ap (λ (b : Bool). is_left absent graph e.key && b) owned ∙ and_false (is_left absent graph e.key) in
            ap (λ (b : Bool). last_of name (cond b (e ∷ rest) rest)) first ∙ ih
        | inr other ↦
            elim (is_first absent graph tags all place e.key e.name) as (λ b. last_of name (cond b (e ∷ rest) rest) ≡ None) [
              | true ↦ rw (ih, other) refl
              | false ↦ ih
            ]
      ]

  last_step_first : (first here : Bool) (e : IndexEntry) (o : Option IndexEntry) (rest : List IndexEntry) (name : List ℕ) → is_name name e.name ≡ here → last_of name rest ≡ o → (o ≡ None → here ≡ true → first ≡ true)
      → last_of name (cond first (e ∷ rest) rest) ≡ later o (cond here (Some e) None)
  last_step_first true here e o rest name named is h = rw (is, named) refl
  last_step_first false here e (Some d) rest name named is h = is
  last_step_first false true e None rest name named is h = cc (h refl refl)
  last_step_first false false e None rest name named is h = is

  last_first : (name : List ℕ) → name ≢ [] → tag_at tags name ≡ None → owns absent (last_of name all) ≡ true → (place : ℕ) (es : List IndexEntry) → ((d : IndexEntry) → last_of name es ≡ Some d → was_absent absent d.key ≡ true)
      → last_of name (first_from absent graph tags all place es) ≡ last_of name es
  last_first name full none owned place [] each = refl
  last_first name full none owned place (e ∷ es) each =
      let here : Option IndexEntry = cond (is_name name e.name) (Some e) None in
      let ih = last_first name full none owned (suc place) es (λ d h. each d (ap (λ (o : Option IndexEntry). later o here) h)) in
      last_step_first (is_first absent graph tags all place e.key e.name) (is_name name e.name) e (last_of name es) (first_from absent graph tags all (suc place) es) name refl ih
      (λ nothing named.
      let is : later (last_of name es) here ≡ Some e = ap (λ (o : Option IndexEntry). later o here) nothing ∙ ap (λ (b : Bool). cond b (Some e) None) named in
      let gone : was_absent absent e.key ≡ true = each e is in
      first_named place e.key name e.name full (name_is name e.name named) none ∙ ap (λ (b : Bool). (b || is_held graph e.key) && owns absent (last_of name all)) gone ∙ owned)

  -- of a name that is no tag the last entry among the first has an absent key, or none
  pub first_absent : (name : List ℕ) → name ≢ [] → tag_at tags name ≡ None → (d : IndexEntry) → last_of name (first_from absent graph tags all 0 all) ≡ Some d → was_absent absent d.key ≡ true
  first_absent name full none d h =
      elim (cases_Bool (owns absent (last_of name all))) [
        | inl owned ↦
            let each : (e : IndexEntry) → last_of name all ≡ Some e → was_absent absent e.key ≡ true = λ e g. sym (ap (owns absent) g) ∙ owned in
            each d (sym (last_first name full none owned 0 all each) ∙ h)
        | inr free ↦ absurd (none-some d (sym (none_first name full none free 0 all) ∙ h))
      ]

-- the key of an entry that comes first was absent or is held
first_left : (absent : Descriptor → Bool) (graph : List Node) (tags : Tags) (all : List IndexEntry) (place : ℕ) (key : Option Descriptor) (name : Option (List ℕ)) → is_first absent graph tags all place key name ≡ true → is_left absent graph key ≡ true
first_left absent graph tags all place key None h = or_left (was_absent absent key) (is_held graph key) (and_parts (was_absent absent key) (not (is_held graph key)) h).0
first_left absent graph tags all place key (Some []) h = or_left (was_absent absent key) (is_held graph key) (and_parts (was_absent absent key) (not (is_held graph key)) h).0
first_left absent graph tags all place key (Some (c ∷ cs)) h =
    (and_parts (is_left absent graph key) (comes_before absent (tag_at tags (c ∷ cs)) (is_place place (last_place (c ∷ cs) all)) (last_entry (c ∷ cs) all)) h).0

all_first_left : (absent : Descriptor → Bool) (graph : List Node) (tags : Tags) (all : List IndexEntry) (place : ℕ) (es : List IndexEntry)
    → All (λ (e : IndexEntry). is_left absent graph e.key ≡ true) (first_from absent graph tags all place es)
all_first_left absent graph tags all place [] = All-nil (λ (e : IndexEntry). is_left absent graph e.key ≡ true)
all_first_left absent graph tags all place (e ∷ es) =
    let P : IndexEntry → Type 0 = λ (x : IndexEntry). is_left absent graph x.key ≡ true in
    let rest : List IndexEntry = first_from absent graph tags all (suc place) es in
    let ih : All P rest = all_first_left absent graph tags all (suc place) es in
    elim (cases_Bool (is_first absent graph tags all place e.key e.name)) [
      | inl is ↦ subst (λ (b : Bool). All P (cond b (e ∷ rest) rest)) (sym is) (All-cons P e rest (first_left absent graph tags all place e.key e.name is) ih)
      | inr other ↦ subst (λ (b : Bool). All P (cond b (e ∷ rest) rest)) (sym other) ih
    ]

-- ---- the entries of tags

named_entry : (o : Option IndexEntry) (k : Descriptor) (name : List ℕ) → ((d : IndexEntry) → o ≡ Some d → d.name ≡ Some name) → (entry_or_new o k name).name ≡ Some name
named_entry None k name h = refl
named_entry (Some e) k name h = elim (is_this_key k e.key) as (λ b. (cond b e (new_entry k (Some name))).name ≡ Some name) [ true ↦ h e refl | false ↦ refl ]

keyed_entry : (o : Option IndexEntry) (k : Descriptor) (name : List ℕ) → (entry_or_new o k name).key ≡ Some k
keyed_entry None k name = refl
keyed_entry (Some e) k name =
    elim (cases_Bool (is_this_key k e.key)) [
      | inl same ↦ rw same (this_key_is k e.key same)
      | inr apart ↦ rw apart refl
    ]

pub tag_name : (entries : List IndexEntry) (t : List ℕ × Descriptor) → (tag_entry entries t).name ≡ Some t.0
tag_name entries t = named_entry (last_entry t.0 entries) t.1 t.0 (λ d h. last_named t.0 entries d (sym (last_entry-last_of t.0 entries) ∙ h))

pub tag_key : (entries : List IndexEntry) (t : List ℕ × Descriptor) → (tag_entry entries t).key ≡ Some t.1
tag_key entries t = keyed_entry (last_entry t.0 entries) t.1 t.0

pub tags_keyed : (entries : List IndexEntry) (tags : Tags) → entry_keys (map (tag_entry entries) tags) ≡ values_of tags
tags_keyed entries [] = refl
tags_keyed entries (t ∷ tags) = ap (λ (key : Option Descriptor). cons_option key (entry_keys (map (tag_entry entries) tags))) (tag_key entries t) ∙ ap (λ (ks : List Descriptor). t.1 ∷ ks) (tags_keyed entries tags)

pub tags_last : (entries : List IndexEntry) (tags : Tags) (name : List ℕ) → IsOrdered tags → last_of name (map (tag_entry entries) tags) ≡ option_map (λ (k : Descriptor). tag_entry entries (name, k)) (tag_at tags name)
unfolding IsStrictlySortedBy
tags_last entries [] name s = refl
tags_last entries (t ∷ tags) name s =
    let entry : Descriptor → IndexEntry = λ (k : Descriptor). tag_entry entries (name, k) in
    let this : IndexEntry = tag_entry entries t in
    let rest : Option IndexEntry = last_of name (map (tag_entry entries) tags) in
    let ih : rest ≡ option_map entry (tag_at tags name) = tags_last entries tags name s.1 in
    let named : is_name name this.name ≡ bytes_eq name t.0 = ap (is_name name) (tag_name entries t) in
    elim (cases_Bool (bytes_eq name t.0)) [
      | inl same ↦
          let is : name ≡ t.0 = (bytes_eq-Decides name t.0).0 same in
          let none : rest ≡ None = ih ∙ ap (option_map entry) (ap (tag_at tags) is ∙ below_none t.0 tags s.0) in
          ap (λ (o : Option IndexEntry). later o (cond (is_name name this.name) (Some this) None)) none
          ∙ ap (λ (b : Bool). cond b (Some this) None) (named ∙ same)
          ∙ ap (λ (n : List ℕ). Some (tag_entry entries (n, t.1))) (sym is)
          ∙ sym (ap (λ (b : Bool). option_map entry (cond b (Some t.1) (tag_at tags name))) same)
      | inr apart ↦
          ap (λ (b : Bool). later rest (cond b (Some this) None)) (named ∙ apart)
          ∙ later_none rest ∙ ih
          ∙ sym (ap (λ (b : Bool). option_map entry (cond b (Some t.1) (tag_at tags name))) apart)
    ]

-- ---- the entries without a tag

pub here_is : {X : Type 0} (x : X) (xs : List X) → Contains (x ∷ xs) x
here_is x xs = Contains-append_left (x ∷ []) xs x (Contains-push [] x)

-- the entries that follow those of the tags have no names, and their keys are held
abbrev pub IsNameless : List Node → IndexEntry → Type 0
IsNameless graph e = (no_name e.name ≡ true) × (is_held graph e.key ≡ true)

unnamed_nameless : (graph : List Node) (entries : List IndexEntry) → All (IsNameless graph) (unnamed_held graph entries)
unnamed_nameless graph entries =
    All-weaker (λ (e : IndexEntry). (no_name e.name && is_held graph e.key) ≡ true) (IsNameless graph) (λ e h. and_parts (no_name e.name) (is_held graph e.key) h) (unnamed_held graph entries)
    (filter_passes (λ (e : IndexEntry). no_name e.name && is_held graph e.key) entries)

loose_nameless : (graph : List Node) (loose : List Descriptor) → ((k : Descriptor) → Contains loose k → has_key graph k ≡ true) → All (IsNameless graph) (loose_entries loose)
loose_nameless graph [] h = All-nil (IsNameless graph)
loose_nameless graph (k ∷ ks) h = All-cons (IsNameless graph) (new_entry k None) (loose_entries ks) (refl, h k (here_is k ks)) (loose_nameless graph ks (λ j c. h j (Contains-append_right (k ∷ []) ks j c)))

loose_keyed : (loose : List Descriptor) → entry_keys (loose_entries loose) ≡ loose
loose_keyed [] = refl
loose_keyed (k ∷ ks) = ap (λ (xs : List Descriptor). k ∷ xs) (loose_keyed ks)

-- an entry without a name stays, if its key is held
unnamed_left : (graph : List Node) (es : List IndexEntry) (k : Descriptor) → has_key graph k ≡ true → is_among (unnamed_keys es) k ≡ true → is_among (entry_keys (unnamed_held graph es)) k ≡ true
unnamed_left graph [] k held h = cc h
unnamed_left graph (e ∷ es) k held h =
    let rest : List IndexEntry = filter (λ (x : IndexEntry). no_name x.name) es in
    let kept : List IndexEntry = unnamed_held graph es in
    let more : is_among (unnamed_keys es) k ≡ true → is_among (entry_keys (unnamed_held graph (e ∷ es))) k ≡ true = λ c. past (no_name e.name && is_held graph e.key) (unnamed_left graph es k held c) in
    elim (cases_Bool (no_name e.name)) [
      | inr some ↦ more (rw some at h)
      | inl none ↦
          elim (key_or_none e.key) [
            | inr keyless ↦ more (subst (λ (ks : List Descriptor). is_among ks k ≡ true) (no_first_key e rest keyless) (rw none at h))
            | inl it ↦
                let split : is_among (it.0 ∷ entry_keys rest) k ≡ true = subst (λ (ks : List Descriptor). is_among ks k ≡ true) (first_key e rest it.0 it.1) (rw none at h) in
                elim (cases_Bool (same_key it.0 k)) [
                  | inr apart ↦ more (rw apart at split)
                  | inl same ↦
                      let is : e.key ≡ Some k = it.1 ∙ ap Some ((Decides-same_key it.0 k).0 same) in
                      let stay : (no_name e.name && is_held graph e.key) ≡ true = and_from (no_name e.name) (is_held graph e.key) none (ap (is_held graph) is ∙ held) in
                      let here : is_among (entry_keys (e ∷ kept)) k ≡ true = subst (λ (ks : List Descriptor). is_among ks k ≡ true) (sym (first_key e kept k is)) (or_left (same_key k k) (is_among (entry_keys kept) k) ((Decides-same_key k k).1 refl)) in
                      subst (λ (b : Bool). is_among (entry_keys (cond b (e ∷ kept) kept)) k ≡ true) (sym stay) here
                ]
          ]
    ]
  where
    past : (b : Bool) → is_among (entry_keys (unnamed_held graph es)) k ≡ true → is_among (entry_keys (cond b (e ∷ unnamed_held graph es) (unnamed_held graph es))) k ≡ true
    past true c = among_from (entry_keys (e ∷ unnamed_held graph es)) k (subst (λ (ks : List Descriptor). Contains ks k) (sym (entry_keys-append (e ∷ []) (unnamed_held graph es))) (Contains-append_right (entry_keys (e ∷ [])) (entry_keys (unnamed_held graph es)) k (Contains_among (entry_keys (unnamed_held graph es)) k c)))
    past false c = c

-- ---- all entries

module _ (absent : List Descriptor) (entries : List IndexEntry) (graph : List Node) (tags : Tags) (loose : List Descriptor) (are : AreLoose graph tags entries loose) where
  abbrev first : List IndexEntry
  first = first_from (is_among absent) graph tags entries 0 entries

  abbrev of_tags : List IndexEntry
  of_tags = map (tag_entry entries) tags

  abbrev of_loose : List IndexEntry
  of_loose = unnamed_held graph entries ++ loose_entries loose

  abbrev saved : List IndexEntry
  saved = saved_entries absent entries graph tags loose

  loose_held : (k : Descriptor) → Contains loose k → has_key graph k ≡ true
  loose_held k c = ((are.each k).0 c).0.is_there

  pub all_nameless : All (IsNameless graph) of_loose
  all_nameless = All-append (IsNameless graph) (unnamed_held graph entries) (loose_entries loose) (unnamed_nameless graph entries) (loose_nameless graph loose loose_held)

  pub saved_keys : entry_keys saved ≡ entry_keys first ++ (values_of tags ++ entry_keys of_loose)
  saved_keys =
      entry_keys-append first (of_tags ++ of_loose)
      ∙ ap (λ (ks : List Descriptor). entry_keys first ++ ks) (entry_keys-append of_tags of_loose ∙ ap (λ (ks : List Descriptor). ks ++ entry_keys of_loose) (tags_keyed entries tags))

  -- the keys of all entries were absent or are held
  pub starts_left : All (λ (k : Descriptor). has_key graph k ≡ true) (values_of tags)
      → All (λ (k : Descriptor). is_left (is_among absent) graph (Some k) ≡ true) (entry_keys saved)
  starts_left tagged =
      let G : Descriptor → Type 0 = λ (k : Descriptor). has_key graph k ≡ true in
      let P : Descriptor → Type 0 = λ (k : Descriptor). is_left (is_among absent) graph (Some k) ≡ true in
      let came : All P (entry_keys first) = all_keys P first (All-weaker (λ (e : IndexEntry). is_left (is_among absent) graph e.key ≡ true) (λ (e : IndexEntry). (k : Descriptor) → e.key ≡ Some k → P k)
      (λ e left k is. sym (ap (is_left (is_among absent) graph) is) ∙ left) first (all_first_left (is_among absent) graph tags entries 0 entries)) in
      let held : (k : Descriptor) → G k → P k = λ k h. or_right (is_among absent k) (has_key graph k) h in
      subst (λ (ks : List Descriptor). All P ks) (sym saved_keys)
      (All-append P (entry_keys first) (values_of tags ++ entry_keys of_loose) came
      (All-append P (values_of tags) (entry_keys of_loose) (All-weaker G P held (values_of tags) tagged)
      (all_keys P of_loose (All-weaker (IsNameless graph) (λ (e : IndexEntry). (k : Descriptor) → e.key ≡ Some k → P k) (λ e h k is. held k (sym (ap (is_held graph) is) ∙ h.1)) of_loose all_nameless))))

  pub tail_last : (rest : Tags) (name : List ℕ) → name ≢ [] → IsOrdered rest → last_of name (map (tag_entry entries) rest ++ of_loose) ≡ option_map (λ (k : Descriptor). tag_entry entries (name, k)) (tag_at rest name)
  tail_last rest name full sorted =
      last_of-append name (map (tag_entry entries) rest) of_loose
      ∙ ap (λ (o : Option IndexEntry). later o (last_of name (map (tag_entry entries) rest))) (last_nameless name of_loose full (All-weaker (IsNameless graph) (λ (e : IndexEntry). no_name e.name ≡ true) (λ e h. h.0) of_loose all_nameless))
      ∙ tags_last entries rest name sorted

  pub saved_last : (name : List ℕ) → name ≢ [] → IsOrdered tags → last_of name saved ≡ later (option_map (λ (k : Descriptor). tag_entry entries (name, k)) (tag_at tags name)) (last_of name first)
  saved_last name full sorted = last_of-append name first (of_tags ++ of_loose) ∙ ap (λ (o : Option IndexEntry). later o (last_of name first)) (tail_last tags name full sorted)

  -- each held key at the top that no tag has gets an entry without a tag
  pub loose_top : (h : Descriptor) → IsLoose graph tags h → Contains (entry_keys of_loose) h
  loose_top h is =
      let olds : List Descriptor = entry_keys (unnamed_held graph entries) in
      let split : Contains (olds ++ loose) h → Contains (entry_keys of_loose) h =
      λ c. subst (λ (ks : List Descriptor). Contains ks h) (sym (entry_keys-append (unnamed_held graph entries) (loose_entries loose) ∙ ap (λ (ks : List Descriptor). olds ++ ks) (loose_keyed loose))) c in
      elim (cases_Bool (is_among (unnamed_keys entries) h)) [
        | inl entry ↦ split (Contains-append_left olds loose h (Contains_among olds h (unnamed_left graph entries h is.is_there entry)))
        | inr none ↦ split (Contains-append_right olds loose h ((are.each h).1 (is, λ c. cc (none, among_from (unnamed_keys entries) h c))))
      ]

  -- each held key at the top has an entry
  pub saved_top : (h : Descriptor) → has_key graph h ≡ true → IsTop graph h → Contains (entry_keys saved) h
  saved_top h held top =
      let rest : List Descriptor = values_of tags ++ entry_keys of_loose in
      let in_rest : Contains rest h → Contains (entry_keys saved) h = λ c. subst (λ (ks : List Descriptor). Contains ks h) (sym saved_keys) (Contains-append_right (entry_keys first) rest h c) in
      elim (cases_Bool (is_among (values_of tags) h)) [
        | inl tagged ↦ in_rest (Contains-append_left (values_of tags) (entry_keys of_loose) h (Contains_among (values_of tags) h tagged))
        | inr untagged ↦
            let is : IsLoose graph tags h = record { is_there = held; untagged = λ c. cc (untagged, among_from (values_of tags) h c); is_top = top } in
            in_rest (Contains-append_right (values_of tags) (entry_keys of_loose) h (loose_top h is))
      ]

  module _ (again : List Node) (same : (k : Descriptor) → has_key again k ≡ has_key graph k) (unheld : All (λ (k : Descriptor). has_key graph k ≡ false) absent) (names : AreNames graph tags) (sorted : IsOrdered tags) where
    pub absent_unheld : (k : Descriptor) → is_among absent k ≡ true → has_key graph k ≡ false
    absent_unheld k h = All-contains (λ (x : Descriptor). has_key graph x ≡ false) absent k unheld (Contains_among absent k h)

    pub unheld_key : (key : Option Descriptor) → was_absent (is_among absent) key ≡ true → is_held graph key ≡ false
    unheld_key None h = refl
    unheld_key (Some k) h = absent_unheld k h

    no_held_key : (key : Option Descriptor) → is_held again key ≡ false → held_key again key ≡ None
    no_held_key None h = refl
    no_held_key (Some k) h = rw h refl

    none_owned : (o : Option IndexEntry) → ((d : IndexEntry) → o ≡ Some d → is_held again d.key ≡ false) → owner again o None ≡ None
    none_owned None h = refl
    none_owned (Some d) h = no_held_key d.key (h d refl)

    tag_held : (o : Option Descriptor) (k : Descriptor) → IfSome o (λ (x : Descriptor). has_key graph x ≡ true) → o ≡ Some k → has_key again k ≡ true
    tag_held None k h e = absurd (none-some k e)
    tag_held (Some x) k h e = same k ∙ ap (has_key graph) (sym (same_Some x k e)) ∙ h

    by_tag : (name : List ℕ) → name ≢ [] → (o : Option Descriptor) → tag_at tags name ≡ o → owner again (later (option_map (λ (k : Descriptor). tag_entry entries (name, k)) o) (last_of name first)) None ≡ o
    by_tag name full (Some k) is =
        let held : has_key again k ≡ true = tag_held (tag_at tags name) k (IfSome-lookup_from_All (λ (x : Descriptor). has_key graph x ≡ true) (bytes_eq name) tags names.held) is in
        ap (held_key again) (tag_key entries (name, k)) ∙ ap (λ (b : Bool). cond b (Some k) None) held
    by_tag name full None is = none_owned (last_of name first) (λ d h. same_held graph again same d.key ∙ unheld_key d.key (first_absent (is_among absent) graph tags entries name full is d h))

    owned_saved : (name : List ℕ) → tag_at (owned again saved []) name ≡ tag_at tags name
    owned_saved [] = unnamed_owned again saved [] refl ∙ sym (unnamed_tag tags names.named)
    owned_saved (c ∷ cs) =
        let full : c ∷ cs ≢ [] = λ e. cc e in
        owned_at again saved [] (c ∷ cs) full ∙ ap (λ (o : Option IndexEntry). owner again o None) (saved_last (c ∷ cs) full sorted) ∙ by_tag (c ∷ cs) full (tag_at tags (c ∷ cs)) refl

    pub saved_tags : owned again saved [] ≡ tags
    unfolding IsStrictlySortedBy
    saved_tags = same_tags (owned again saved []) tags (ordered_owned again saved [] tt) sorted owned_saved
