-- The tags of a layout after a mirror set the selected ones and removed all others.
use Rattle.std.proofs.Common.{◌≡◌, ◌≢◌, ℕ, ◌+◌, ◌<◌, length, get_or, drop, String, Global, string_bytes, Bool, true, false, cond, not, inl, inr, List, [], ◌∷◌, filter, Option, Some, None, is_some, Less, Equal, Greater, Ordering, refl, sym, ap, subst, ◌∙◌}
use Rattle.std.specs.Prelude.{IsErrOf, Err}
use Rattle.std.specs.List.{All, AllByRecursion}
use Rattle.std.specs.Map.{keys_of, values_of}
use Rattle.std.specs.Cmp.Lexicographic.{slice_cmp}
use Rattle.std.specs.List.Sorted.{IsStrictlySortedBy}
use Rattle.std.specs.Ordering.{is_eq, match_ordering, nat_cmp, ordering_reverse}
use Rattle.std.specs.Str.{bytes_eq}
use Rattle.std.proofs.lemmas.Bool.{cases_Bool}
use Rattle.std.proofs.lemmas.Cmp.{nat_list_cmp_total}
use Rattle.std.proofs.lemmas.List.{drop_more}
use Rattle.std.proofs.lemmas.List.Elements.{All-filter, All-from_recursion, All-head, All-tail, recursion_from_All}
use Rattle.std.proofs.lemmas.List.Kept.{IsStrictlySortedBy-filter}
use Rattle.std.proofs.lemmas.Map.Text.{is_eq-slice_cmp}
use Rattle.std.proofs.lemmas.Map.Views.{All-keys-insert_entry, All-values-insert_entry}
use Rattle.std.proofs.lemmas.Slice.Eq.{bytes_eq-Decides}
use Rattle.oci_manifest.specs.Descriptor.{Descriptor}
use Rattle.oci_manifest.specs.declared.key.Key.{Key}
use Rattle.oci_store.specs.Tags.{IsUntagFault, Tags, by_bytes, set_tag, tag_at, without_tag}
use Rattle.oci_store.specs.declared.fault.RefFault.{RefFault}
use Rattle.oci_store.specs.declared.fault.RefFault.TheVariants as fault
use Rattle.oci_store.proofs.TagNames.{tag_at-kept, tag_at-left, tag_at-removed, tag_at-set}
use Rattle.oci_layout_store.proofs.OrderedTags.{IsOrdered, first_at, same_tags}
use Rattle.oci_selection.specs.Selected.{other_tags, set_tags, without_tags}

-- ---- the key of a name

-- the first key that is there
abbrev either : Option Descriptor → Option Descriptor → Option Descriptor
either (Some k) other = Some k
either None other = other

either_one : (o : Option Descriptor) (b : Bool) (k : Descriptor) (p : Option Descriptor) → either o (cond b (Some k) p) ≡ either (either o (cond b (Some k) None)) p
either_one (Some x) b k p = refl
either_one None true k p = refl
either_one None false k p = refl

one_at : (tags : Tags) (name other : List ℕ) (k : Descriptor) → tag_at (set_tag tags name k) other ≡ cond (bytes_eq other name) (Some k) (tag_at tags other)
one_at tags name other k =
    elim (cases_Bool (bytes_eq other name)) [
      | inl same ↦
          let is : other ≡ name = (bytes_eq-Decides other name).0 same in
          ap (tag_at (set_tag tags name k)) is ∙ tag_at-set tags name k ∙ sym (ap (λ (b : Bool). cond b (Some k) (tag_at tags other)) same)
      | inr apart ↦
          tag_at-kept tags name other k (λ is. cc (sym apart ∙ (bytes_eq-Decides other name).1 is)) ∙ sym (ap (λ (b : Bool). cond b (Some k) (tag_at tags other)) apart)
    ]

-- a name has the key that was set last, or else the one that it had
set_at : (kept tags : Tags) (name : List ℕ) → tag_at (set_tags tags kept) name ≡ either (tag_at (set_tags [] kept) name) (tag_at tags name)
set_at [] tags name = refl
set_at (t ∷ kept) tags name =
    let found = tag_at (set_tags [] kept) name in
    set_at kept (set_tag tags t.0 t.1) name ∙ ap (either found) (one_at tags t.0 name t.1) ∙ either_one found (bytes_eq name t.0) t.1 (tag_at tags name)
    ∙ sym (ap (λ (o : Option Descriptor). either o (tag_at tags name)) (set_at kept (set_tag [] t.0 t.1) name ∙ ap (either found) (one_at [] t.0 name t.1)))

-- ---- the other names are gone

-- whether a name is not that of a kept tag
abbrev is_other : Tags → List ℕ → Bool
is_other kept name = not (is_some (tag_at (set_tags [] kept) name))

cond_none : (b : Bool) (o : Option Descriptor) → o ≡ None → cond b None o ≡ None
cond_none true o h = refl
cond_none false o h = h

gone_step : (tags es : Tags) (t : List ℕ × Descriptor) (name : List ℕ) → cond (is_some (tag_at es name)) None (tag_at (without_tag tags t.0) name) ≡ cond (is_some (tag_at (t ∷ es) name)) None (tag_at tags name)
gone_step tags es t name =
    elim (cases_Bool (bytes_eq name t.0)) [
      | inl same ↦
          let is : name ≡ t.0 = (bytes_eq-Decides name t.0).0 same in
          let none : tag_at (without_tag tags t.0) name ≡ None = ap (tag_at (without_tag tags t.0)) is ∙ tag_at-removed tags t.0 in
          cond_none (is_some (tag_at es name)) (tag_at (without_tag tags t.0) name) none
          ∙ sym (ap (λ (b : Bool). cond (is_some (cond b (Some t.1) (tag_at es name))) None (tag_at tags name)) same)
      | inr apart ↦
          ap (cond (is_some (tag_at es name)) None) (tag_at-left tags t.0 name (λ is. cc (sym apart ∙ (bytes_eq-Decides name t.0).1 is)))
          ∙ sym (ap (λ (b : Bool). cond (is_some (cond b (Some t.1) (tag_at es name))) None (tag_at tags name)) apart)
    ]

apart_from : (kept : Tags) (name other : List ℕ) → is_other kept name ≡ true → is_other kept other ≡ false → name ≢ other
apart_from kept name other a b is = cc (sym b ∙ ap (is_other kept) (sym is) ∙ a)

others_at : (kept es tags : Tags) (name : List ℕ) → is_other kept name ≡ true → tag_at (without_tags tags (other_tags es kept)) name ≡ cond (is_some (tag_at es name)) None (tag_at tags name)
others_at kept [] tags name other = refl
others_at kept (t ∷ es) tags name other =
    elim (cases_Bool (is_other kept t.0)) [
      | inl gone ↦
          ap (λ (b : Bool). tag_at (without_tags tags (cond b (t ∷ other_tags es kept) (other_tags es kept))) name) gone
          ∙ others_at kept es (without_tag tags t.0) name other ∙ gone_step tags es t name
      | inr stays ↦
          let differ = apart_from kept name t.0 other stays in
          ap (λ (b : Bool). tag_at (without_tags tags (cond b (t ∷ other_tags es kept) (other_tags es kept))) name) stays
          ∙ others_at kept es tags name other ∙ later (bytes_eq name t.0) (λ same. differ ((bytes_eq-Decides name t.0).0 same))
    ]
  where
    later : (b : Bool) → (b ≡ true → ⊥) → cond (is_some (tag_at es name)) None (tag_at tags name) ≡ cond (is_some (cond b (Some t.1) (tag_at es name))) None (tag_at tags name)
    later true h = absurd (h refl)
    later false h = refl

kept_at : (kept es tags : Tags) (name : List ℕ) → is_other kept name ≡ false → tag_at (without_tags tags (other_tags es kept)) name ≡ tag_at tags name
kept_at kept [] tags name is = refl
kept_at kept (t ∷ es) tags name is =
    elim (cases_Bool (is_other kept t.0)) [
      | inl gone ↦
          let differ = apart_from kept t.0 name gone is in
          ap (λ (b : Bool). tag_at (without_tags tags (cond b (t ∷ other_tags es kept) (other_tags es kept))) name) gone
          ∙ kept_at kept es (without_tag tags t.0) name is ∙ tag_at-left tags t.0 name (λ same. differ (sym same))
      | inr stays ↦ ap (λ (b : Bool). tag_at (without_tags tags (cond b (t ∷ other_tags es kept) (other_tags es kept))) name) stays ∙ kept_at kept es tags name is
    ]

-- ---- the order of the names

all_below : (x y : List ℕ) (names : List (List ℕ)) → slice_cmp nat_cmp x y ≡ Less → AllByRecursion (λ (n : List ℕ). slice_cmp nat_cmp y n ≡ Less) names → AllByRecursion (λ (n : List ℕ). slice_cmp nat_cmp x n ≡ Less) names
all_below x y [] less h = tt
all_below x y (n ∷ names) less h = (nat_list_cmp_total.trans x y n less h.0, all_below x y names less h.1)

ordered_step : (o : Ordering) (t : List ℕ × Descriptor) (tags : Tags) (name : List ℕ) (k : Descriptor) → slice_cmp nat_cmp name t.0 ≡ o → IsOrdered (t ∷ tags) → IsOrdered (set_tag tags name k)
    → IsOrdered (match_ordering o ((name, k) ∷ t ∷ tags) ((t.0, k) ∷ tags) (t ∷ set_tag tags name k))
unfolding IsStrictlySortedBy
ordered_step Less t tags name k p s later = ((p, all_below name t.0 (keys_of tags) p s.0), s)
ordered_step Equal t tags name k p s later = s
ordered_step Greater t tags name k p s later =
    let P : List ℕ → Type 0 = λ (n : List ℕ). slice_cmp nat_cmp t.0 n ≡ Less in
    let less : slice_cmp nat_cmp t.0 name ≡ Less = nat_list_cmp_total.antisymm t.0 name ∙ ap ordering_reverse p in
    (recursion_from_All P (keys_of (set_tag tags name k)) (All-keys-insert_entry (slice_cmp nat_cmp) name k P tags (All-from_recursion P (keys_of tags) s.0) less), later)

ordered_set : (tags : Tags) (name : List ℕ) (k : Descriptor) → IsOrdered tags → IsOrdered (set_tag tags name k)
unfolding IsStrictlySortedBy
ordered_set [] name k s = (tt, tt)
ordered_set (t ∷ tags) name k s = ordered_step (slice_cmp nat_cmp name t.0) t tags name k refl s (ordered_set tags name k s.1)

keys_filter : (p : List ℕ → Bool) (tags : Tags) → keys_of (filter (λ (t : List ℕ × Descriptor). p t.0) tags) ≡ filter p (keys_of tags)
keys_filter p [] = refl
keys_filter p (t ∷ tags) =
    elim (p t.0) as (λ b. keys_of (cond b (t ∷ filter (λ (u : List ℕ × Descriptor). p u.0) tags) (filter (λ (u : List ℕ × Descriptor). p u.0) tags)) ≡ cond b (t.0 ∷ filter p (keys_of tags)) (filter p (keys_of tags))) [
      | true ↦ ap (λ (ns : List (List ℕ)). t.0 ∷ ns) (keys_filter p tags)
      | false ↦ keys_filter p tags
    ]

ordered_filter : (p : List ℕ → Bool) (tags : Tags) → IsOrdered tags → IsOrdered (filter (λ (t : List ℕ × Descriptor). p t.0) tags)
ordered_filter p tags s =
    subst (λ (ns : List (List ℕ)). IsStrictlySortedBy (slice_cmp nat_cmp) ns) (sym (keys_filter p tags)) (IsStrictlySortedBy-filter (slice_cmp nat_cmp) p (keys_of tags) s)

ordered_tags : (kept tags : Tags) → IsOrdered tags → IsOrdered (set_tags tags kept)
ordered_tags [] tags s = s
ordered_tags (t ∷ kept) tags s = ordered_tags kept (set_tag tags t.0 t.1) (ordered_set tags t.0 t.1 s)

ordered_rest : (gone tags : Tags) → IsOrdered tags → IsOrdered (without_tags tags gone)
ordered_rest [] tags s = s
ordered_rest (t ∷ gone) tags s = ordered_rest gone (without_tag tags t.0) (ordered_filter (λ (n : List ℕ). not (bytes_eq t.0 n)) tags s)

nothing_ordered : IsOrdered []
unfolding IsStrictlySortedBy
nothing_ordered = tt

-- ---- exactly the selected tags

either_none : (found old : Option Descriptor) → not (is_some found) ≡ true → cond (is_some old) None (either found old) ≡ found
either_none (Some k) old h = cc h
either_none None None h = refl
either_none None (Some k) h = refl

either_some : (found old : Option Descriptor) → not (is_some found) ≡ false → either found old ≡ found
either_some (Some k) old h = refl
either_some None old h = cc h

-- once the selected tags are set and all others are removed, exactly the selected ones are left
pub retagged : (kept tags : Tags) → IsOrdered tags → without_tags (set_tags tags kept) (other_tags tags kept) ≡ set_tags [] kept
retagged kept tags s =
    same_tags (without_tags (set_tags tags kept) (other_tags tags kept)) (set_tags [] kept) (ordered_rest (other_tags tags kept) (set_tags tags kept) (ordered_tags kept tags s)) (ordered_tags kept [] nothing_ordered) at
  where
    at : (name : List ℕ) → tag_at (without_tags (set_tags tags kept) (other_tags tags kept)) name ≡ tag_at (set_tags [] kept) name
    at name =
        elim (cases_Bool (is_other kept name)) [
          | inl other ↦
              others_at kept tags (set_tags tags kept) name other ∙ ap (cond (is_some (tag_at tags name)) None) (set_at kept tags name)
              ∙ either_none (tag_at (set_tags [] kept) name) (tag_at tags name) other
          | inr is ↦ kept_at kept tags (set_tags tags kept) name is ∙ set_at kept tags name ∙ either_some (tag_at (set_tags [] kept) name) (tag_at tags name) is
        ]

-- what holds of the key of each tag still holds once tags are set whose keys have it
pub values_set : (P : Descriptor → Type 0) (kept tags : Tags) → All P (values_of tags) → All P (values_of kept) → All P (values_of (set_tags tags kept))
values_set P [] tags all more = all
values_set P (t ∷ kept) tags all more =
    values_set P kept (set_tag tags t.0 t.1) (All-values-insert_entry (slice_cmp nat_cmp) t.0 t.1 P tags all (All-head P t.1 (values_of kept) more)) (All-tail P t.1 (values_of kept) more)

-- ---- no removal of another tag is refused

-- the name is that of a tag
abbrev pub IsTagIn : Tags → List ℕ × Descriptor → Type 0
IsTagIn tags t = (t.0 ≢ []) × (tag_at tags t.0 ≢ None)

-- each of these names is a tag when its turn to be removed comes
abbrev pub AreTagged : Tags → Tags → Type 0
AreTagged tags [] = Unit {0}
AreTagged tags (t ∷ more) = (t.0 ≢ []) × (tag_at tags t.0 ≢ None) × AreTagged (without_tag tags t.0) more

keeps_later : (name : List ℕ) (tags es : Tags) → AllByRecursion (λ (n : List ℕ). slice_cmp nat_cmp name n ≡ Less) (keys_of es) → AllByRecursion (IsTagIn tags) es → AllByRecursion (IsTagIn (without_tag tags name)) es
keeps_later name tags [] below all = tt
keeps_later name tags (u ∷ es) below all =
    ((all.0.0, λ none. all.0.1 (sym (tag_at-left tags name u.0 differ) ∙ none)), keeps_later name tags es below.1 all.1)
  where
    differ : u.0 ≢ name
    differ is =
        let same : bytes_eq name u.0 ≡ true = (bytes_eq-Decides name u.0).1 (sym is) in
        let apart : bytes_eq name u.0 ≡ false = sym (is_eq-slice_cmp name u.0) ∙ ap is_eq below.0 in
        cc (sym same ∙ apart)

turns : (es tags : Tags) → IsOrdered es → AllByRecursion (IsTagIn tags) es → AreTagged tags es
unfolding IsStrictlySortedBy
turns [] tags s all = tt
turns (t ∷ es) tags s all = (all.0.0, all.0.1, turns es (without_tag tags t.0) s.1 (keeps_later t.0 tags es s.0 all.1))

-- names in order that are tags are each a tag at its turn
pub in_turn : (es tags : Tags) → IsOrdered es → All (IsTagIn tags) es → AreTagged tags es
in_turn es tags s all = turns es tags s (recursion_from_All (IsTagIn tags) es all)

found_there : (tags es : Tags) → AllByRecursion (λ (t : List ℕ × Descriptor). tag_at tags t.0 ≢ None) es → (t : List ℕ × Descriptor) → AllByRecursion (λ (u : List ℕ × Descriptor). tag_at (t ∷ tags) u.0 ≢ None) es
found_there tags [] h t = tt
found_there tags (u ∷ es) h t = (more (bytes_eq u.0 t.0), found_there tags es h.1 t)
  where
    more : (b : Bool) → cond b (Some t.1) (tag_at tags u.0) ≢ None
    more true none = cc none
    more false none = h.0 none

all_found : (tags : Tags) → AllByRecursion (λ (t : List ℕ × Descriptor). tag_at tags t.0 ≢ None) tags
all_found [] = tt
all_found (t ∷ tags) = ((λ none. cc (sym (first_at t tags) ∙ none)), found_there tags tags (all_found tags) t)

stay_found : (kept tags es : Tags) → AllByRecursion (λ (n : List ℕ). n ≢ []) (keys_of es) → AllByRecursion (λ (t : List ℕ × Descriptor). tag_at tags t.0 ≢ None) es → AllByRecursion (IsTagIn (set_tags tags kept)) es
stay_found kept tags [] named h = tt
stay_found kept tags (t ∷ es) named h = ((named.0, λ none. more (tag_at (set_tags [] kept) t.0) (sym (set_at kept tags t.0) ∙ none)), stay_found kept tags es named.1 h.1)
  where
    more : (o : Option Descriptor) → either o (tag_at tags t.0) ≡ None → ⊥
    more (Some k) none = cc none
    more None none = h.0 none

-- the tags are still there once others are set, and so are those of them that are to be removed
pub others_there : (kept tags : Tags) → All (λ (n : List ℕ). n ≢ []) (keys_of tags) → All (IsTagIn (set_tags tags kept)) (other_tags tags kept)
others_there kept tags named =
    All-filter (λ (t : List ℕ × Descriptor). is_other kept t.0) (IsTagIn (set_tags tags kept)) tags
    (All-from_recursion (IsTagIn (set_tags tags kept)) tags (stay_found kept tags tags (recursion_from_All (λ (n : List ℕ). n ≢ []) (keys_of tags) named) (all_found tags)))

-- those that are to be removed are in order
pub others_ordered : (kept tags : Tags) → IsOrdered tags → IsOrdered (other_tags tags kept)
others_ordered kept tags s = ordered_filter (is_other kept) tags s

-- no removal of such a tag is refused
pub never_refused : (tags : Tags) (name : List ℕ) (e : RefFault) → IsUntagFault tags name e → (IsErrOf {T = Key} (Err e) fault.Memory → ⊥) → name ≢ [] → tag_at tags name ≢ None → ⊥
never_refused tags name fault.EmptyReference is memory named there = named is
never_refused tags name fault.UnknownReference is memory named there = there is.1
never_refused tags name fault.NotHeld is memory named there = is
never_refused tags name fault.Memory is memory named there = memory refl

-- the tags that are left at a place
left_there : (es : List (String Global × Descriptor)) (i : ℕ) (t : String Global × Descriptor) → i < length es → t ≡ get_or es i t → by_bytes (drop i es) ≡ (string_bytes t.0, t.1) ∷ by_bytes (drop (i + 1) es)
left_there es i t within is = ap by_bytes (drop_more es i t within) ∙ ap (λ (u : String Global × Descriptor). by_bytes (u ∷ drop (i + 1) es)) (sym is)

-- the next of these tags is a tag, and the others are each a tag at their turn once it is removed
pub next_turn : (tags : Tags) (es : List (String Global × Descriptor)) (i : ℕ) (t : String Global × Descriptor) → i < length es → t ≡ get_or es i t → AreTagged tags (by_bytes (drop i es))
    → (string_bytes t.0 ≢ []) × (tag_at tags (string_bytes t.0) ≢ None) × AreTagged (without_tag tags (string_bytes t.0)) (by_bytes (drop (i + 1) es))
next_turn tags es i t within is turn = subst (λ (ts : Tags). AreTagged tags ts) (left_there es i t within is) turn

-- the effect of the removals that are left once the next tag is removed
pub next_left : (tags : Tags) (es : List (String Global × Descriptor)) (i : ℕ) (t : String Global × Descriptor) → i < length es → t ≡ get_or es i t
    → without_tags (without_tag tags (string_bytes t.0)) (by_bytes (drop (i + 1) es)) ≡ without_tags tags (by_bytes (drop i es))
next_left tags es i t within is = sym (ap (without_tags tags) (left_there es i t within is))
