-- The tags of entries are in order, and none is named twice.
use Rattle.std.proofs.Common.{◌≡◌, ℕ, true, false, cond, not, inl, inr, List, [], ◌∷◌, filter, Option, Some, None, Less, Equal, Greater, Ordering, refl, sym, ap, subst, ◌∙◌}
use Rattle.std.specs.List.{AllByRecursion}
use Rattle.std.specs.Map.{keys_of}
use Rattle.std.specs.Cmp.Lexicographic.{slice_cmp}
use Rattle.std.specs.List.Sorted.{IsStrictlySortedBy}
use Rattle.std.specs.Ordering.{is_eq, match_ordering, nat_cmp, ordering_reverse}
use Rattle.std.specs.Str.{bytes_eq}
use Rattle.std.proofs.lemmas.Bool.{cases_Bool}
use Rattle.std.proofs.lemmas.Cmp.{nat_list_cmp_total}
use Rattle.std.proofs.lemmas.List.Elements.{All-from_recursion, recursion_from_All}
use Rattle.std.proofs.lemmas.List.Kept.{IsStrictlySortedBy-filter}
use Rattle.std.proofs.lemmas.Map.Lookups.{exact_bytes}
use Rattle.std.proofs.lemmas.Map.Text.{is_eq-slice_cmp}
use Rattle.std.proofs.lemmas.Map.Views.{All-keys-insert_entry}
use Rattle.std.proofs.lemmas.Option.{none-some, same_Some}
use Rattle.std.proofs.lemmas.Slice.Eq.{bytes_eq-Decides}
use Rattle.oci_manifest.specs.Descriptor.{Descriptor}
use Rattle.oci_store.specs.Graph.{Node}
use Rattle.oci_store.specs.Keyed.{has_key}
use Rattle.oci_store.specs.Tags.{Tags, set_tag, tag_at, without_tag}
use Rattle.oci_layout_store.specs.Entries.{IndexEntry, owned, tag_owned}

-- ---- tags in order

abbrev pub IsOrdered : Tags → Type 0
IsOrdered tags = IsStrictlySortedBy (slice_cmp nat_cmp) (keys_of tags)

all_below : (x y : List ℕ) (names : List (List ℕ)) → slice_cmp nat_cmp x y ≡ Less → AllByRecursion (λ (n : List ℕ). slice_cmp nat_cmp y n ≡ Less) names → AllByRecursion (λ (n : List ℕ). slice_cmp nat_cmp x n ≡ Less) names
all_below x y [] less h = tt
all_below x y (n ∷ names) less h = (nat_list_cmp_total.trans x y n less h.0, all_below x y names less h.1)

-- a name before all others is no tag
pub below_none : (name : List ℕ) (tags : Tags) → AllByRecursion (λ (n : List ℕ). slice_cmp nat_cmp name n ≡ Less) (keys_of tags) → tag_at tags name ≡ None
below_none name [] h = refl
below_none name (t ∷ tags) h =
    let apart : bytes_eq name t.0 ≡ false = sym (is_eq-slice_cmp name t.0) ∙ ap is_eq h.0 in
    rw apart (below_none name tags h.1)

pub same_bytes : (name : List ℕ) → bytes_eq name name ≡ true
same_bytes name = (bytes_eq-Decides name name).1 refl

pub first_at : (t : List ℕ × Descriptor) (tags : Tags) → tag_at (t ∷ tags) t.0 ≡ Some t.1
first_at t tags = rw (same_bytes t.0) refl

first_names : (a b : List ℕ × Descriptor) (later bs : Tags) → IsOrdered (a ∷ later) → IsOrdered (b ∷ bs) → ((name : List ℕ) → tag_at (a ∷ later) name ≡ tag_at (b ∷ bs) name) → (o : Ordering) → slice_cmp nat_cmp a.0 b.0 ≡ o → a.0 ≡ b.0
unfolding IsStrictlySortedBy
first_names a b later bs s t h Less p = absurd (none-some a.1 (sym (below_none a.0 (b ∷ bs) (p, all_below a.0 b.0 (keys_of bs) p t.0)) ∙ sym (h a.0) ∙ first_at a later))
first_names a b later bs s t h Equal p = exact_bytes a.0 b.0 p
first_names a b later bs s t h Greater p =
    let less : slice_cmp nat_cmp b.0 a.0 ≡ Less = nat_list_cmp_total.antisymm b.0 a.0 ∙ ap ordering_reverse p in
    absurd (none-some b.1 (sym (below_none b.0 (a ∷ later) (less, all_below b.0 a.0 (keys_of later) less s.0)) ∙ h b.0 ∙ first_at b bs))

later_names : (a b : List ℕ × Descriptor) (later bs : Tags) → IsOrdered (a ∷ later) → IsOrdered (b ∷ bs) → a.0 ≡ b.0 → ((name : List ℕ) → tag_at (a ∷ later) name ≡ tag_at (b ∷ bs) name) → (name : List ℕ) → tag_at later name ≡ tag_at bs name
unfolding IsStrictlySortedBy
later_names a b later bs s t e h name =
    elim (cases_Bool (bytes_eq name a.0)) [
      | inl same ↦
          let is : name ≡ a.0 = (bytes_eq-Decides name a.0).0 same in
          ap (tag_at later) is ∙ below_none a.0 later s.0 ∙ sym (below_none b.0 bs t.0) ∙ ap (tag_at bs) (sym (is ∙ e))
      | inr apart ↦
          let other : bytes_eq name b.0 ≡ false = ap (bytes_eq name) (sym e) ∙ apart in
          rw (apart, other) at (h name)
    ]

-- tags in order that agree on each name
pub same_tags : (a b : Tags) → IsOrdered a → IsOrdered b → ((name : List ℕ) → tag_at a name ≡ tag_at b name) → a ≡ b
unfolding IsStrictlySortedBy
same_tags [] [] s t h = refl
same_tags [] (b ∷ bs) s t h = absurd (none-some b.1 (h b.0 ∙ first_at b bs))
same_tags (a ∷ later) [] s t h = absurd (none-some a.1 (sym (h a.0) ∙ first_at a later))
same_tags (a ∷ later) (b ∷ bs) s t h =
    let name : a.0 ≡ b.0 = first_names a b later bs s t h (slice_cmp nat_cmp a.0 b.0) refl in
    let key : a.1 ≡ b.1 = same_Some a.1 b.1 (sym (first_at a later) ∙ h a.0 ∙ ap (tag_at (b ∷ bs)) name ∙ first_at b bs) in
    let rest : later ≡ bs = same_tags later bs s.1 t.1 (later_names a b later bs s t name h) in
    ap (λ (n : List ℕ). (n, a.1) ∷ later) name ∙ ap (λ (k : Descriptor). (b.0, k) ∷ later) key ∙ ap (λ (ts : Tags). b ∷ ts) rest

-- tags stay in order
ordered_step : (o : Ordering) (t : List ℕ × Descriptor) (tags : Tags) (name : List ℕ) (k : Descriptor) → slice_cmp nat_cmp name t.0 ≡ o → IsOrdered (t ∷ tags) → IsOrdered (set_tag tags name k)
    → IsOrdered (match_ordering o ((name, k) ∷ t ∷ tags) ((t.0, k) ∷ tags) (t ∷ set_tag tags name k))
unfolding IsStrictlySortedBy
ordered_step Less t tags name k p s later = ((p, all_below name t.0 (keys_of tags) p s.0), s)
ordered_step Equal t tags name k p s later = s
ordered_step Greater t tags name k p s later =
    let P : List ℕ → Type 0 = λ (n : List ℕ). slice_cmp nat_cmp t.0 n ≡ Less in
    let less : slice_cmp nat_cmp t.0 name ≡ Less = nat_list_cmp_total.antisymm t.0 name ∙ ap ordering_reverse p in
    (recursion_from_All P (keys_of (set_tag tags name k)) (All-keys-insert_entry (slice_cmp nat_cmp) name k P tags (All-from_recursion P (keys_of tags) s.0) less), later)

ordered_set : (tags : Tags) (name : List ℕ) (k : Descriptor) → IsOrdered tags → IsOrdered (set_tag tags name k)
unfolding IsStrictlySortedBy
ordered_set [] name k s = (tt, tt)
ordered_set (t ∷ tags) name k s = ordered_step (slice_cmp nat_cmp name t.0) t tags name k refl s (ordered_set tags name k s.1)

keys_without : (tags : Tags) (name : List ℕ) → keys_of (without_tag tags name) ≡ filter (λ (n : List ℕ). not (bytes_eq name n)) (keys_of tags)
keys_without [] name = refl
keys_without (t ∷ tags) name =
    elim (cases_Bool (bytes_eq name t.0)) [
      | inl same ↦ rw same (keys_without tags name)
      | inr apart ↦ rw apart (ap (λ (ns : List (List ℕ)). t.0 ∷ ns) (keys_without tags name))
    ]

ordered_without : (tags : Tags) (name : List ℕ) → IsOrdered tags → IsOrdered (without_tag tags name)
ordered_without tags name s =
    subst (λ (ns : List (List ℕ)). IsStrictlySortedBy (slice_cmp nat_cmp) ns) (sym (keys_without tags name)) (IsStrictlySortedBy-filter (slice_cmp nat_cmp) (λ (n : List ℕ). not (bytes_eq name n)) (keys_of tags) s)

ordered_one : (graph : List Node) (key : Option Descriptor) (name : Option (List ℕ)) (tags : Tags) → IsOrdered tags → IsOrdered (tag_owned graph key name tags)
ordered_one graph key None tags s = s
ordered_one graph key (Some []) tags s = s
ordered_one graph None (Some (c ∷ cs)) tags s = ordered_without tags (c ∷ cs) s
ordered_one graph (Some k) (Some (c ∷ cs)) tags s =
    elim (has_key graph k) as (λ b. IsOrdered (cond b (set_tag tags (c ∷ cs) k) (without_tag tags (c ∷ cs)))) [
      | true ↦ ordered_set tags (c ∷ cs) k s
      | false ↦ ordered_without tags (c ∷ cs) s
    ]

pub ordered_owned : (graph : List Node) (es : List IndexEntry) (tags : Tags) → IsOrdered tags → IsOrdered (owned graph es tags)
ordered_owned graph [] tags s = s
ordered_owned graph (e ∷ es) tags s = ordered_owned graph es (tag_owned graph e.key e.name tags) (ordered_one graph e.key e.name tags s)
