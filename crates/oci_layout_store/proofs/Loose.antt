-- Which keys get an entry without a tag.
use Rattle.std.proofs.Common.{◌≡◌, ℕ, ◌+◌, ◌<◌, Bool, true, false, cond, ◌⊎◌, inl, inr, List, [], ◌∷◌, ◌++◌, length, take, map, filter, get_or, slice_get, option_map, Option, Some, None, String, Global, string_bytes, refl, sym, ap, subst, ◌∙◌, arith}
use Rattle.std.specs.Prelude.{◌↔◌, Contains, Result, Ok, Err, Vec, IfOk}
use Rattle.std.specs.BTreeSet.{BTreeSet, contains}
use Rattle.std.specs.Cmp.{IsTotalOrder}
use Rattle.std.specs.Map.{keys_of, values_of}
use Rattle.std.specs.Ordering.{is_eq}
use Rattle.std.specs.declared.cmp.Ordering.{Ordering}
use Rattle.std.specs.List.Sorted.{IsStrictlySortedBy}
use Rattle.std.proofs.lemmas.Cmp.{eq_by_cmp_equiv}
use Rattle.std.proofs.lemmas.List.{take_more, map-append}
use Rattle.std.proofs.lemmas.Option.{same_Some, slice_get-get_or}
use Rattle.std.specs.List.{cons_option}
use Rattle.std.proofs.lemmas.List.Elements.{Contains-push, Contains-push_cases, Contains-append_cases, Contains-append_left, Contains-append_right, filter-append}
use Rattle.std.proofs.lemmas.Map.Lookups.{CmpEqualImpliesEq}
use Rattle.std.proofs.lemmas.Map.Views.{btree_set_contains_iff, tells_apart}
use Rattle.std.proofs.lemmas.Bool.{cases_Bool}
use Rattle.oci_manifest.specs.Descriptor.{Descriptor, key_cmp}
use Rattle.oci_store.specs.Graph.{Node, IsEdge}
use Rattle.oci_store.specs.Before.{IsBefore}
use Rattle.oci_store.specs.Tags.{Tags, by_bytes}
use Rattle.oci_store.proofs.KeyOrder.{key_cmp_total, key_cmp_exact}
use Rattle.oci_store.proofs.Lookups.{has_key-from_Contains, Contains-from_has_key}
use Rattle.oci_layout_store.specs.declared.index.IndexEntry.{IndexEntry as CodeEntry}
use Rattle.oci_layout_store.specs.Entries.{IndexEntry, entry_keys, entry_of}
use Rattle.oci_layout_store.proofs.EntryKeys.{entry_keys-append}
use Rattle.oci_layout_store.specs.Saved.{no_name, unnamed_keys, IsTop, AreLoose}

pub no_element : {X : Type 0} (x : X) → Contains [] x → ⊥
no_element x h = omega (arith, h.1)

-- a set with one element more
set_more_by : {K : Type 0} {R : K → K → Ordering} → IsTotalOrder R → CmpEqualImpliesEq R → (old new : BTreeSet K) (k : K)
    → ((other : K) → contains R new other ≡ cond (is_eq (R k other)) true (contains R old other)) → (other : K) → (contains R new other ≡ true) ↔ ((contains R old other ≡ true) ⊎ (other ≡ k))
set_more_by {K} {R} total exact old new k grown other =
    elim (cases_Bool (is_eq (R k other))) [
      | inl same ↦ (λ h. inr (sym (tells_apart exact k other same)), λ h. grown other ∙ ap (λ (b : Bool). cond b true (contains R old other)) same)
      | inr apart ↦
          let stays : contains R new other ≡ contains R old other = grown other ∙ ap (λ (b : Bool). cond b true (contains R old other)) apart in
          (λ h. inl (sym stays ∙ h), λ h. elim h [ inl was ↦ stays ∙ was | inr is ↦ cc (sym apart ∙ ap (λ (x : K). is_eq (R k x)) is ∙ (eq_by_cmp_equiv total).refl k) ])
    ]

-- a set with one key more
pub set_more : (old new : BTreeSet Descriptor) (k : Descriptor) → ((other : Descriptor) → contains key_cmp new other ≡ cond (is_eq (key_cmp k other)) true (contains key_cmp old other))
    → (other : Descriptor) → (contains key_cmp new other ≡ true) ↔ ((contains key_cmp old other ≡ true) ⊎ (other ≡ k))
set_more = set_more_by key_cmp_total key_cmp_exact

-- a set to which a key came, for a reason
pub key_added : (old new : BTreeSet Descriptor) (k copy : Descriptor) (A : Type 0) → copy ≡ k → ((other : Descriptor) → contains key_cmp new other ≡ cond (is_eq (key_cmp copy other)) true (contains key_cmp old other))
    → A → (other : Descriptor) → (contains key_cmp new other ≡ true) ↔ ((contains key_cmp old other ≡ true) ⊎ ((other ≡ k) × A))
key_added old new k copy A e grown a other =
    let iff = set_more old new copy grown other in (
      λ h. elim (iff.0 h) [ inl was ↦ inl was | inr is ↦ inr (is ∙ e, a) ],
      λ h. iff.1 (elim h [ inl was ↦ inl was | inr is ↦ inr (is.0 ∙ sym e) ]),
    )

-- the same, for three reasons
pub new_added : (old new : BTreeSet Descriptor) (k copy : Descriptor) (A B C : Type 0) → copy ≡ k
    → ((other : Descriptor) → contains key_cmp new other ≡ cond (is_eq (key_cmp copy other)) true (contains key_cmp old other)) → A → B → C
    → (other : Descriptor) → (contains key_cmp new other ≡ true) ↔ ((contains key_cmp old other ≡ true) ⊎ ((other ≡ k) × A × B × C))
new_added old new k copy A B C e grown a b c other =
    let iff = key_added old new k copy A e grown a other in (
      λ h. elim (iff.0 h) [ inl was ↦ inl was | inr is ↦ inr (is.0, a, b, c) ],
      λ h. iff.1 (elim h [ inl was ↦ inl was | inr is ↦ inr (is.0, a) ]),
    )

-- a set to which the key of an entry without a name came
pub unnamed_added : (old new : BTreeSet Descriptor) (key : Option Descriptor) (k copy : Descriptor) (A : Type 0) → key ≡ Some k → copy ≡ k
    → ((other : Descriptor) → contains key_cmp new other ≡ cond (is_eq (key_cmp copy other)) true (contains key_cmp old other)) → A
    → (other : Descriptor) → (contains key_cmp new other ≡ true) ↔ ((contains key_cmp old other ≡ true) ⊎ ((key ≡ Some other) × A))
unnamed_added old new key k copy A is e grown a other =
    let iff = key_added old new k copy A e grown a other in (
      λ h. elim (iff.0 h) [ inl was ↦ inl was | inr here ↦ inr (is ∙ ap Some (sym here.0), here.1) ],
      λ h. iff.1 (elim h [ inl was ↦ inl was | inr here ↦ inr (same_Some other k (sym here.0 ∙ is), here.1) ]),
    )

-- whether nothing lists a key
pub top_where_none : (graph : List Node) (k : Descriptor) (keys : List Descriptor) → IsBefore graph k keys → keys ≡ [] → IsTop graph k
top_where_none graph k keys h none = inr (λ holder edge. no_element holder (subst (λ (ks : List Descriptor). Contains ks holder) none ((h.each holder).1 edge)))

pub none_where_top : (graph : List Node) (k : Descriptor) (keys : List Descriptor) → IsBefore graph k keys → ((holder : Descriptor) → IsEdge graph holder k → ⊥) → keys ≡ []
none_where_top graph k [] h nobody = refl
none_where_top graph k (x ∷ keys) h nobody = absurd (nobody x ((h.each x).0 (Contains-append_left (x ∷ []) keys x (Contains-push [] x))))

pub empty_list : {X : Type 0} (xs : List X) → length xs ≡ 0 → xs ≡ []
empty_list [] h = refl
empty_list (x ∷ xs) h = absurd (omega (arith, h))

-- the keys of nodes, one more
pub keys-more : (graph : List Node) (i : ℕ) (k : Descriptor) → i < length graph → option_map (λ (n : Node). n.0) (slice_get graph i) ≡ Some k → keys_of (take (i + 1) graph) ≡ keys_of (take i graph) ++ k ∷ []
keys-more graph i k lt h =
    let d : Node = (k, []) in
    let at = slice_get-get_or graph i d lt in
    let same : (get_or graph i d).0 ≡ k = cc (sym (ap (λ (o : Option Node). option_map (λ (n : Node). n.0) o) at) ∙ h) in
    ap keys_of (take_more graph i d lt) ∙ map-append (λ (n : Node). n.0) (take i graph) (get_or graph i d ∷ []) ∙ ap (λ (x : Descriptor). keys_of (take i graph) ++ x ∷ []) same

-- the keys of tags, one more
pub values-more : (tags : List (String Global × Descriptor)) (i : ℕ) (t : String Global × Descriptor) → i < length tags → t ≡ get_or tags i t
    → values_of (by_bytes (take (i + 1) tags)) ≡ values_of (by_bytes (take i tags)) ++ t.1 ∷ []
values-more tags i t lt is =
    ap (λ (ts : List (String Global × Descriptor)). values_of (by_bytes ts)) (take_more tags i t lt)
    ∙ ap (λ (x : String Global × Descriptor). values_of (by_bytes (take i tags ++ x ∷ []))) (sym is)
    ∙ ap values_of (map-append (λ (e : String Global × Descriptor). (string_bytes e.0, e.1)) (take i tags) (t ∷ []))
    ∙ map-append (λ (e : List ℕ × Descriptor). e.1) (by_bytes (take i tags)) ((string_bytes t.0, t.1) ∷ [])

-- the entries of the code, one more
pub entries-more : (entries : List CodeEntry) (i : ℕ) (e : CodeEntry) → i < length entries → e ≡ get_or entries i e → map entry_of (take (i + 1) entries) ≡ map entry_of (take i entries) ++ entry_of e ∷ []
entries-more entries i e lt is =
    ap (map entry_of) (take_more entries i e lt)
    ∙ ap (λ (x : CodeEntry). map entry_of (take i entries ++ x ∷ [])) (sym is)
    ∙ map-append entry_of (take i entries) (e ∷ [])

-- the keys of the entries without a name, one entry more
unnamed-append : (es : List IndexEntry) (e : IndexEntry) → unnamed_keys (es ++ e ∷ []) ≡ unnamed_keys es ++ unnamed_keys (e ∷ [])
unnamed-append es e =
    ap entry_keys (filter-append (λ (x : IndexEntry). no_name x.name) es (e ∷ []))
    ∙ entry_keys-append (filter (λ (x : IndexEntry). no_name x.name) es) (filter (λ (x : IndexEntry). no_name x.name) (e ∷ []))

-- the keys of a list of at most one entry
key_of_one : (key : Option Descriptor) (k : Descriptor) → Contains (cons_option key []) k ↔ (key ≡ Some k)
key_of_one None k = (λ c. absurd (no_element k c), λ h. cc h)
key_of_one (Some j) k = (
  λ c. elim (Contains-push_cases [] j k c) [ inl was ↦ absurd (no_element k was) | inr is ↦ ap Some is ],
  λ h. subst (λ (x : Descriptor). Contains (j ∷ []) x) (same_Some j k h) (Contains-push [] j),
)

unnamed_one : (b : Bool) (e : IndexEntry) (k : Descriptor) → Contains (entry_keys (cond b (e ∷ []) [])) k ↔ ((e.key ≡ Some k) × (b ≡ true))
unnamed_one true e k = (λ c. ((key_of_one e.key k).0 c, refl), λ h. (key_of_one e.key k).1 h.0)
unnamed_one false e k = (λ c. absurd (no_element k c), λ h. cc h.1)

unnamed_more : (es : List IndexEntry) (e : IndexEntry) (k : Descriptor) → Contains (unnamed_keys (es ++ e ∷ [])) k ↔ (Contains (unnamed_keys es) k ⊎ ((e.key ≡ Some k) × (no_name e.name ≡ true)))
unnamed_more es e k =
    let last : List Descriptor = unnamed_keys (e ∷ []) in
    let all : unnamed_keys (es ++ e ∷ []) ≡ unnamed_keys es ++ last = unnamed-append es e in
    let one = unnamed_one (no_name e.name) e k in (
      λ c. elim (Contains-append_cases (unnamed_keys es) last k (subst (λ (ks : List Descriptor). Contains ks k) all c)) [ inl was ↦ inl was | inr here ↦ inr (one.0 here) ],
      λ c. subst (λ (ks : List Descriptor). Contains ks k) (sym all) (elim c [
        | inl was ↦ Contains-append_left (unnamed_keys es) last k was
        | inr here ↦ Contains-append_right (unnamed_keys es) last k (one.1 here)
      ]),
    )

-- a set has the keys of a list
abbrev pub HasKeys : BTreeSet Descriptor → List Descriptor → Type 0
HasKeys set ks = (k : Descriptor) → (contains key_cmp set k ≡ true) ↔ Contains ks k

pub HasKeys-nil : (set : BTreeSet Descriptor) → set.keys ≡ [] → HasKeys set []
HasKeys-nil set none k =
    let iff = btree_set_contains_iff key_cmp_total key_cmp_exact set k in
    (λ h. subst (λ (ks : List Descriptor). Contains ks k) none (iff.0 h), λ h. absurd (no_element k h))

pub HasKeys-more : (old new : BTreeSet Descriptor) (ks more : List Descriptor) (k : Descriptor) → HasKeys old ks → more ≡ ks ++ k ∷ []
    → ((other : Descriptor) → contains key_cmp new other ≡ cond (is_eq (key_cmp k other)) true (contains key_cmp old other)) → HasKeys new more
HasKeys-more old new ks more k h e grown other =
    let iff = set_more old new k grown other in
    rw e (
      λ c. elim (iff.0 c) [ inl was ↦ Contains-append_left ks (k ∷ []) other ((h other).0 was) | inr is ↦ rw is (Contains-push ks k) ],
      λ c. iff.1 (elim (Contains-push_cases ks k other c) [ inl was ↦ inl ((h other).1 was) | inr is ↦ inr (sym is) ]),
    )

-- a set has the keys of the entries without a name, one entry more
pub HasKeys-unnamed : (old new : BTreeSet Descriptor) (es more : List IndexEntry) (e : IndexEntry) → HasKeys old (unnamed_keys es) → more ≡ es ++ e ∷ []
    → ((k : Descriptor) → (contains key_cmp new k ≡ true) ↔ ((contains key_cmp old k ≡ true) ⊎ ((e.key ≡ Some k) × (no_name e.name ≡ true)))) → HasKeys new (unnamed_keys more)
HasKeys-unnamed old new es more e h is grown =
    let pushed : HasKeys new (unnamed_keys (es ++ e ∷ [])) = λ k.
    let iff = unnamed_more es e k in (
      λ c. iff.1 (elim ((grown k).0 c) [ inl was ↦ inl ((h k).0 was) | inr p ↦ inr p ]),
      λ c. (grown k).1 (elim (iff.0 c) [ inl was ↦ inl ((h k).1 was) | inr p ↦ inr p ]),
    ) in
    subst (λ (xs : List IndexEntry). HasKeys new (unnamed_keys xs)) (sym is) pushed

-- a set has those keys of a list that are no tag's and no entry's without a name, and stand at the top
abbrev pub HasNew : List Node → BTreeSet Descriptor → BTreeSet Descriptor → BTreeSet Descriptor → List Descriptor → Type 0
HasNew graph tagged unnamed set ks = (k : Descriptor) → (contains key_cmp set k ≡ true) ↔ (Contains ks k × (contains key_cmp tagged k ≡ false) × (contains key_cmp unnamed k ≡ false) × IsTop graph k)

pub HasNew-nil : (graph : List Node) (tagged unnamed : BTreeSet Descriptor) (set : BTreeSet Descriptor) → set.keys ≡ [] → HasNew graph tagged unnamed set []
HasNew-nil graph tagged unnamed set none k = (λ h. absurd (no_element k ((HasKeys-nil set none k).0 h)), λ h. absurd (no_element k h.0))

pub HasNew-more : (graph : List Node) (tagged unnamed : BTreeSet Descriptor) (old new : BTreeSet Descriptor) (ks more : List Descriptor) (key : Descriptor)
    → HasNew graph tagged unnamed old ks → more ≡ ks ++ key ∷ []
    → ((k : Descriptor) → (contains key_cmp new k ≡ true) ↔ ((contains key_cmp old k ≡ true) ⊎ ((k ≡ key) × (contains key_cmp tagged key ≡ false) × (contains key_cmp unnamed key ≡ false) × IsTop graph key)))
    → HasNew graph tagged unnamed new more
HasNew-more graph tagged unnamed old new ks more key h e grown =
    let pushed : HasNew graph tagged unnamed new (ks ++ key ∷ []) = λ k. (
      λ c. elim ((grown k).0 c) [
        | inl was ↦ let w = (h k).0 was in (Contains-append_left ks (key ∷ []) k w.0, w.1, w.2, w.3)
        | inr is ↦ subst (λ (j : Descriptor). Contains (ks ++ key ∷ []) j × (contains key_cmp tagged j ≡ false) × (contains key_cmp unnamed j ≡ false) × IsTop graph j) (sym is.0) (Contains-push ks key, is.1, is.2, is.3)
      ],
      λ c. (grown k).1 (elim (Contains-push_cases ks key k c.0) [
        | inl was ↦ inl ((h k).1 (was, c.1, c.2, c.3))
        | inr is ↦ inr (
          sym is,
          subst (λ (j : Descriptor). contains key_cmp tagged j ≡ false) (sym is) c.1,
          subst (λ (j : Descriptor). contains key_cmp unnamed j ≡ false) (sym is) c.2,
          subst (λ (j : Descriptor). IsTop graph j) (sym is) c.3,
        )
      ]),
    ) in
    subst (λ (xs : List Descriptor). HasNew graph tagged unnamed new xs) (sym e) pushed

-- the whole set, in order
pub AreLoose-from_set : (graph : List Node) (tags : Tags) (entries : List IndexEntry) (tagged unnamed set : BTreeSet Descriptor) (keys : List Descriptor)
    → HasKeys tagged (values_of tags) → HasKeys unnamed (unnamed_keys entries) → HasNew graph tagged unnamed set (keys_of graph) → keys ≡ set.keys → IsStrictlySortedBy key_cmp keys → AreLoose graph tags entries keys
AreLoose-from_set graph tags entries tagged unnamed set keys named nameless h e order = record {
  each = λ k.
      let iff = btree_set_contains_iff key_cmp_total key_cmp_exact set k in (
        λ c.
            let n = (h k).0 (iff.1 (subst (λ (ks : List Descriptor). Contains ks k) e c)) in
            (record { is_there = has_key-from_Contains graph k n.0; untagged = λ t. cc (n.1, (named k).1 t); is_top = n.3 }, λ u. cc (n.2, (nameless k).1 u)),
        λ l. subst (λ (ks : List Descriptor). Contains ks k) (sym e) (iff.0 ((h k).1 (
          Contains-from_has_key graph k l.0.is_there,
          absent (contains key_cmp tagged k) (λ t. l.0.untagged ((named k).0 t)),
          absent (contains key_cmp unnamed k) (λ u. l.1 ((nameless k).0 u)),
          l.0.is_top,
        ))),
      );
  order = order;
}
  where
    absent : (b : Bool) → (b ≡ true → ⊥) → b ≡ false
    absent true h = absurd (h refl)
    absent false h = refl

pub AreLoose-from_list : {E : Type 0} (graph : List Node) (tags : Tags) (entries : List IndexEntry) (tagged unnamed set : BTreeSet Descriptor) (result : Result (Vec Descriptor Global) E)
    → HasKeys tagged (values_of tags) → HasKeys unnamed (unnamed_keys entries) → HasNew graph tagged unnamed set (keys_of graph) → IfOk result (λ list. list.items ≡ set.keys) → IfOk result (λ list. IsStrictlySortedBy key_cmp list.items)
    → IfOk result (λ list. AreLoose graph tags entries list.items)
AreLoose-from_list graph tags entries tagged unnamed set (Ok list) named nameless h e order = AreLoose-from_set graph tags entries tagged unnamed set list.items named nameless h e order
AreLoose-from_list graph tags entries tagged unnamed set (Err x) named nameless h e order = tt
