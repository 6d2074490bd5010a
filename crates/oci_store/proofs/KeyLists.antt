-- Keys in the order in which they came, and the index of their places.
use Rattle.std.proofs.Common.{◌≡◌, ℕ, ◌<◌, Bool, false, cond, inl, inr, [], ◌∷◌, ◌++◌, length, get_or, Some, None, refl, sym, ap, subst, ◌∙◌, arith}
use Rattle.std.specs.BTreeMap.{BTreeMap, get, Updates}
use Rattle.std.specs.List.{slice_get, IsDistinct}
use Rattle.std.proofs.lemmas.Map.Keys.{IsDistinct-from_apart}
use Rattle.std.proofs.lemmas.Option.{slice_get-get_or}
use Rattle.std.proofs.lemmas.Bool.{cases_Bool}
use Rattle.oci_manifest.specs.Descriptor.{Descriptor, same_key, key_cmp, is_among}
use Rattle.oci_manifest.proofs.Keys.{Decides-same_key}
use Rattle.oci_store.proofs.KeyOrder.{is_eq-key_cmp}
use Rattle.oci_store.specs.KeyList.{IsIndexOf}
use Rattle.oci_store.specs.Visiting.{with_key}
use Rattle.oci_store.proofs.Membership.{Keys, slice_get-append_left, slice_get-push, slice_get-push_cases, among_from_place, place_from_among}

-- a key that has a place is there already
pub with_key-there : (index : BTreeMap Descriptor ℕ) (ks : Keys) (k : Descriptor) (place : ℕ) → IsIndexOf index ks → get key_cmp index k ≡ Some place → ks ≡ with_key ks k
with_key-there index ks k place h found =
    let there = among_from_place ks place k ((h k place).0 found) in
    rw there refl

absent : (index : BTreeMap Descriptor ℕ) (ks : Keys) (k : Descriptor) → IsIndexOf index ks → get key_cmp index k ≡ None → is_among ks k ≡ false
absent index ks k h none =
    elim (cases_Bool (is_among ks k)) [
      | inr new ↦ new
      | inl there ↦
          let at = place_from_among ks k there in
          let found = (h k at.0).1 at.1 in
          cc (sym none ∙ found)
    ]

-- a key that has no place goes to the end
pub with_key-new : (index : BTreeMap Descriptor ℕ) (ks : Keys) (k : Descriptor) → IsIndexOf index ks → get key_cmp index k ≡ None → ks ++ k ∷ [] ≡ with_key ks k
with_key-new index ks k h none =
    let new = absent index ks k h none in
    rw new refl

-- the index of one more key
pub IsIndexOf-push : (index after : BTreeMap Descriptor ℕ) (ks : Keys) (k : Descriptor) → IsIndexOf index ks → get key_cmp index k ≡ None → Updates key_cmp index after k (Some (length ks)) → IsIndexOf after (ks ++ k ∷ [])
IsIndexOf-push index after ks k h none updates = λ j place. (to j place, from j place)
  where
    looks : (j : Descriptor) → get key_cmp after j ≡ cond (same_key k j) (Some (length ks)) (get key_cmp index j)
    looks j = updates.0 j ∙ ap (λ (b : Bool). cond b (Some (length ks)) (get key_cmp index j)) (is_eq-key_cmp k j)

    to : (j : Descriptor) (place : ℕ) → get key_cmp after j ≡ Some place → slice_get (ks ++ k ∷ []) place ≡ Some j
    to j place found =
        elim (cases_Bool (same_key k j)) [
          | inl same ↦
              let here : length ks ≡ place = cc (rw same at (sym (looks j) ∙ found)) in
              subst (λ (n : ℕ). slice_get (ks ++ k ∷ []) n ≡ Some j) here (slice_get-push ks k ∙ ap (λ (x : Descriptor). Some x) ((Decides-same_key k j).0 same))
          | inr other ↦ slice_get-append_left ks (k ∷ []) place j ((h j place).0 (rw other at (sym (looks j) ∙ found)))
        ]

    from : (j : Descriptor) (place : ℕ) → slice_get (ks ++ k ∷ []) place ≡ Some j → get key_cmp after j ≡ Some place
    from j place at =
        elim (slice_get-push_cases ks k j place at) [
          | inr last ↦
              let same = (Decides-same_key k j).1 last.1 in
              looks j ∙ rw same (ap (λ (n : ℕ). Some n) (sym last.0))
          | inl old ↦
              let found = (h j place).1 old in
              elim (cases_Bool (same_key k j)) [
                | inr other ↦ looks j ∙ rw other found
                | inl same ↦
                    let none' = subst (λ (x : Descriptor). get key_cmp index x ≡ None) ((Decides-same_key k j).0 same) none in
                    cc (sym none' ∙ found)
              ]
        ]

-- a key with two places has one
pub IsDistinct-from_index : (index : BTreeMap Descriptor ℕ) (ks : Keys) → IsIndexOf index ks → IsDistinct same_key ks
IsDistinct-from_index index ks h = IsDistinct-from_apart same_key ks apart
  where
    apart : (i j : ℕ) (d : Descriptor) → i < j → j < length ks → same_key (get_or ks i d) (get_or ks j d) ≡ false
    apart i j d lt within =
        elim (cases_Bool (same_key (get_or ks i d) (get_or ks j d))) [
          | inr other ↦ other
          | inl same ↦
              let e = (Decides-same_key (get_or ks i d) (get_or ks j d)).0 same in
              let at_i : slice_get ks i ≡ Some (get_or ks j d) = slice_get-get_or ks i d (omega arith) ∙ ap (λ (x : Descriptor). Some x) e in
              let at_j : slice_get ks j ≡ Some (get_or ks j d) = slice_get-get_or ks j d within in
              let f = (h (get_or ks j d) i).1 at_i in
              let g = (h (get_or ks j d) j).1 at_j in
              let one : i ≡ j = cc (sym f ∙ g) in
              absurd (omega arith)
        ]
