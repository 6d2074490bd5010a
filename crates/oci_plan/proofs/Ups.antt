-- The keys from which a path leads to a key, in their order, are one list.
use Rattle.std.proofs.Common.{◌≡◌, true, [], ◌∷◌, inl, inr, refl, sym, ap, subst, ◌∙◌}
use Rattle.std.specs.List.Sorted.{IsStrictlySortedBy}
use Rattle.std.specs.Ordering.{ordering_reverse}
use Rattle.std.specs.declared.cmp.Ordering.TheVariants.{Less}
use Rattle.std.proofs.lemmas.Bool.{or_cases, or_left, or_right}
use Rattle.std.proofs.lemmas.List.Elements.{All-contains}
use Rattle.std.proofs.lemmas.Map.Keys.{sorted_tail}
use Rattle.std.proofs.lemmas.Map.Views.{All-after_first}
use Rattle.oci_manifest.specs.Descriptor.{Descriptor, same_key, key_cmp, is_among}
use Rattle.oci_manifest.proofs.Keys.{Decides-same_key}
use Rattle.oci_store.proofs.KeyOrder.{key_cmp_total}
use Rattle.oci_plan.specs.Up.{UpIsOneList}
use Rattle.oci_store.proofs.Membership.{Keys, Contains-from_among, among_from_Contains}

-- of two keys at most one is below the other
not_both : (a b : Descriptor) → key_cmp a b ≡ Less → key_cmp b a ≡ Less → ⊥
not_both a b below above =
    let turned : Less ≡ ordering_reverse Less = sym above ∙ key_cmp_total.antisymm b a ∙ ap ordering_reverse below in
    cc turned

-- what stands after the first key is above it
above_first : (x k : Descriptor) (a : Keys) → IsStrictlySortedBy key_cmp (x ∷ a) → is_among a k ≡ true → key_cmp x k ≡ Less
above_first x k a sorted there = All-contains (λ q. key_cmp x q ≡ Less) a k (All-after_first key_cmp x a sorted) (Contains-from_among a k there)

-- the first keys of two lists that have the same keys are the same
same_first : (x y : Descriptor) (a b : Keys) → IsStrictlySortedBy key_cmp (x ∷ a) → IsStrictlySortedBy key_cmp (y ∷ b) → is_among (y ∷ b) x ≡ true → is_among (x ∷ a) y ≡ true → x ≡ y
same_first x y a b up over there here =
    elim (or_cases (same_key x y) (is_among a y) here) [
      | inl same ↦ (Decides-same_key x y).0 same
      | inr later ↦
          elim (or_cases (same_key y x) (is_among b x) there) [
            | inl same ↦ sym ((Decides-same_key y x).0 same)
            | inr too ↦ absurd (not_both x y (above_first x y a up later) (above_first y x b over too))
          ]
    ]

-- what comes after the first key of the one comes after that of the other
in_rest : (x k : Descriptor) (a b : Keys) → IsStrictlySortedBy key_cmp (x ∷ a) → ((k : Descriptor) → is_among (x ∷ a) k ≡ true → is_among (x ∷ b) k ≡ true) → is_among a k ≡ true → is_among b k ≡ true
in_rest x k a b up within there =
    elim (or_cases (same_key x k) (is_among b k) (within k (or_right (same_key x k) (is_among a k) there))) [
      | inl same ↦
          let below : key_cmp x x ≡ Less = above_first x x a up (subst (λ (d : Descriptor). is_among a d ≡ true) (sym ((Decides-same_key x k).0 same)) there) in
          absurd (not_both x x below below)
      | inr rest ↦ rest
    ]

same_list : (a b : Keys) → IsStrictlySortedBy key_cmp a → IsStrictlySortedBy key_cmp b → ((k : Descriptor) → is_among a k ≡ true → is_among b k ≡ true) → ((k : Descriptor) → is_among b k ≡ true → is_among a k ≡ true) → a ≡ b
same_list [] [] up over to back = refl
same_list [] (y ∷ b) up over to back = cc (back y (or_left (same_key y y) (is_among b y) ((Decides-same_key y y).1 refl)))
same_list (x ∷ a) [] up over to back = cc (to x (or_left (same_key x x) (is_among a x) ((Decides-same_key x x).1 refl)))
same_list (x ∷ a) (y ∷ b) up over to back =
    let same : x ≡ y = same_first x y a b up over (to x (or_left (same_key x x) (is_among a x) ((Decides-same_key x x).1 refl))) (back y (or_left (same_key y y) (is_among b y) ((Decides-same_key y y).1 refl))) in
    let to_same : (k : Descriptor) → is_among (x ∷ a) k ≡ true → is_among (x ∷ b) k ≡ true = λ k h. subst (λ (d : Descriptor). is_among (d ∷ b) k ≡ true) (sym same) (to k h) in
    let back_same : (k : Descriptor) → is_among (y ∷ b) k ≡ true → is_among (y ∷ a) k ≡ true = λ k h. subst (λ (d : Descriptor). is_among (d ∷ a) k ≡ true) same (back k h) in
    let rest : a ≡ b = same_list a b (sorted_tail key_cmp x a up) (sorted_tail key_cmp y b over) (λ k. in_rest x k a b up to_same) (λ k. in_rest y k b a over back_same) in
    ap (λ (d : Descriptor). d ∷ a) same ∙ ap (λ (ks : Keys). y ∷ ks) rest

pub up_is_one_list : UpIsOneList
up_is_one_list graph k depth a b up over =
    same_list a b up.order over.order (λ from h. among_from_Contains b from ((over.each from).1 ((up.each from).0 (Contains-from_among a from h))))
    (λ from h. among_from_Contains a from ((up.each from).1 ((over.each from).0 (Contains-from_among b from h))))
