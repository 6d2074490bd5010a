-- Equal keys, and each key once.
use Rattle.std.proofs.Common.{◌≡◌, ℕ, Bool, true, false, cond, not, ◌&&◌, inl, inr, List, [], ◌∷◌, ◌++◌, Decides, eqb, refl, sym, ap, ◌∙◌, append-nil}
use Rattle.std.specs.List.{filter, IsDistinct, AllByRecursion}
use Rattle.std.proofs.lemmas.Bool.{and_parts, eqb-true, cases_Bool}
use Rattle.std.proofs.lemmas.Bool.Decides.{Decides-eqb}
use Rattle.std.proofs.lemmas.List.Elements.{filter-append}
use Rattle.std.proofs.lemmas.Map.Views.{any-filter_same}
use Rattle.std.proofs.lemmas.Slice.Eq.{bytes_eq-Decides}
use Rattle.std.specs.Str.{bytes_eq}
use Rattle.oci_manifest.specs.Descriptor.{Descriptor, same_key, is_among}
use Rattle.oci_manifest.specs.Manifest.{first_places, is_distributed, distributed_once}
use Rattle.oci_manifest.specs.Reading.{with_successor}

pub Decides-same_key : (a b : Descriptor) → Decides (same_key a b) (a ≡ b)
Decides-same_key a b = (
  λ h.
      let p = and_parts (bytes_eq a.media_type b.media_type && bytes_eq a.digest b.digest) (eqb a.size b.size) h in
      let q = and_parts (bytes_eq a.media_type b.media_type) (bytes_eq a.digest b.digest) p.0 in
      let m : a.media_type ≡ b.media_type = (bytes_eq-Decides a.media_type b.media_type).0 q.0 in
      let d : a.digest ≡ b.digest = (bytes_eq-Decides a.digest b.digest).0 q.1 in
      let s : a.size ≡ b.size = eqb-true a.size b.size p.1 in
      ap (λ (x : List ℕ). record { media_type = x; digest = a.digest; size = a.size }) m
      ∙ ap (λ (x : List ℕ). record { media_type = b.media_type; digest = x; size = a.size }) d
      ∙ ap (λ (x : ℕ). record { media_type = b.media_type; digest = b.digest; size = x }) s,
  λ e.
      let m = (bytes_eq-Decides a.media_type b.media_type).1 (ap (λ (k : Descriptor). k.media_type) e) in
      let d = (bytes_eq-Decides a.digest b.digest).1 (ap (λ (k : Descriptor). k.digest) e) in
      let s = (Decides-eqb a.size b.size).1 (ap (λ (k : Descriptor). k.size) e) in
      rw (m, d, s) refl,
)

abbrev others : Descriptor → List Descriptor → List Descriptor
others k ks = filter (λ other. not (same_key k other)) ks

-- a key that is there already goes nowhere, and a new one to the end
abbrev pub with_key : List Descriptor → Descriptor → List Descriptor
with_key ks k = cond (is_among ks k) ks (ks ++ k ∷ [])

others-with_same : (j k : Descriptor) (ks : List Descriptor) → j ≡ k → others j (with_key ks k) ≡ others j ks
others-with_same j k ks e =
    let gone : same_key j k ≡ true = (Decides-same_key j k).1 e in
    elim (is_among ks k) as (λ b. others j (cond b ks (ks ++ k ∷ [])) ≡ others j ks) [
      | true ↦ refl
      | false ↦ filter-append (λ other. not (same_key j other)) ks (k ∷ []) ∙ rw gone (append-nil (others j ks))
    ]

-- the others than j have k where all have it
pub is_among-others : (j k : Descriptor) (ks : List Descriptor) → same_key j k ≡ false → is_among (others j ks) k ≡ is_among ks k
is_among-others j k ks h = any-filter_same (λ other. same_key other k) (λ other. not (same_key j other)) true (λ o e. ap (λ (x : Descriptor). not (same_key j x)) ((Decides-same_key o k).0 e) ∙ ap not h) ks

others-with_other : (j k : Descriptor) (ks : List Descriptor) → same_key j k ≡ false → others j (with_key ks k) ≡ with_key (others j ks) k
others-with_other j k ks h =
    elim (is_among ks k) as (λ b. others j (cond b ks (ks ++ k ∷ [])) ≡ cond b (others j ks) (others j ks ++ k ∷ [])) [
      | true ↦ refl
      | false ↦ filter-append (λ other. not (same_key j other)) ks (k ∷ []) ∙ rw h refl
    ] ∙ ap (λ (b : Bool). cond b (others j ks) (others j ks ++ k ∷ [])) (sym (is_among-others j k ks h))

with_key-cons : (j k : Descriptor) (ks : List Descriptor) → same_key j k ≡ false → j ∷ with_key ks k ≡ with_key (j ∷ ks) k
with_key-cons j k ks h = rw h (elim (is_among ks k) as (λ b. j ∷ cond b ks (ks ++ k ∷ []) ≡ cond b (j ∷ ks) (j ∷ (ks ++ k ∷ []))) [ true ↦ refl | false ↦ refl ])

pub first_places-push : (ks : List Descriptor) (k : Descriptor) → first_places (ks ++ k ∷ []) ≡ with_key (first_places ks) k
first_places-push [] k = refl
first_places-push (j ∷ ks) k =
    elim (cases_Bool (same_key j k)) [
      | inl same ↦
          let e = (Decides-same_key j k).0 same in
          ap (λ (t : List Descriptor). j ∷ others j t) (first_places-push ks k)
          ∙ ap (λ (t : List Descriptor). j ∷ t) (others-with_same j k (first_places ks) e) ∙ rw same refl
      | inr other ↦
          ap (λ (t : List Descriptor). j ∷ others j t) (first_places-push ks k)
          ∙ ap (λ (t : List Descriptor). j ∷ t) (others-with_other j k (first_places ks) other)
          ∙ with_key-cons j k (others j (first_places ks)) other
    ]

after_all : (far there : Bool) (ks : List Descriptor) (k : Descriptor) → cond far (cond there ks (ks ++ k ∷ [])) ks ≡ cond (far && not there) (ks ++ k ∷ []) ks
after_all true true ks k = refl
after_all true false ks k = refl
after_all false there ks k = refl

-- one more key
pub distributed_once_push : (ks : List Descriptor) (k : Descriptor) → distributed_once (ks ++ k ∷ []) ≡ with_successor (distributed_once ks) k
distributed_once_push ks k =
    ap first_places (filter-append is_distributed ks (k ∷ []))
    ∙ elim (is_distributed k) as (λ b. first_places (filter is_distributed ks ++ cond b (k ∷ []) []) ≡ cond b (with_key (distributed_once ks) k) (distributed_once ks)) [
      | true ↦ first_places-push (filter is_distributed ks) k
      | false ↦ ap first_places (append-nil (filter is_distributed ks))
    ] ∙ after_all (is_distributed k) (is_among (distributed_once ks) k) (distributed_once ks) k

-- ---- no key twice

all-filter : (P : Descriptor → Type 0) (p : Descriptor → Bool) (ks : List Descriptor) → AllByRecursion P ks → AllByRecursion P (filter p ks)
all-filter P p [] h = tt
all-filter P p (k ∷ ks) h = elim (p k) as (λ b. AllByRecursion P (cond b (k ∷ filter p ks) (filter p ks))) [ true ↦ (h.0, all-filter P p ks h.1) | false ↦ all-filter P p ks h.1 ]

pub IsDistinct-filter : (p : Descriptor → Bool) (ks : List Descriptor) → IsDistinct same_key ks → IsDistinct same_key (filter p ks)
unfolding IsDistinct
IsDistinct-filter p [] h = tt
IsDistinct-filter p (k ∷ ks) h = elim (p k) as (λ b. IsDistinct same_key (cond b (k ∷ filter p ks) (filter p ks))) [ true ↦ (all-filter (λ y. same_key k y ≡ false) p ks h.0, IsDistinct-filter p ks h.1) | false ↦ IsDistinct-filter p ks h.1 ]

others-differ : (k : Descriptor) (ks : List Descriptor) → AllByRecursion (λ y. same_key k y ≡ false) (others k ks)
others-differ k [] = tt
others-differ k (j ∷ ks) =
    elim (cases_Bool (same_key k j)) [
      | inl same ↦ rw same (others-differ k ks)
      | inr other ↦ rw other (other, others-differ k ks)
    ]

-- no key stands twice at the first places
pub IsDistinct-first_places : (ks : List Descriptor) → IsDistinct same_key (first_places ks)
unfolding IsDistinct
IsDistinct-first_places [] = tt
IsDistinct-first_places (k ∷ ks) = (others-differ k (first_places ks), IsDistinct-filter (λ other. not (same_key k other)) (first_places ks) (IsDistinct-first_places ks))
