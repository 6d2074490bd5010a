-- A set of keys beside the list of the same keys.
use Rattle.std.proofs.Common.{◌≡◌, Bool, true, false, cond, ◌||◌, List, [], ◌∷◌, ◌++◌, refl, sym, ap, ◌∙◌}
use Rattle.std.proofs.Common.{rules}
use Rattle.std.specs.BTreeSet.{BTreeSet, contains, Updates}
use Rattle.std.specs.Cmp.Rules.{comparing}
use Rattle.std.specs.Ordering.{is_eq}
use Rattle.oci_manifest.specs.Descriptor.{Descriptor, same_key, is_among, key_cmp}
use Rattle.oci_manifest.specs.Reading.{Remembers}

-- keys that the order ties are equal
tied : (a b : Descriptor) → is_eq (key_cmp a b) ≡ same_key a b
tied a b = search (comparing, rules)

is_among-push : (k q : Descriptor) (ks : List Descriptor) → is_among (ks ++ k ∷ []) q ≡ cond (same_key k q) true (is_among ks q)
is_among-push k q [] = elim (same_key k q) as (λ b. (b || false) ≡ cond b true false) [ true ↦ refl | false ↦ refl ]
is_among-push k q (j ∷ ks) =
    let rest : is_among (ks ++ k ∷ []) q ≡ cond (same_key k q) true (is_among ks q) = is_among-push k q ks in
    elim (same_key j q) as (λ b. (b || is_among (ks ++ k ∷ []) q) ≡ cond (same_key k q) true (b || is_among ks q)) [
      | true ↦ elim (same_key k q) as (λ b. true ≡ cond b true true) [ true ↦ refl | false ↦ refl ]
      | false ↦ rest
    ]

-- a set that takes the key that goes to the list's end has the keys of the longer list
pub remembers_more : (seen after : BTreeSet Descriptor) (kept : List Descriptor) (k : Descriptor) → Remembers seen kept → Updates key_cmp seen after k true → Remembers after (kept ++ k ∷ [])
remembers_more seen after kept k h u = λ q. (u.0 q ∙ ap (λ (b : Bool). cond b true (contains key_cmp seen q)) (tied k q) ∙ ap (λ (b : Bool). cond (same_key k q) true b) (h q) ∙ sym (is_among-push k q kept))
