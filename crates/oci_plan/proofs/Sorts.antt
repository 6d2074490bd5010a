-- Keys in order of which none stands twice.
use Rattle.std.proofs.Common.{◌≡◌, ℕ, ◌+◌, ◌<◌, false, [], length, get_or, refl, sym, ap, ◌∙◌, arith}
use Rattle.std.specs.List.{IsDistinct}
use Rattle.std.specs.List.Sorted.{IsSorted, IsStrictlySortedBy}
use Rattle.std.specs.Ordering.{is_eq, is_lt, ordering_reverse}
use Rattle.std.specs.declared.cmp.Ordering.{Ordering}
use Rattle.std.specs.declared.cmp.Ordering.TheVariants.{Less, Equal, Greater}
use Rattle.std.proofs.lemmas.Map.Keys.{apart_from_distinct, sorted_from_all_adjacent}
use Rattle.oci_manifest.specs.Descriptor.{Descriptor, same_key, key_cmp}
use Rattle.oci_store.proofs.KeyOrder.{key_cmp_total, is_eq-key_cmp}
use Rattle.oci_store.proofs.Membership.{Keys}

-- what is not above, and not equal, is below
below : (o : Ordering) → is_lt (ordering_reverse o) ≡ false → is_eq o ≡ false → o ≡ Less
below Less up apart = refl
below Equal up apart = cc apart
below Greater up apart = cc up

pub IsStrictlySortedBy-from_sort : (ks : Keys) → IsSorted key_cmp ks → IsDistinct same_key ks → IsStrictlySortedBy key_cmp ks
IsStrictlySortedBy-from_sort ks up distinct = sorted_from_all_adjacent key_cmp_total ks any rises
  where
    any : Descriptor
    any = record { media_type = []; digest = []; size = 0 }

    rises : (i : ℕ) → i + 1 < length ks → key_cmp (get_or ks i any) (get_or ks (i + 1) any) ≡ Less
    rises i lt =
        let a : Descriptor = get_or ks i any in
        let b : Descriptor = get_or ks (i + 1) any in
        let turned : is_lt (ordering_reverse (key_cmp a b)) ≡ false = ap is_lt (sym (key_cmp_total.antisymm b a)) ∙ up i any (omega arith) lt in
        let apart : is_eq (key_cmp a b) ≡ false = is_eq-key_cmp a b ∙ apart_from_distinct same_key ks i (i + 1) any distinct (omega arith) lt in
        below (key_cmp a b) turned apart
