-- What is left behind, from what was found in a source.
use Rattle.std.proofs.Common.{◌≡◌, Bool, true, false, not, List, filter, is_some, sym, subst}
use Rattle.std.specs.Prelude.{◌↔◌, Contains}
use Rattle.std.specs.List.Sorted.{IsStrictlySortedBy}
use Rattle.std.proofs.lemmas.Bool.{not-true, not_from_false}
use Rattle.std.proofs.lemmas.List.Kept.{IsStrictlySortedBy-filter}
use Rattle.oci_manifest.specs.Descriptor.{Descriptor, is_among, key_cmp}
use Rattle.oci_store.specs.Graph.{Node}
use Rattle.oci_store.specs.Keyed.{has_key}
use Rattle.oci_store.specs.State.{State}
use Rattle.oci_store.proofs.Membership.{Keys, Contains-from_among, among_from_Contains, among-filter, among_filter_from}
use Rattle.oci_dir.specs.Device.{File}
use Rattle.oci_layout_store.specs.Blobs.{blob_path}
use Rattle.oci_prune.specs.Aside.{ArePassedOver, IsPassedOver}
use Rattle.oci_copy_commands.specs.Behind.{ArePassedLayers}

-- those of the keys with a property that are not there are left
pub left_by : (is_there : Descriptor → Bool) (P : Descriptor → Type 0) (all left : Keys) → ((k : Descriptor) → Contains all k ↔ P k) → left ≡ filter (λ (k : Descriptor). not (is_there k)) all → (k : Descriptor) → Contains left k ↔ (P k × (is_there k ≡ false))
left_by is_there P all left each is k = (to, back)
  where
    is_away : Descriptor → Bool
    is_away j = not (is_there j)

    to : Contains left k → P k × (is_there k ≡ false)
    to there =
        let among = among-filter is_away all k (subst (λ (ks : Keys). is_among ks k ≡ true) is (among_from_Contains left k there)) in
        ((each k).0 (Contains-from_among all k among.1), not-true (is_there k) among.0)

    back : P k × (is_there k ≡ false) → Contains left k
    back p =
        Contains-from_among left k
        (subst (λ (ks : Keys). is_among ks k ≡ true) (sym is) (among_filter_from is_away all k (not_from_false (is_there k) p.1) (among_from_Contains all k ((each k).1 p.0))))

-- those that are not held are left
pub left_of : (P : Descriptor → Type 0) (held : List Node) (all left : Keys) → ((k : Descriptor) → Contains all k ↔ P k) → left ≡ filter (λ (k : Descriptor). not (has_key held k)) all
    → (k : Descriptor) → Contains left k ↔ (P k × (has_key held k ≡ false))
left_of P held all left each is = left_by (has_key held) P all left each is

-- of what is passed over, those whose file is not there are the layers that were not copied
pub passed_left : (source : State) (roots passed left : Keys) (file : File) → ArePassedOver source.nodes source.entries roots passed → left ≡ filter (λ (k : Descriptor). not (is_some (file (blob_path k.digest)))) passed → ArePassedLayers source roots file left
passed_left source roots passed left file are is = record {
  each = left_by has_file (IsPassedOver source.nodes source.entries roots) passed left are.each is;
  order = subst (λ (ks : Keys). IsStrictlySortedBy key_cmp ks) (sym is) (IsStrictlySortedBy-filter key_cmp (λ (k : Descriptor). not (has_file k)) passed are.order);
}
  where
    has_file : Descriptor → Bool
    has_file k = is_some (file (blob_path k.digest))
