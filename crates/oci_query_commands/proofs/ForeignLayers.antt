-- Layers that are not to be distributed, and their files.
use Rattle.std.proofs.Common.{◌≡◌, ℕ, ◌+◌, ◌-◌, ◌<◌, ◌≤◌, Bool, true, false, not, inl, inr, List, [], ◌++◌, filter, length, take, drop, Option, Some, None, refl, sym, ap, subst, ◌∙◌, arith}
use Rattle.std.specs.Prelude.{⊤, ◌↔◌, Contains}
use Rattle.std.specs.BTreeSet.{BTreeSet}
use Rattle.std.specs.List.Sorted.{IsStrictlySortedBy}
use Rattle.std.proofs.lemmas.Bool.{cases_Bool}
use Rattle.std.proofs.lemmas.List.{length-append}
use Rattle.std.proofs.lemmas.List.Kept.{IsStrictlySortedBy-filter}
use Rattle.std.proofs.lemmas.Option.{same_Some}
use Rattle.oci_digest.specs.Digest.{Verifies}
use Rattle.oci_digest.specs.declared.hasher.Hasher.{Hasher}
use Rattle.oci_dir.specs.Device.{File, part_in}
use Rattle.oci_layout_store.specs.Blobs.{stored}
use Rattle.oci_layout_store.proofs.Loose.{no_element}
use Rattle.oci_manifest.specs.Descriptor.{Descriptor, key_cmp}
use Rattle.oci_store.specs.Graph.{Node}
use Rattle.oci_store.specs.Parts.{IsPart, IsReading}
use Rattle.oci_store.proofs.Leaves.{own-end}
use Rattle.oci_store.proofs.Membership.{Contains-from_among, among_from_Contains, among-filter, among_filter_from}
use Rattle.oci_verify.specs.Intact.{is_match}
use Rattle.oci_verify.proofs.Intact.{Decides-is_match}
use Rattle.oci_prune.specs.Aside.{is_one_of, AreAside}
use Rattle.oci_verify.specs.Corrupt.{is_asked}
use Rattle.oci_query_commands.specs.Foreign.{has_wrong_file, is_wrong, AreCorruptForeign, ListsForeign}

-- ---- one file

-- a draft that keeps nothing
abbrev pub Unkept : List ℕ → Type 0
Unkept bytes = ⊤

same_bool : (a b : Bool) → (a ≡ true → b ≡ true) → (b ≡ true → a ≡ true) → a ≡ b
same_bool true true to from = refl
same_bool true false to from = sym (to refl)
same_bool false true to from = from refl
same_bool false false to from = refl

-- a part that was read
pub part_is : (found : Option (List ℕ)) (from most : ℕ) (part : List ℕ) → Some part ≡ part_in found from most → IsPart found from most part
part_is None from most part h = cc h
part_is (Some bytes) from most part h = (bytes, refl, same_Some part (take most (drop from bytes)) h)

-- a file of which all bytes were read
pub wrong_end : (k : Descriptor) (honest : Type 0) (found : Option (List ℕ)) (hasher : Hasher) (left most : ℕ) (m part : List ℕ) (whole : Bool)
    → IsReading hasher Unkept k honest found left m → (honest → IsPart found (k.size - left) most part) → length part ≤ left → length part < most
    → ((whole ≡ true) ↔ ((left - length part ≡ 0) × Verifies k.digest (m ++ part))) → honest → not whole ≡ is_wrong k found
wrong_end k honest found hasher left most m part whole h part_of le short right o =
    let size = h.size in
    let place : k.size - left ≡ length m = omega (arith, size) in
    let all : found ≡ Some (m ++ part) = own-end found m part most (h.begins o) (subst (λ (n : ℕ). IsPart found n most part) place (part_of o)) short in
    let e : length (m ++ part) ≡ length m + length part = length-append m part in
    let same : whole ≡ is_match k (m ++ part) = same_bool whole (is_match k (m ++ part))
    (λ is. let p = right.0 is in let none = p.0 in (Decides-is_match k (m ++ part)).1 (omega (arith, e, none, size, le), p.1))
    (λ is. let p = (Decides-is_match k (m ++ part)).0 is in let total = p.0 in right.1 (omega (arith, e, total, size), p.1)) in
    ap not same ∙ sym (ap (is_wrong k) all)

-- ---- the wrong ones

same_test : (asked : Option (BTreeSet Descriptor)) (k : Descriptor) → is_one_of asked k ≡ is_asked asked k
same_test None k = refl
same_test (Some keys) k = refl

-- of the layers that are listed, those whose files are wrong
pub corrupt_among : (asked : Option (BTreeSet Descriptor)) (file : File) (graph : List Node) (layers wrong : List Descriptor) → AreAside (is_one_of asked) (stored file graph) layers → IsStrictlySortedBy key_cmp layers → wrong ≡ filter (has_wrong_file file) layers
    → AreCorruptForeign (is_asked asked) file graph wrong
corrupt_among asked file graph layers wrong aside order is =
    subst (λ (ks : List Descriptor). AreCorruptForeign (is_asked asked) file graph ks) (sym is) (record {
      each = λ k. (
        λ there.
            let p = among-filter test layers k (among_from_Contains (filter test layers) k there) in
            let a = (aside k).0 (Contains-from_among layers k p.1) in
            ((a.0, sym (same_test asked a.0) ∙ a.1, a.2), p.0),
        λ h. (let a = h.0 in
            Contains-from_among (filter test layers) k (among_filter_from test layers k h.1 (among_from_Contains layers k ((aside k).1 (a.0, same_test asked a.0 ∙ a.1, a.2))))),
      );
      order = IsStrictlySortedBy-filter key_cmp test layers order;
    })
  where
    test : Descriptor → Bool
    test = has_wrong_file file

-- where none is found, no file is wrong
pub right_foreign : (is_asked : Descriptor → Bool) (file : File) (graph : List Node) (keys : List Descriptor) → AreCorruptForeign is_asked file graph keys → keys ≡ [] → (from k : Descriptor) → is_asked from ≡ true → ListsForeign file graph from k → has_wrong_file file k ≡ false
right_foreign is_asked file graph keys are none from k asked lists =
    elim (cases_Bool (has_wrong_file file k)) [
      | inl wrong ↦ absurd (no_element k (subst (λ (ks : List Descriptor). Contains ks k) none ((are.each k).1 ((from, asked, lists), wrong))))
      | inr right ↦ right
    ]
