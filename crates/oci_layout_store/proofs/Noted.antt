-- The digests that the files of folders are named by.
use Rattle.std.proofs.Common.{◌≡◌, ℕ, zero, suc, ◌+◌, ◌-◌, ◌<◌, inl, inr, Bool, true, false, cond, List, [], ◌∷◌, ◌++◌, take, codes, length, get_or, Option, Some, None, is_some, Equal, String, Global, refl, sym, ap, subst, ◌∙◌, arith}
use Rattle.std.specs.Prelude.{Contains, IsSome, string_bytes}
use Rattle.std.specs.BTreeMap.{BTreeMap, Updates, IsOrdered, is_at}
use Rattle.std.specs.Cmp.Lexicographic.{slice_cmp}
use Rattle.std.specs.Ordering.{nat_cmp, is_eq}
use Rattle.std.proofs.lemmas.Bool.{cases_Bool}
use Rattle.std.proofs.lemmas.Cmp.{nat_list_cmp_total}
use Rattle.std.proofs.lemmas.List.{take_more, map-append}
use Rattle.std.proofs.lemmas.List.Elements.{All-contains, Contains-append_cases, Contains-append_left, Contains-append_right, Contains-push}
use Rattle.std.proofs.lemmas.Map.Text.{is_eq-slice_cmp}
use Rattle.std.proofs.lemmas.Map.Views.{btree_map_get_iff}
use Rattle.std.proofs.lemmas.Slice.Eq.{bytes_eq-Decides}
use Rattle.oci_digest.specs.Algorithm.{Algorithm, sha256, sha512, name_of, IsEncodedBy}
use Rattle.oci_digest.specs.Digest.{IsDigest}
use Rattle.oci_digest.specs.Grammar.{is_lower_hex, IsLowerHex}
use Rattle.oci_layout_store.specs.Blobs.{blob_path}
use Rattle.oci_dir.specs.Device.{File}
use Rattle.oci_dir.specs.Prunable.{by_name, path_in, HasLength, IsName, ListsFolder}
use Rattle.oci_layout_store.specs.BlobFiles.{size_in, AreBlobs, IsNamedBy, Notes}

abbrev Sizes : Type 0
Sizes = BTreeMap (List ℕ) ℕ

only_one : {X : Type 0} (x y : X) → Contains (x ∷ []) y → x ≡ y
only_one x y (zero, lt, e) = e
only_one x y (suc i, lt, e) = absurd (omega (arith, lt))

same_text : (x y : List ℕ) → slice_cmp nat_cmp x y ≡ Equal → x ≡ y
same_text x y h = (bytes_eq-Decides x y).0 (sym (is_eq-slice_cmp x y) ∙ ap is_eq h)

-- ---- one file
pub Notes-none : (algorithm name : List ℕ) (size : ℕ) (sizes : Sizes) → (IsDigest (algorithm ++ name) → ⊥) → Notes algorithm ((name, size) ∷ []) sizes sizes
Notes-none algorithm name size sizes not = record {
  only = λ d s at. inl at;
  all = λ d s named. (let is : (name, size) ≡ (named.1, s) = only_one (name, size) (named.1, s) named.3 in
      let text : d ≡ algorithm ++ name = named.2 ∙ ap (λ (p : List ℕ × ℕ). algorithm ++ p.0) (sym is) in
      absurd (not (subst IsDigest text named.0)));
  stay = λ d h. h;
}

found_by : (b : Bool) (size : ℕ) (o : Option ℕ) → IsSome o → IsSome (cond b (Some size) o)
found_by true size o h = refl
found_by false size o h = h

pub Notes-one : (algorithm name : List ℕ) (size : ℕ) (old new : Sizes) (digest : List ℕ) → digest ≡ algorithm ++ name → IsDigest digest → Updates (slice_cmp nat_cmp) old new digest (Some size) → Notes algorithm ((name, size) ∷ []) old new
Notes-one algorithm name size old new digest text is updates = record {
  only = λ d s at. elim (cases_Bool (is_at (slice_cmp nat_cmp digest) d)) [
    | inl here ↦
        let same : digest ≡ d = (bytes_eq-Decides digest d).0 (sym (is_eq-slice_cmp digest d) ∙ here) in
        let value : Some size ≡ Some s = ap (λ (b : Bool). cond b (Some size) (size_in old d)) (sym here) ∙ sym (updates.0 d) ∙ at in
        let length_is : size ≡ s = cc value in
        inr (subst IsDigest same is, name, sym same ∙ text, subst (λ (n : ℕ). Contains {X = List ℕ × ℕ} ((name, size) ∷ []) (name, n)) length_is (Contains-push {X = List ℕ × ℕ} [] (name, size)))
    | inr elsewhere ↦ inl (ap (λ (b : Bool). cond b (Some size) (size_in old d)) (sym elsewhere) ∙ sym (updates.0 d) ∙ at)
  ];
  all = λ d s named. (let one : (name, size) ≡ (named.1, s) = only_one (name, size) (named.1, s) named.3 in
      let same : d ≡ digest = named.2 ∙ ap (λ (p : List ℕ × ℕ). algorithm ++ p.0) (sym one) ∙ sym text in
      subst (λ (x : List ℕ). IsSome (size_in new x)) (sym same) (ap is_some updates.1));
  stay = λ d h. subst (λ (o : Option ℕ). IsSome o) (sym (updates.0 d)) (found_by (is_at (slice_cmp nat_cmp digest) d) size (size_in old d) h);
}

-- ---- several files
pub Notes-nil : (algorithm : List ℕ) (sizes : Sizes) → Notes algorithm [] sizes sizes
Notes-nil algorithm sizes = record { only = λ d s at. inl at; all = λ d s named. absurd (omega (arith, named.3.1)); stay = λ d h. h }

named_left : (algorithm : List ℕ) (xs ys : List (List ℕ × ℕ)) (d : List ℕ) (s : ℕ) → IsNamedBy algorithm xs d s → IsNamedBy algorithm (xs ++ ys) d s
named_left algorithm xs ys d s (is, name, text, there) = (is, name, text, Contains-append_left xs ys (name, s) there)

named_right : (algorithm : List ℕ) (xs ys : List (List ℕ × ℕ)) (d : List ℕ) (s : ℕ) → IsNamedBy algorithm ys d s → IsNamedBy algorithm (xs ++ ys) d s
named_right algorithm xs ys d s (is, name, text, there) = (is, name, text, Contains-append_right xs ys (name, s) there)

pub Notes-append : (algorithm : List ℕ) (xs ys : List (List ℕ × ℕ)) (old mid new : Sizes) → Notes algorithm xs old mid → Notes algorithm ys mid new → Notes algorithm (xs ++ ys) old new
Notes-append algorithm xs ys old mid new first second = record {
  only = λ d s at. elim (second.only d s at) [
    | inl earlier ↦ elim (first.only d s earlier) [ inl before ↦ inl before | inr named ↦ inr (named_left algorithm xs ys d s named) ]
    | inr named ↦ inr (named_right algorithm xs ys d s named)
  ];
  all = λ d s named. elim (Contains-append_cases xs ys (named.1, s) named.3) [
    | inl left ↦ second.stay d (first.all d s (named.0, named.1, named.2, left))
    | inr right ↦ second.all d s (named.0, named.1, named.2, right)
  ];
  stay = λ d h. second.stay d (first.stay d h);
}

pub by_name-more : (files : List (String Global × ℕ)) (i : ℕ) (file : String Global × ℕ) → i < length files → file ≡ get_or files i file → by_name (take (i + 1) files) ≡ by_name (take i files) ++ by_name (file ∷ [])
by_name-more files i file lt is =
    ap by_name (take_more files i file lt) ∙ ap (λ (f : String Global × ℕ). by_name (take i files ++ f ∷ [])) (sym is) ∙ map-append (λ (f : String Global × ℕ). (string_bytes f.0, f.1)) (take i files) (file ∷ [])

-- ---- the two folders
path-256 : (name : List ℕ) → blob_path (codes "sha256:" ++ name) ≡ path_in (codes "blobs/sha256") name
unfolding blob_path
path-256 name = refl

path-512 : (name : List ℕ) → blob_path (codes "sha512:" ++ name) ≡ path_in (codes "blobs/sha512") name
unfolding blob_path
path-512 name = refl

-- hexadecimal digits are a name
slash_apart : is_lower_hex 47 ≡ true → ⊥
slash_apart h = cc h

IsName-digits : (count : ℕ) (text : List ℕ) → 0 < count → IsLowerHex count text → IsName text
IsName-digits count text some hex = record {
  is_full = λ empty. (let none : length text ≡ 0 = ap (λ (t : List ℕ). length t) empty in omega (arith, none, hex.len, some));
  is_one = λ slash. slash_apart (All-contains (λ (c : ℕ). is_lower_hex c ≡ true) text 47 hex.chars slash);
}

-- the file of a name, as that of its digest
named_length : (file : File) (algorithm folder : List ℕ) (files : List (List ℕ × ℕ)) → ((name : List ℕ) → blob_path (algorithm ++ name) ≡ path_in folder name) → ListsFolder file folder files
    → (d : List ℕ) (s : ℕ) → IsNamedBy algorithm files d s → HasLength file (blob_path d) s
named_length file algorithm folder files paths lists d s (is, name, text, there) =
    let path : blob_path d ≡ path_in folder name = ap blob_path text ∙ paths name in
    subst (λ (p : List ℕ). HasLength file p s) (sym path) ((lists name s).0 there).1

named_by : (file : File) (algorithm folder : List ℕ) (files : List (List ℕ × ℕ)) → ((name : List ℕ) → blob_path (algorithm ++ name) ≡ path_in folder name) → ListsFolder file folder files
    → (d : List ℕ) (s : ℕ) (name : List ℕ) → IsDigest d → IsName name → d ≡ algorithm ++ name → HasLength file (blob_path d) s → IsNamedBy algorithm files d s
named_by file algorithm folder files paths lists d s name is is_name text there =
    let path : blob_path d ≡ path_in folder name = ap blob_path text ∙ paths name in
    (is, name, text, (lists name s).1 (is_name, subst (λ (p : List ℕ). HasLength file p s) path there))

one_length : (file : File) (path : List ℕ) (s t : ℕ) → HasLength file path s → HasLength file path t → s ≡ t
one_length file path s t (bytes, at, is) (others, again, other) =
    let both : Some bytes ≡ Some others = sym at ∙ again in
    let same : bytes ≡ others = cc both in
    sym is ∙ ap (λ (b : List ℕ). length b) same ∙ other

nothing_in : (sizes : Sizes) (d : List ℕ) (s : ℕ) → sizes.entries ≡ [] → size_in sizes d ≡ Some s → ⊥
nothing_in sizes d s empty at = cc (rw empty at at)

value_of : (o : Option ℕ) → IsSome o → (s : ℕ) × (o ≡ Some s)
value_of None h = cc h
value_of (Some s) h = (s, refl)

pub AreBlobs-noted : (file : File) (first second : List (List ℕ × ℕ)) (none mid sizes : Sizes) → none.entries ≡ [] → ListsFolder file (codes "blobs/sha256") first → ListsFolder file (codes "blobs/sha512") second
    → Notes (codes "sha256:") first none mid → Notes (codes "sha512:") second mid sizes → IsOrdered (slice_cmp nat_cmp) sizes → AreBlobs file sizes.entries
AreBlobs-noted file first second none mid sizes empty lists256 lists512 notes256 notes512 order =
    let iff = btree_map_get_iff nat_list_cmp_total same_text sizes order in
    let lengths : (d : List ℕ) (s : ℕ) → size_in sizes d ≡ Some s → IsDigest d × HasLength file (blob_path d) s = λ d s at. elim (notes512.only d s at) [
      | inl earlier ↦
          elim (notes256.only d s earlier) [
            | inl before ↦ absurd (nothing_in none d s empty before)
            | inr named ↦ (named.0, named_length file (codes "sha256:") (codes "blobs/sha256") first path-256 lists256 d s named)
          ]
      | inr named ↦ (named.0, named_length file (codes "sha512:") (codes "blobs/sha512") second path-512 lists512 d s named)
    ] in
    let there : (d : List ℕ) (s : ℕ) (is : IsDigest d) → HasLength file (blob_path d) s → IsSome (size_in sizes d) = λ d s is long. found_at d s is long is.0 is.1 is.2 is.3 in
    record {
      each = λ d s. (
        λ c. lengths d s ((iff d s).1 c),
        λ both. (let value = value_of (size_in sizes d) (there d s both.0 both.1) in
            let same : value.0 ≡ s = one_length file (blob_path d) value.0 s (lengths d value.0 value.1).1 both.1 in
            (iff d s).0 (value.1 ∙ ap Some same)),
      );
      order = order;
    }
  where
    found_at : (d : List ℕ) (s : ℕ) → IsDigest d → HasLength file (blob_path d) s → (a : Algorithm) (encoded : List ℕ) → d ≡ name_of a ++ 58 ∷ encoded → IsEncodedBy a encoded → IsSome (size_in sizes d)
    found_at d s is long sha256 encoded text hex =
        notes512.stay d (notes256.all d s (named_by file (codes "sha256:") (codes "blobs/sha256") first path-256 lists256 d s encoded is (IsName-digits 64 encoded (omega arith) hex) text long))
    found_at d s is long sha512 encoded text hex =
        notes512.all d s (named_by file (codes "sha512:") (codes "blobs/sha512") second path-512 lists512 d s encoded is (IsName-digits 128 encoded (omega arith) hex) text long)
