-- What a device has under keys after a put.
use Rattle.std.proofs.Common.{◌≡◌, ℕ, true, false, inl, inr, Bor, List, [], ◌∷◌, ◌++◌, Bool, cond, Option, Some, None, is_some, refl, sym, ap, subst, ◌∙◌}
use Rattle.std.specs.Map.{lookup}
use Rattle.std.specs.Option.{unwrap_or, option_copied}
use Rattle.std.specs.Prelude.{IfSome}
use Rattle.std.specs.Ordering.{is_eq, nat_cmp}
use Rattle.std.specs.Cmp.Lexicographic.{slice_cmp}
use Rattle.std.proofs.lemmas.List.{map-append}
use Rattle.std.proofs.lemmas.Map.Text.{is_eq-slice_cmp}
use Rattle.std.proofs.lemmas.Slice.Eq.{bytes_eq-Decides}
use Rattle.std.proofs.lemmas.Bool.{cases_Bool}
use Rattle.oci_manifest.specs.Descriptor.{Descriptor, same_key}
use Rattle.oci_manifest.proofs.Keys.{Decides-same_key}
use Rattle.oci_store.specs.Content.{Entry, Matches}
use Rattle.test_support.specs.Files.{Files, file_at, written, Changes}
use Rattle.oci_store.specs.Keyed.{value_at, has_key}
use Rattle.oci_store.specs.Push.{AgreesAt}

same_answer : {X Y : Type 0} (b : Bool) (x : X) (y : Y) (o : Option X) (p : Option Y) → is_some o ≡ is_some p → is_some (cond b (Some x) o) ≡ is_some (cond b (Some y) p)
same_answer true x y o p h = refl
same_answer false x y o p h = h

pub has_key-written : (files : Files) (graph : List Entry) (k : Descriptor) → has_key (written files graph) k ≡ has_key graph k
has_key-written files [] k = refl
has_key-written files (e ∷ graph) k = same_answer (same_key e.0 k) (file_at files e.0.digest) e.1 (value_at (written files graph) k) (value_at graph k) (has_key-written files graph k)

-- under a key that is there stand the bytes of its digest's file
pub value_at-written : (files : Files) (graph : List Entry) (k : Descriptor) → has_key graph k ≡ true → value_at (written files graph) k ≡ Some (file_at files k.digest)
value_at-written files [] k h = cc h
value_at-written files (e ∷ graph) k h =
    elim (cases_Bool (same_key e.0 k)) [
      | inl same ↦ rw same (ap (λ (other : Descriptor). Some (file_at files other.digest)) ((Decides-same_key e.0 k).0 same))
      | inr apart ↦ rw apart (value_at-written files graph k (rw apart at h))
    ]

-- what a look-up of a digest's file gives stands under the digest's keys that are there
pub value_at-from_file : (files : Files) (graph : List Entry) (k : Descriptor) (found : Option (List ℕ)) → found ≡ lookup (λ other. is_eq (slice_cmp nat_cmp k.digest other)) files
    → has_key (written files graph) k ≡ true → value_at (written files graph) k ≡ Some (unwrap_or found [])
value_at-from_file files graph k found e h =
    value_at-written files graph k (sym (has_key-written files graph k) ∙ h) ∙ ap (λ (o : Option (List ℕ)). Some (unwrap_or o [])) (sym e)

-- what was pushed matches its key
pub matches_copied : (k : Descriptor) (r : Option (Bor (List ℕ))) (found : Option (List ℕ)) → IfSome r (λ x. Matches k x.now) → option_copied r ≡ found → IfSome found (Matches k)
matches_copied k None found h e = subst (λ (o : Option (List ℕ)). IfSome o (Matches k)) e tt
matches_copied k (Some x) found h e = subst (λ (o : Option (List ℕ)). IfSome o (Matches k)) e h

stays : (old new : Files) (digest bytes q : List ℕ) → Changes old new digest bytes → (digest ≡ q → file_at old q ≡ bytes) → file_at new q ≡ file_at old q
stays old new digest bytes q changes agrees =
    elim (cases_Bool (is_eq (slice_cmp nat_cmp digest q))) [
      | inl same ↦
          let e : digest ≡ q = (bytes_eq-Decides digest q).0 (sym (is_eq-slice_cmp digest q) ∙ same) in
          ap (λ (o : Option (List ℕ)). unwrap_or o []) (rw same at (changes q)) ∙ sym (agrees e)
      | inr apart ↦ ap (λ (o : Option (List ℕ)). unwrap_or o []) (rw apart at (changes q))
    ]

here : (old new : Files) (digest bytes : List ℕ) → Changes old new digest bytes → file_at new digest ≡ bytes
here old new digest bytes changes =
    let same : is_eq (slice_cmp nat_cmp digest digest) ≡ true = is_eq-slice_cmp digest digest ∙ (bytes_eq-Decides digest digest).1 refl in
    ap (λ (o : Option (List ℕ)). unwrap_or o []) (rw same at (changes digest))

has_key-more : (e : Entry) (graph : List Entry) (k : Descriptor) → has_key graph k ≡ true → has_key (e ∷ graph) k ≡ true
has_key-more e graph k h =
    elim (cases_Bool (same_key e.0 k)) [
      | inl same ↦ rw same refl
      | inr apart ↦ rw apart h
    ]

has_key-first : (e : Entry) (graph : List Entry) → has_key (e ∷ graph) e.0 ≡ true
has_key-first e graph =
    let same : same_key e.0 e.0 ≡ true = (Decides-same_key e.0 e.0).1 refl in
    rw same refl

all_stay : (old new : Files) (k : Descriptor) (bytes : List ℕ) (graph : List Entry) → Changes old new k.digest bytes
    → ((other : Descriptor) → has_key graph other ≡ true → other.digest ≡ k.digest → file_at old other.digest ≡ bytes) → written new graph ≡ written old graph
all_stay old new k bytes [] changes agree = refl
all_stay old new k bytes (e ∷ graph) changes agree =
    ap (λ (x : List ℕ). (e.0, x) ∷ written new graph) (stays old new k.digest bytes e.0.digest changes (λ same. agree e.0 (has_key-first e graph) (sym same)))
    ∙ ap (λ (rest : List Entry). (e.0, file_at old e.0.digest) ∷ rest) (all_stay old new k bytes graph changes (λ other h same. agree other (has_key-more e graph other h) same))

-- a put of bytes that each key of the digest has leaves what stands under the keys
pub written-put : (old new : Files) (k : Descriptor) (bytes : List ℕ) (graph : List Entry) → Changes old new k.digest bytes → AgreesAt (written old graph) k bytes
    → written new graph ≡ written old graph
written-put old new k bytes graph changes agrees =
    all_stay old new k bytes graph changes (λ other h same. agrees other (file_at old other.digest) (value_at-written old graph other h) same)

-- the same with an entry of these bytes more
pub written-pushed : (old new : Files) (k : Descriptor) (bytes : List ℕ) (graph grown : List Entry) → Changes old new k.digest bytes → AgreesAt (written old graph) k bytes
    → grown ≡ graph ++ (k, bytes) ∷ [] → written new grown ≡ written old graph ++ (k, bytes) ∷ []
written-pushed old new k bytes graph grown changes agrees e =
    ap (written new) e ∙ map-append (λ (x : Entry). (x.0, file_at new x.0.digest)) graph ((k, bytes) ∷ [])
    ∙ ap (λ (all : List Entry). all ++ (k, file_at new k.digest) ∷ []) (written-put old new k bytes graph changes agrees)
    ∙ ap (λ (x : List ℕ). written old graph ++ (k, x) ∷ []) (here old new k.digest bytes changes)

-- the same of a sound device, which stays sound
pub written-sound : (old new : Files) (k : Descriptor) (bytes : List ℕ) (graph grown : List Entry) → Changes old new k.digest bytes → AgreesAt (written old graph) k bytes
    → written old graph ≡ graph → grown ≡ graph ++ (k, bytes) ∷ [] → written new grown ≡ grown
written-sound old new k bytes graph grown changes agrees sound e =
    written-pushed old new k bytes graph grown changes agrees e ∙ ap (λ (all : List Entry). all ++ (k, bytes) ∷ []) sound ∙ sym e
