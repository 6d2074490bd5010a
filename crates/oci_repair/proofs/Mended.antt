-- Files that are put one after the other.
use Rattle.std.proofs.Common.{◌≡◌, ℕ, ◌+◌, ◌<◌, true, Bool, cond, inl, inr, List, [], ◌∷◌, ◌++◌, map, length, take, drop, get_or, Option, Some, None, Result, Err, refl, sym, ap, subst, ◌∙◌, arith}
use Rattle.std.specs.Prelude.{◌≢◌, Contains}
use Rattle.std.specs.BTreeMap.{BTreeMap, Updates, is_at}
use Rattle.std.specs.Cmp.Lexicographic.{slice_cmp}
use Rattle.std.specs.List.{All}
use Rattle.std.specs.Ordering.{nat_cmp}
use Rattle.std.specs.Str.{bytes_eq}
use Rattle.std.proofs.lemmas.Bool.{cases_Bool}
use Rattle.std.proofs.lemmas.List.{map-append, take-append-drop, take_more}
use Rattle.std.proofs.lemmas.List.Elements.{All-push, All-weaker, Contains-append_left, Contains-push}
use Rattle.std.proofs.lemmas.Map.Text.{is_eq-slice_cmp}
use Rattle.std.proofs.lemmas.Slice.Eq.{bytes_eq-Decides}
use Rattle.oci_digest.specs.Digest.{Verifies}
use Rattle.oci_digest.proofs.DigestLemmas.{IsDigest-from_Verifies}
use Rattle.oci_layout_store.specs.Blobs.{blob_path}
use Rattle.oci_dir.specs.Device.{Device, File}
use Rattle.oci_dir.specs.declared.fault.DirFault.{DirFault}
use Rattle.oci_layout_store.specs.Layout.{LayoutState, SameMemory}
use Rattle.oci_layout_store.proofs.Stored.{blob_path-injective}
use Rattle.oci_manifest.specs.Descriptor.{Descriptor}
use Rattle.oci_repair.specs.Fault.{IsMendFault}
use Rattle.oci_repair.specs.Repaired.{size_in, ArePut, HasMatch, IsOldOrMatch, IsOldOrOf}
use Rattle.oci_repair.specs.Sources.{device_in, AnyFails}
use Rattle.oci_repair.specs.declared.fault.RepairFault.{RepairFault}
use Rattle.oci_repair.specs.declared.fault.RepairFault.TheVariants as fault
use Rattle.oci_repair.specs.declared.source.RepairSource.{RepairSource}

stays : (old new : File) (k : Descriptor) (q : List ℕ) → bytes_eq (blob_path k.digest) q ≡ true → new q ≡ old q → HasMatch old k → HasMatch new k
stays old new k q at same h =
    let place : blob_path k.digest ≡ q = (bytes_eq-Decides (blob_path k.digest) q).0 at in
    (h.0, subst (λ (p : List ℕ). new p ≡ old p) (sym place) same ∙ h.1, h.2)

-- one file more
pub old_or_more : (old mid new : File) (keys : List Descriptor) (k : Descriptor) → IsOldOrMatch old mid keys → IsOldOrOf mid new k → IsOldOrMatch old new (keys ++ k ∷ [])
old_or_more old mid new keys k were is q = elim (is q) [
  | inl same ↦ elim (were q) [
    | inl was ↦ inl (same ∙ was)
    | inr m ↦ inr (m.0, Contains-append_left keys (k ∷ []) m.0 m.1, m.2, stays mid new m.0 q m.2 same m.3)
  ]
  | inr here ↦ inr (k, Contains-push keys k, here.0, here.1)
]

-- the digests that were put before, after another one was
pub put_stays : (old new : File) (put : BTreeMap (List ℕ) ℕ) (k : Descriptor) (digest : List ℕ) (size : ℕ) → ArePut old put → IsOldOrOf old new k → HasMatch new k → digest ≢ k.digest → size_in put digest ≡ Some size
    → (bytes : List ℕ) × (new (blob_path digest) ≡ Some bytes) × (length bytes ≡ size) × Verifies digest bytes
put_stays old new put k digest size were is has other at =
    let w = were digest size at in
    elim (is (blob_path digest)) [
      | inl same ↦ (w.0, same ∙ w.1, w.2, w.3)
      | inr here ↦
          let paths : blob_path k.digest ≡ blob_path digest = (bytes_eq-Decides (blob_path k.digest) (blob_path digest)).0 here.0 in
          absurd (other (sym (blob_path-injective k.digest digest (IsDigest-from_Verifies k.digest has.0 has.2.1) (IsDigest-from_Verifies digest w.0 w.3) paths)))
    ]

abbrev Sizes : Type 0
Sizes = BTreeMap (List ℕ) ℕ

-- a digest is noted
pub mended_put : (old new : File) (put after : Sizes) (k : Descriptor) → ArePut old put → IsOldOrOf old new k → HasMatch new k → Updates (slice_cmp nat_cmp) put after k.digest (Some k.size) → ArePut new after
mended_put old new put after k were is has updates digest size at =
    elim (cases_Bool (is_at (slice_cmp nat_cmp k.digest) digest)) [
      | inl here ↦
          let same : k.digest ≡ digest = (bytes_eq-Decides k.digest digest).0 (sym (is_eq-slice_cmp k.digest digest) ∙ here) in
          let value : Some k.size ≡ Some size = ap (λ (b : Bool). cond b (Some k.size) (size_in put digest)) (sym here) ∙ sym (updates.0 digest) ∙ at in
          let size_is : k.size ≡ size = cc value in
          subst (λ (d : List ℕ). (bytes : List ℕ) × (new (blob_path d) ≡ Some bytes) × (length bytes ≡ size) × Verifies d bytes) same (has.0, has.1, has.2.0 ∙ size_is, has.2.1)
      | inr elsewhere ↦
          put_stays old new put k digest size were is has
          (λ same. cc (sym elsewhere ∙ is_eq-slice_cmp k.digest digest ∙ (bytes_eq-Decides k.digest digest).1 (sym same)))
          (ap (λ (b : Bool). cond b (Some k.size) (size_in put digest)) (sym elsewhere) ∙ sym (updates.0 digest) ∙ at)
    ]

-- and those that were noted before stay
pub noted_stay : (put after : Sizes) (k : Descriptor) → size_in put k.digest ≡ None → Updates (slice_cmp nat_cmp) put after k.digest (Some k.size) → (digest : List ℕ) (size : ℕ) → size_in put digest ≡ Some size → size_in after digest ≡ Some size
noted_stay put after k none updates digest size at =
    elim (cases_Bool (is_at (slice_cmp nat_cmp k.digest) digest)) [
      | inl here ↦
          let same : k.digest ≡ digest = (bytes_eq-Decides k.digest digest).0 (sym (is_eq-slice_cmp k.digest digest) ∙ here) in
          cc (sym none ∙ ap (size_in put) same ∙ at)
      | inr elsewhere ↦ updates.0 digest ∙ ap (λ (b : Bool). cond b (Some k.size) (size_in put digest)) elsewhere ∙ at
    ]

-- ---- the faults

pub mend_fault : (keys : List Descriptor) (P Q : Type 0) → (P → Q) → (e : RepairFault) → IsMendFault keys P e → IsMendFault keys Q e
mend_fault keys P Q more fault.Source h = more h
mend_fault keys P Q more fault.Memory h = tt
mend_fault keys P Q more fault.Layout h = tt
mend_fault keys P Q more (fault.Changed k) h = h

pub wider_fault : (keys all : List Descriptor) (P : Type 0) → ((k : Descriptor) → Contains keys k → Contains all k) → (e : RepairFault) → IsMendFault keys P e → IsMendFault all P e
wider_fault keys all P more fault.Source h = h
wider_fault keys all P more fault.Memory h = tt
wider_fault keys all P more fault.Layout h = tt
wider_fault keys all P more (fault.Changed k) h = more k h

pub wider : (old new : File) (keys all : List Descriptor) → ((k : Descriptor) → Contains keys k → Contains all k) → IsOldOrMatch old new keys → IsOldOrMatch old new all
wider old new keys all more is q = elim (is q) [ inl same ↦ inl same | inr m ↦ inr (m.0, more m.0 m.1, m.2, m.3) ]

-- ---- all of them

-- the size of its digest's file is noted
abbrev pub IsNoted : Sizes → Descriptor × ℕ → Type 0
IsNoted put m = size_in put m.0.digest ≡ Some m.0.size

pub all_match : (file : File) (put : Sizes) (mends : List (Descriptor × ℕ)) → ArePut file put → All (IsNoted put) mends → All (λ (m : Descriptor × ℕ). HasMatch file m.0) mends
all_match file put mends are noted = All-weaker (IsNoted put) (λ (m : Descriptor × ℕ). HasMatch file m.0) (λ m at. (let p = are m.0.digest m.0.size at in (p.0, p.1, (p.2, p.3)))) mends noted

pub all_noted : (put after : Sizes) (mends : List (Descriptor × ℕ)) (m : Descriptor × ℕ) → ((digest : List ℕ) (size : ℕ) → size_in put digest ≡ Some size → size_in after digest ≡ Some size) → All (IsNoted put) mends → IsNoted after m → All (IsNoted after) (mends ++ m ∷ [])
all_noted put after mends m stay noted here = All-push (IsNoted after) mends m (All-weaker (IsNoted put) (IsNoted after) (λ x at. stay x.0.digest x.0.size at) mends noted) here

abbrev pub firsts : List (Descriptor × ℕ) → List Descriptor
firsts mends = map (λ (m : Descriptor × ℕ). m.0) mends

-- the keys before a place, and the one at it
pub next_keys : (mends : List (Descriptor × ℕ)) (i : ℕ) (m : Descriptor × ℕ) → i < length mends → get_or mends i m ≡ m → (k : Descriptor) → Contains (firsts (take i mends) ++ m.0 ∷ []) k → Contains (firsts mends) k
next_keys mends i m lt at k there =
    let more : take (i + 1) mends ≡ take i mends ++ m ∷ [] = take_more mends i m lt ∙ ap (λ (x : Descriptor × ℕ). take i mends ++ x ∷ []) at in
    let keys : firsts (take (i + 1) mends) ≡ firsts (take i mends) ++ m.0 ∷ [] = ap firsts more ∙ map-append (λ (x : Descriptor × ℕ). x.0) (take i mends) (m ∷ []) in
    let whole : firsts (take (i + 1) mends) ++ firsts (drop (i + 1) mends) ≡ firsts mends = sym (map-append (λ (x : Descriptor × ℕ). x.0) (take (i + 1) mends) (drop (i + 1) mends)) ∙ ap firsts (take-append-drop (i + 1) mends) in
    subst (λ (ks : List Descriptor). Contains ks k) whole (Contains-append_left (firsts (take (i + 1) mends)) (firsts (drop (i + 1) mends)) k (subst (λ (ks : List Descriptor). Contains ks k) (sym keys) there))

-- the source at a place
pub any_fails : {F A : Type 0} (folder : F → Device) (archive : A → Device) (sources : List (RepairSource F A)) (i : ℕ) (s : RepairSource F A) → i < length sources → s ≡ get_or sources i s → (device_in folder archive s).fails_reads ≡ true → AnyFails folder archive sources
any_fails folder archive sources i s lt at fails = (s, (i, lt, sym at), fails)

-- a fault, whatever the answer has otherwise
pub err_as : {X Y : Type 0} (e d : DirFault) → ◌≡◌ {A = Result X DirFault} (Err e) (Err d) → ◌≡◌ {A = Result Y DirFault} (Err e) (Err d)
err_as e d h = let same : e ≡ d = cc h in ap (λ (x : DirFault). Err x) same

-- what is the same twice is the same
pub same_then : {D : Type 0} (old mid new : LayoutState D) → SameMemory old mid → SameMemory mid new → SameMemory old new
same_then old mid new first next = record {
  graph = next.graph ∙ first.graph;
  tags = next.tags ∙ first.tags;
  opened = next.opened ∙ first.opened;
}
