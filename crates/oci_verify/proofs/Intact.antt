-- What a check of a file finds.
use Rattle.std.proofs.Common.{◌≡◌, ℕ, ◌+◌, ◌-◌, ◌<◌, ◌≤◌, true, false, inl, inr, List, [], ◌++◌, length, get_or, slice_get, option_map, Option, Some, None, Result, Err, is_some, refl, sym, ap, subst, ◌∙◌, arith}
use Rattle.std.specs.Prelude.{IsSome, drop, min}
use Rattle.std.specs.Bool.{Decides}
use Rattle.std.specs.Option.{unwrap_or}
use Rattle.std.proofs.lemmas.Bool.{cases_Bool}
use Rattle.std.proofs.lemmas.Bool.Decides.{Decides-and, Decides-eqb}
use Rattle.std.proofs.lemmas.List.{length-append, length-drop, length-take}
use Rattle.std.specs.Map.{keys_of}
use Rattle.std.proofs.lemmas.Option.{get_or_from_slice_get, slice_get-get_or, slice_get-map, slice_get_within}
use Rattle.oci_digest.proofs.DigestLemmas.{Decides-verifies}
use Rattle.oci_digest.specs.Digest.{Verifies}
use Rattle.oci_digest.specs.declared.hasher.Hasher.{Hasher}
use Rattle.oci_layout_store.specs.Blobs.{blob_at, blob_path, stored, IsFetch, IsNotOf}
use Rattle.oci_dir.specs.Device.{Device, File}
use Rattle.oci_layout_store.proofs.Stored.{has_key-stored, value_at-stored}
use Rattle.oci_manifest.specs.Descriptor.{Descriptor, Matches}
use Rattle.oci_store.specs.Graph.{Node}
use Rattle.oci_store.specs.Keyed.{has_key, value_at}
use Rattle.oci_store.specs.Parts.{IsPart, IsReading}
use Rattle.oci_store.specs.declared.fault.FetchFault.{FetchFault}
use Rattle.oci_store.specs.declared.fault.FetchFault.TheVariants as fetch
use Rattle.oci_store.proofs.Leaves.{own-end}
use Rattle.oci_store.proofs.Lookups.{has_key-from_Contains}
use Rattle.oci_verify.specs.Fault.{IsCheckFault, IsHeldFault, IsReadFault}
use Rattle.oci_verify.specs.Intact.{is_match, is_matching, HasFile, HasFiles}

pub Decides-is_match : (k : Descriptor) (bytes : List ℕ) → Decides (is_match k bytes) (Matches k bytes)
Decides-is_match k bytes = Decides-and _ _ (Decides-eqb (length bytes) k.size) (Decides-verifies k.digest bytes)

-- a file that cannot match
pub matching-not : (file : File) (k : Descriptor) → (Matches k (blob_at file k.digest) → ⊥) → is_matching file k ≡ false
matching-not file k not_so =
    elim (cases_Bool (is_matching file k)) [
      | inl is ↦ absurd (not_so ((Decides-is_match k (blob_at file k.digest)).0 is))
      | inr is_not ↦ is_not
    ]

-- what is stored under a key is its file
stored_is : (file : File) (graph : List Node) (k : Descriptor) (bytes : List ℕ) → value_at (stored file graph) k ≡ Some bytes → bytes ≡ blob_at file k.digest
stored_is file graph k bytes is =
    let held : has_key graph k ≡ true = sym (has_key-stored file graph k) ∙ ap is_some is in
    cc (sym is ∙ value_at-stored file graph k held)

-- a file whose bytes were read and match
pub matching-read : (dir : Device) (graph : List Node) (k : Descriptor) (bytes : List ℕ) → Matches k bytes → (dir.is_honest → value_at (stored dir.file graph) k ≡ Some bytes) → HasFile dir k → is_matching dir.file k ≡ true
matching-read dir graph k bytes matching own has =
    (Decides-is_match k (blob_at dir.file k.digest)).1 (subst (λ (xs : List ℕ). Matches k xs) (stored_is dir.file graph k bytes (own has.0)) matching)

some_or : (o : Option (List ℕ)) → IsSome o → o ≡ Some (unwrap_or o [])
some_or None h = cc h
some_or (Some bytes) h = refl

-- a file that a read found wrong
pub matching-wrong : (dir : Device) (k : Descriptor) → (dir.is_honest → IsNotOf k (dir.file (blob_path k.digest))) → HasFile dir k → is_matching dir.file k ≡ false
matching-wrong dir k wrong has =
    matching-not dir.file k (λ matching. wrong has.0 (blob_at dir.file k.digest) (some_or (dir.file (blob_path k.digest)) has.1) matching)

-- what was refused as corrupt, whatever the answer has otherwise
pub as_read : (e : FetchFault) → ◌≡◌ {A = Result Unit FetchFault} (Err e) (Err fetch.Corrupt) → ◌≡◌ {A = Result (List ℕ) FetchFault} (Err e) (Err fetch.Corrupt)
as_read e h = let same : e ≡ fetch.Corrupt = cc h in ap (λ (x : FetchFault). Err x) same

-- why a read of a file failed
pub read_fault : (dir : Device) (graph : List Node) (k : Descriptor) (wrong : Type 0) (e : FetchFault) → IsFetch dir graph k wrong (Err e) → IsReadFault dir graph k e
read_fault dir graph k wrong fetch.NotFound is = sym (has_key-stored dir.file graph k) ∙ is.not_found.0 refl
read_fault dir graph k wrong fetch.Corrupt is = tt
read_fault dir graph k wrong fetch.Device is = is.device refl
read_fault dir graph k wrong fetch.Memory is = tt

-- a file that is longer than its key's size
pub matching-long : (dir : Device) (graph : List Node) (k : Descriptor) (left most : ℕ) (part : List ℕ) → left ≤ k.size → left < length part
    → (dir.is_honest → IsPart (value_at (stored dir.file graph) k) (k.size - left) most part) → HasFile dir k → is_matching dir.file k ≡ false
matching-long dir graph k left most part le long part_of has =
    let p = part_of has.0 in
    let bytes = p.0 in
    let from : ℕ = k.size - left in
    let whole : bytes ≡ blob_at dir.file k.digest = stored_is dir.file graph k bytes p.1 in
    let size : length part ≡ min most (length (drop from bytes)) = ap length p.2 ∙ length-take most (drop from bytes) in
    let rest : length (drop from bytes) ≡ length bytes - from = length-drop from bytes in
    matching-not dir.file k (λ matching. (
    let total : length bytes ≡ k.size = ap length whole ∙ matching.0 in
    absurd (omega (arith, le, long, size, rest, total))
    ))

-- a file of which all bytes were read, and do not match
pub matching-end : (dir : Device) (graph : List Node) (k : Descriptor) (hasher : Hasher) (drafted : List ℕ → Type 0) (left most : ℕ) (m part : List ℕ)
    → IsReading hasher drafted k dir.is_honest (value_at (stored dir.file graph) k) left m
    → (dir.is_honest → IsPart (value_at (stored dir.file graph) k) (k.size - left) most part) → length part < most
    → ((left - length part ≡ 0) → Verifies k.digest (m ++ part) → ⊥) → HasFile dir k → is_matching dir.file k ≡ false
matching-end dir graph k hasher drafted left most m part h part_of short wrong has =
    let found = value_at (stored dir.file graph) k in
    let place : k.size - left ≡ length m = (let size = h.size in omega (arith, size)) in
    let all : found ≡ Some (m ++ part) = own-end found m part most (h.begins has.0) (subst (λ (n : ℕ). IsPart found n most part) place (part_of has.0)) short in
    let whole : m ++ part ≡ blob_at dir.file k.digest = stored_is dir.file graph k (m ++ part) all in
    let e : length (m ++ part) ≡ length m + length part = length-append m part in
    matching-not dir.file k (λ matching. (
    let total : length (m ++ part) ≡ k.size = ap length whole ∙ matching.0 in
    let size = h.size in
    wrong (omega (arith, e, total, size)) (subst (λ (xs : List ℕ). Verifies k.digest xs) (sym whole) matching.1)
    ))

-- the file of a held key is there
pub file_at : (dir : Device) (graph : List Node) (i : ℕ) (k : Descriptor) → i < length graph → option_map (λ (n : Node). n.0) (slice_get graph i) ≡ Some k → HasFiles dir graph → HasFile dir k
file_at dir graph i k lt at has =
    let d : Node = (k, []) in
    let same : (get_or graph i d).0 ≡ k = cc (sym (ap (λ (o : Option Node). option_map (λ (n : Node). n.0) o) (slice_get-get_or graph i d lt)) ∙ at) in
    (has.0, subst (λ (x : Descriptor). IsSome (dir.file (blob_path x.digest))) same (has.1 i d lt))

-- a key at a place is held
held_at : (graph : List Node) (i : ℕ) (k : Descriptor) → option_map (λ (n : Node). n.0) (slice_get graph i) ≡ Some k → has_key graph k ≡ true
held_at graph i k at =
    let there : slice_get (keys_of graph) i ≡ Some k = slice_get-map (λ (n : Node). n.0) graph i ∙ at in
    has_key-from_Contains graph k (i, slice_get_within (keys_of graph) i k there, get_or_from_slice_get (keys_of graph) i k k there)

-- why the file of a held key was not checked
pub held_fault : (dir : Device) (graph : List Node) (i : ℕ) (k : Descriptor) (e : FetchFault) → option_map (λ (n : Node). n.0) (slice_get graph i) ≡ Some k → IsCheckFault dir graph k e → IsHeldFault dir e
held_fault dir graph i k fetch.NotFound at is = cc (sym is ∙ held_at graph i k at)
held_fault dir graph i k fetch.Corrupt at is = is
held_fault dir graph i k fetch.Device at is = is
held_fault dir graph i k fetch.Memory at is = tt
