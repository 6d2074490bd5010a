-- What a directory has under keys after a put.
use Rattle.std.proofs.Common.{◌≡◌, ℕ, true, false, inl, inr, List, [], ◌∷◌, ◌++◌, take, drop, codes, Bool, cond, Option, Some, is_some, refl, sym, ap, subst, ◌∙◌}
use Rattle.std.specs.Prelude.{IsSome}
use Rattle.std.specs.List.{All}
use Rattle.std.specs.Option.{unwrap_or}
use Rattle.std.specs.Str.{bytes_eq}
use Rattle.std.proofs.lemmas.List.{map-append}
use Rattle.std.proofs.lemmas.List.Elements.{All-head, All-tail, All-nil, All-cons, All-push, All-weaker}
use Rattle.std.proofs.lemmas.Slice.Eq.{bytes_eq-Decides}
use Rattle.oci_digest.specs.Algorithm.{Algorithm, sha256, sha512, name_of}
use Rattle.oci_digest.specs.Digest.{IsDigest}
use Rattle.std.specs.Map.{keys_of}
use Rattle.std.proofs.lemmas.Bool.{cases_Bool}
use Rattle.oci_manifest.specs.Descriptor.{Descriptor, IsKey, same_key}
use Rattle.oci_manifest.proofs.Keys.{Decides-same_key}
use Rattle.oci_store.specs.Content.{Entry, IsContent, successors_in}
use Rattle.oci_store.specs.Graph.{Node, node_of, nodes_of}
use Rattle.oci_store.specs.Keyed.{value_at, has_key}
use Rattle.oci_store.specs.Push.{AgreesAt}
use Rattle.oci_store.proofs.Contents.{IsNew, IsContent-pushed}
use Rattle.oci_dir.specs.Device.{File, Puts, Same}
use Rattle.oci_layout_store.specs.Blobs.{blob_path, blob_at, stored, IsSound}

abbrev pub HasDigest : Node → Type 0
HasDigest n = IsDigest n.0.digest

-- keys have digests
pub digests_of : (graph : List Node) → All IsKey (keys_of graph) → All HasDigest graph
digests_of [] are = All-nil HasDigest
digests_of (n ∷ graph) are = All-cons HasDigest n graph (All-head IsKey n.0 (keys_of graph) are).is_digest (digests_of graph (All-tail IsKey n.0 (keys_of graph) are))

-- the file of a digest by this algorithm with this encoded part
abbrev path_by : Algorithm → List ℕ → List ℕ
path_by a encoded = codes "blobs/" ++ name_of a ++ codes "/" ++ encoded

-- the file of a digest lies in the folder of its algorithm
blob_path-parts : (a : Algorithm) (encoded : List ℕ) → blob_path (name_of a ++ 58 ∷ encoded) ≡ path_by a encoded
unfolding blob_path
blob_path-parts sha256 encoded = refl
blob_path-parts sha512 encoded = refl

-- folders of different algorithms are different
folder-injective : (a b : Algorithm) → bytes_eq (codes "blobs/" ++ name_of a) (codes "blobs/" ++ name_of b) ≡ true → a ≡ b
folder-injective sha256 sha256 h = refl
folder-injective sha256 sha512 h = cc h
folder-injective sha512 sha256 h = cc h
folder-injective sha512 sha512 h = refl

folder_of : (a : Algorithm) (encoded : List ℕ) → take 12 (path_by a encoded) ≡ codes "blobs/" ++ name_of a
folder_of sha256 encoded = refl
folder_of sha512 encoded = refl

encoded_in : (a : Algorithm) (encoded : List ℕ) → drop 13 (path_by a encoded) ≡ encoded
encoded_in sha256 encoded = refl
encoded_in sha512 encoded = refl

path_by-injective : (a b : Algorithm) (x y : List ℕ) → path_by a x ≡ path_by b y → name_of a ++ 58 ∷ x ≡ name_of b ++ 58 ∷ y
path_by-injective a b x y same =
    let folders = sym (folder_of a x) ∙ ap (take 12) same ∙ folder_of b y in
    let algorithm : a ≡ b = folder-injective a b ((bytes_eq-Decides (codes "blobs/" ++ name_of a) (codes "blobs/" ++ name_of b)).1 folders) in
    let encoded : x ≡ y = sym (encoded_in a x) ∙ ap (drop 13) same ∙ encoded_in b y in
    rw (algorithm, encoded) refl

-- paths of different digests are different
pub blob_path-injective : (d e : List ℕ) → IsDigest d → IsDigest e → blob_path d ≡ blob_path e → d ≡ e
blob_path-injective d e is_d is_e same =
    let left = ap blob_path is_d.2 ∙ blob_path-parts is_d.0 is_d.1 in
    let right = ap blob_path is_e.2 ∙ blob_path-parts is_e.0 is_e.1 in
    is_d.2 ∙ path_by-injective is_d.0 is_e.0 is_d.1 is_e.1 (sym left ∙ same ∙ right) ∙ sym is_e.2

same_answer : {X Y : Type 0} (b : Bool) (x : X) (y : Y) (o : Option X) (p : Option Y) → is_some o ≡ is_some p → is_some (cond b (Some x) o) ≡ is_some (cond b (Some y) p)
same_answer true x y o p h = refl
same_answer false x y o p h = h

pub has_key-stored : (file : File) (graph : List Node) (k : Descriptor) → has_key (stored file graph) k ≡ has_key graph k
has_key-stored file [] k = refl
has_key-stored file (n ∷ graph) k = same_answer (same_key n.0 k) (blob_at file n.0.digest) n.1 (value_at (stored file graph) k) (value_at graph k) (has_key-stored file graph k)

-- under a key that is there stand the bytes of its digest's file
pub value_at-stored : (file : File) (graph : List Node) (k : Descriptor) → has_key graph k ≡ true → value_at (stored file graph) k ≡ Some (blob_at file k.digest)
value_at-stored file [] k h = cc h
value_at-stored file (n ∷ graph) k h =
    elim (cases_Bool (same_key n.0 k)) [
      | inl same ↦ rw same (ap (λ (other : Descriptor). Some (blob_at file other.digest)) ((Decides-same_key n.0 k).0 same))
      | inr apart ↦ rw apart (value_at-stored file graph k (rw apart at h))
    ]

-- what the file of a key that is there holds stands under the key
pub value_at-read : (file : File) (graph : List Node) (k : Descriptor) (bytes : List ℕ) → has_key graph k ≡ true → file (blob_path k.digest) ≡ Some bytes → value_at (stored file graph) k ≡ Some bytes
value_at-read file graph k bytes h read = value_at-stored file graph k h ∙ ap (λ (o : Option (List ℕ)). Some (unwrap_or o [])) read

-- the file of another digest stays, and that of this digest has the bytes
stays : (old new : File) (d bytes e : List ℕ) → IsDigest d → IsDigest e → Puts old new (blob_path d) bytes → (e ≡ d → blob_at old e ≡ bytes) → blob_at new e ≡ blob_at old e
stays old new d bytes e is_d is_e puts agrees =
    elim (cases_Bool (bytes_eq (blob_path d) (blob_path e))) [
      | inl same ↦
          let digest : d ≡ e = blob_path-injective d e is_d is_e ((bytes_eq-Decides (blob_path d) (blob_path e)).0 same) in
          ap (λ (o : Option (List ℕ)). unwrap_or o []) (rw same at (puts (blob_path e))) ∙ sym (agrees (sym digest))
      | inr apart ↦ ap (λ (o : Option (List ℕ)). unwrap_or o []) (rw apart at (puts (blob_path e)))
    ]

here : (old new : File) (path bytes : List ℕ) → Puts old new path bytes → new path ≡ Some bytes
here old new path bytes puts =
    let same : bytes_eq path path ≡ true = (bytes_eq-Decides path path).1 refl in
    rw same at (puts path)

pub has_key-more : (n : Node) (graph : List Node) (k : Descriptor) → has_key graph k ≡ true → has_key (n ∷ graph) k ≡ true
has_key-more n graph k h = elim (cases_Bool (same_key n.0 k)) [ inl same ↦ rw same refl | inr apart ↦ rw apart h ]

pub has_key-first : (n : Node) (graph : List Node) → has_key (n ∷ graph) n.0 ≡ true
has_key-first n graph = let same : same_key n.0 n.0 ≡ true = (Decides-same_key n.0 n.0).1 refl in rw same refl

all_stay : (old new : File) (k : Descriptor) (bytes : List ℕ) (graph : List Node) → IsDigest k.digest → All HasDigest graph → Puts old new (blob_path k.digest) bytes
    → ((other : Descriptor) → has_key graph other ≡ true → other.digest ≡ k.digest → blob_at old other.digest ≡ bytes) → stored new graph ≡ stored old graph
all_stay old new k bytes [] is digests puts agree = refl
all_stay old new k bytes (n ∷ graph) is digests puts agree =
    ap (λ (x : List ℕ). (n.0, x) ∷ stored new graph) (stays old new k.digest bytes n.0.digest is (All-head HasDigest n graph digests) puts (agree n.0 (has_key-first n graph)))
    ∙ ap (λ (rest : List Entry). (n.0, blob_at old n.0.digest) ∷ rest)
    (all_stay old new k bytes graph is (All-tail HasDigest n graph digests) puts (λ other h same. agree other (has_key-more n graph other h) same))

-- a put of bytes that each key of the digest has leaves what stands under the keys
pub stored-put : (old new : File) (k : Descriptor) (bytes : List ℕ) (graph : List Node) → IsDigest k.digest → All HasDigest graph → Puts old new (blob_path k.digest) bytes
    → AgreesAt (stored old graph) k bytes → stored new graph ≡ stored old graph
stored-put old new k bytes graph is digests puts agrees =
    all_stay old new k bytes graph is digests puts (λ other h same. agrees other (blob_at old other.digest) (value_at-stored old graph other h) same)

-- the same with a node of these bytes more
pub stored-pushed : (old new : File) (k : Descriptor) (bytes : List ℕ) (ks : List Descriptor) (graph grown : List Node) → IsDigest k.digest → All HasDigest graph
    → Puts old new (blob_path k.digest) bytes → AgreesAt (stored old graph) k bytes → grown ≡ graph ++ (k, ks) ∷ [] → stored new grown ≡ stored old graph ++ (k, bytes) ∷ []
stored-pushed old new k bytes ks graph grown is digests puts agrees e =
    ap (stored new) e ∙ map-append (λ (n : Node). (n.0, blob_at new n.0.digest)) graph ((k, ks) ∷ [])
    ∙ ap (λ (all : List Entry). all ++ (k, blob_at new k.digest) ∷ []) (stored-put old new k bytes graph is digests puts agrees)
    ∙ ap (λ (o : Option (List ℕ)). stored old graph ++ (k, unwrap_or o []) ∷ []) (here old new (blob_path k.digest) bytes puts)

-- a directory in which nothing changed
pub stored-same : (old new : File) (graph : List Node) → Same old new → stored new graph ≡ stored old graph
stored-same old new [] same = refl
stored-same old new (n ∷ graph) same =
    ap (λ (o : Option (List ℕ)). (n.0, unwrap_or o []) ∷ stored new graph) (same (blob_path n.0.digest))
    ∙ ap (λ (rest : List Entry). (n.0, blob_at old n.0.digest) ∷ rest) (stored-same old new graph same)

abbrev IsThere : File → Node → Type 0
IsThere file n = IsSome (file (blob_path n.0.digest))

some_stays : (b : Bool) (bytes : List ℕ) (o : Option (List ℕ)) → IsSome o → IsSome (cond b (Some bytes) o)
some_stays true bytes o h = refl
some_stays false bytes o h = h

still_there : (old new : File) (path bytes : List ℕ) (n : Node) → Puts old new path bytes → IsThere old n → IsThere new n
still_there old new path bytes n puts h = subst (λ (o : Option (List ℕ)). IsSome o) (sym (puts (blob_path n.0.digest))) (some_stays (bytes_eq path (blob_path n.0.digest)) bytes (old (blob_path n.0.digest)) h)

-- a sound directory stays sound where such bytes were put, and no node came
pub IsSound-put : (H H' : Type 0) (old new : File) (k : Descriptor) (bytes : List ℕ) (graph : List Node) → (H → H') → IsDigest k.digest → All HasDigest graph
    → Puts old new (blob_path k.digest) bytes → AgreesAt (stored old graph) k bytes → IsSound H old graph → IsSound H' new graph
IsSound-put H H' old new k bytes graph honest is digests puts agrees sound =
    let same = stored-put old new k bytes graph is digests puts agrees in
    record {
      is_honest = honest sound.is_honest;
      are_there = All-weaker (IsThere old) (IsThere new) (λ n h. still_there old new (blob_path k.digest) bytes n puts h) graph sound.are_there;
      content = subst IsContent (sym same) sound.content;
      listed = sound.listed ∙ ap nodes_of (sym same);
    }

-- and where a node with these bytes came
pub IsSound-pushed : (H H' : Type 0) (old new : File) (k : Descriptor) (bytes : List ℕ) (ks : List Descriptor) (graph grown : List Node) → (H → H') → IsDigest k.digest → All HasDigest graph
    → IsNew graph k bytes ks → ks ≡ successors_in k bytes → Puts old new (blob_path k.digest) bytes → AgreesAt (stored old graph) k bytes
    → grown ≡ graph ++ (k, ks) ∷ [] → IsSound H old graph → IsSound H' new grown
IsSound-pushed H H' old new k bytes ks graph grown honest is digests passed listed puts agrees e sound =
    let all = stored-pushed old new k bytes ks graph grown is digests puts agrees e in
    let fresh : IsNew (nodes_of (stored old graph)) k bytes ks = subst (λ (g : List Node). IsNew g k bytes ks) sound.listed passed in
    record {
      is_honest = honest sound.is_honest;
      are_there = subst (λ (g : List Node). All (IsThere new) g) (sym e)
          (All-push (IsThere new) graph (k, ks) (All-weaker (IsThere old) (IsThere new) (λ n h. still_there old new (blob_path k.digest) bytes n puts h) graph sound.are_there)
          (ap is_some (here old new (blob_path k.digest) bytes puts)));
      content = IsContent-pushed (stored old graph) (stored new grown) k bytes ks sound.content fresh all;
      listed = e ∙ ap (λ (g : List Node). g ++ (k, ks) ∷ []) sound.listed ∙ ap (λ (xs : List Descriptor). nodes_of (stored old graph) ++ (k, xs) ∷ []) listed
          ∙ sym (map-append node_of (stored old graph) ((k, bytes) ∷ [])) ∙ ap nodes_of (sym all);
    }

-- and where nothing changed
pub IsSound-same : (H H' : Type 0) (old new : File) (graph : List Node) → (H → H') → Same old new → IsSound H old graph → IsSound H' new graph
IsSound-same H H' old new graph honest same sound =
    let all = stored-same old new graph same in
    record {
      is_honest = honest sound.is_honest;
      are_there = All-weaker (IsThere old) (IsThere new) (λ n h. subst (λ (o : Option (List ℕ)). IsSome o) (sym (same (blob_path n.0.digest))) h) graph sound.are_there;
      content = subst IsContent (sym all) sound.content;
      listed = sound.listed ∙ ap nodes_of (sym all);
    }
