-- A graph whose keys were kept or dropped one at a time.
use Rattle.std.proofs.Common.{◌≡◌, ℕ, ◌+◌, Bool, true, false, cond, List, [], ◌∷◌, ◌++◌, take, inl, inr, slice_get, Option, Some, None, option_map, filter, append-nil, refl, sym, ap, subst, ◌∙◌}
use Rattle.std.specs.Prelude.{IsSome, IsOk}
use Rattle.std.specs.List.{All}
use Rattle.std.specs.Map.{values_of}
use Rattle.std.proofs.lemmas.Bool.{cases_Bool}
use Rattle.std.proofs.lemmas.List.{take_more}
use Rattle.std.proofs.lemmas.List.Elements.{filter-append, All-filter, All-nil, All-cons, All-head, All-tail}
use Rattle.std.proofs.lemmas.Map.Made.{IsDistinct-keys_filter}
use Rattle.std.proofs.lemmas.Option.{slice_get_within, get_or_from_slice_get}
use Rattle.oci_manifest.specs.Descriptor.{Descriptor, same_key}
use Rattle.oci_manifest.proofs.Keys.{Decides-same_key}
use Rattle.oci_store.specs.Content.{Entry, IsContent, Matches, succ_of}
use Rattle.oci_store.specs.Graph.{Node, node_of, nodes_of}
use Rattle.oci_store.specs.Keyed.{has_key, HasAll, HasDistinctKeys}
use Rattle.oci_store.specs.Tags.{Tags}
use Rattle.oci_store.proofs.Indexes.{absent_before}
use Rattle.oci_layout_store.specs.Blobs.{blob_path, blob_at, stored, IsSound}
use Rattle.oci_dir.specs.Device.{Device, File}
use Rattle.oci_layout_store.specs.Files.{IsLayout}

-- the node at a place, from its parts
pub node_at : (o : Option Node) (k : Descriptor) (ks : List Descriptor) → Some k ≡ option_map (λ (n : Node). n.0) o → Some ks ≡ option_map (λ (n : Node). n.1) o → o ≡ Some (k, ks)
node_at None k ks key successors = cc key
node_at (Some n) k ks key successors =
    let first : k ≡ n.0 = cc key in
    let second : ks ≡ n.1 = cc successors in
    rw (first, second) refl

-- one more place
pub take-more : (graph : List Node) (i : ℕ) (n : Node) → slice_get graph i ≡ Some n → take (i + 1) graph ≡ take i graph ++ n ∷ []
take-more graph i n at =
    take_more graph i n (slice_get_within graph i n at) ∙ ap (λ (m : Node). take i graph ++ m ∷ []) (get_or_from_slice_get graph i n n at)

pub filter-kept : (p : Node → Bool) (graph : List Node) (i : ℕ) (n : Node) → slice_get graph i ≡ Some n → p n ≡ true → filter p (take (i + 1) graph) ≡ filter p (take i graph) ++ n ∷ []
filter-kept p graph i n at kept =
    ap (filter p) (take-more graph i n at) ∙ filter-append p (take i graph) (n ∷ []) ∙ ap (λ (b : Bool). filter p (take i graph) ++ cond b (n ∷ []) []) kept

pub filter-dropped : (p : Node → Bool) (graph : List Node) (i : ℕ) (n : Node) → slice_get graph i ≡ Some n → p n ≡ false → filter p (take (i + 1) graph) ≡ filter p (take i graph)
filter-dropped p graph i n at dropped =
    ap (filter p) (take-more graph i n at) ∙ filter-append p (take i graph) (n ∷ []) ∙ ap (λ (b : Bool). filter p (take i graph) ++ cond b (n ∷ []) []) dropped ∙ append-nil (filter p (take i graph))

-- a key that is not there is not in a part either
pub has_key-filter : (p : Node → Bool) (graph : List Node) (k : Descriptor) → has_key graph k ≡ false → has_key (filter p graph) k ≡ false
has_key-filter p [] k absent = refl
has_key-filter p (n ∷ graph) k absent =
    elim (cases_Bool (same_key n.0 k)) [
      | inl same ↦ cc (rw same at absent)
      | inr apart ↦
          let rest = has_key-filter p graph k (rw apart at absent) in
          elim (p n) as (λ b. has_key (cond b (n ∷ filter p graph) (filter p graph)) k ≡ false) [ true ↦ rw apart rest | false ↦ rest ]
    ]

pub fresh-at : (p : Node → Bool) (graph : List Node) (i : ℕ) (n : Node) → HasDistinctKeys graph → slice_get graph i ≡ Some n → has_key (filter p (take i graph)) n.0 ≡ false
fresh-at p graph i n distinct at =
    has_key-filter p (take i graph) n.0 (absent_before graph i n distinct (slice_get_within graph i n at) (sym (get_or_from_slice_get graph i n n at)))

-- ---- a graph of the keys that pass a test
abbrev by_key : {X : Type 0} → (Descriptor → Bool) → Descriptor × X → Bool
by_key q e = q e.0

pub has_key-kept : (q : Descriptor → Bool) (graph : List Node) (k : Descriptor) → has_key graph k ≡ true → q k ≡ true → has_key (filter (by_key q) graph) k ≡ true
has_key-kept q [] k held kept = cc held
has_key-kept q (n ∷ graph) k held kept =
    elim (cases_Bool (same_key n.0 k)) [
      | inl same ↦
          let is : n.0 ≡ k = (Decides-same_key n.0 k).0 same in
          let passes : q n.0 ≡ true = ap q is ∙ kept in
          rw passes (rw same refl)
      | inr apart ↦
          let rest = has_key-kept q graph k (rw apart at held) kept in
          elim (q n.0) as (λ b. has_key (cond b (n ∷ filter (by_key q) graph) (filter (by_key q) graph)) k ≡ true) [ true ↦ rw apart rest | false ↦ rest ]
    ]

HasAll-kept : (q : Descriptor → Bool) (graph : List Node) (ks : List Descriptor) → HasAll graph ks → All (λ (k : Descriptor). q k ≡ true) ks → HasAll (filter (by_key q) graph) ks
HasAll-kept q graph [] held kept = All-nil (λ (k : Descriptor). has_key (filter (by_key q) graph) k ≡ true)
HasAll-kept q graph (k ∷ ks) held kept =
    All-cons (λ (k : Descriptor). has_key (filter (by_key q) graph) k ≡ true) k ks
    (has_key-kept q graph k (All-head (λ (k : Descriptor). has_key graph k ≡ true) k ks held) (All-head (λ (k : Descriptor). q k ≡ true) k ks kept))
    (HasAll-kept q graph ks (All-tail (λ (k : Descriptor). has_key graph k ≡ true) k ks held) (All-tail (λ (k : Descriptor). q k ≡ true) k ks kept))

pub IsLayout-retained : (dir : Device) (q : Descriptor → Bool) (graph rest : List Node) (tags : Tags) → rest ≡ filter (by_key q) graph → All (λ (k : Descriptor). q k ≡ true) (values_of tags) → IsLayout dir graph tags → IsLayout dir rest tags
IsLayout-retained dir q graph rest tags same kept is = rw same (record {
  names = record { named = is.names.named; held = HasAll-kept q graph (values_of tags) is.names.held kept };
  has_layout_file = is.has_layout_file;
})

stored-filter : (file : File) (q : Descriptor → Bool) (graph : List Node) → stored file (filter (by_key q) graph) ≡ filter (by_key q) (stored file graph)
stored-filter file q [] = refl
stored-filter file q (n ∷ graph) =
    let rest = stored-filter file q graph in
    elim (q n.0) as (λ b. stored file (cond b (n ∷ filter (by_key q) graph) (filter (by_key q) graph)) ≡ cond b ((n.0, blob_at file n.0.digest) ∷ filter (by_key q) (stored file graph)) (filter (by_key q) (stored file graph))) [
      | true ↦ ap (λ (es : List Entry). (n.0, blob_at file n.0.digest) ∷ es) rest
      | false ↦ rest
    ]

nodes_of-filter : (q : Descriptor → Bool) (entries : List Entry) → filter (by_key q) (nodes_of entries) ≡ nodes_of (filter (by_key q) entries)
nodes_of-filter q [] = refl
nodes_of-filter q (e ∷ entries) =
    let rest = nodes_of-filter q entries in
    elim (q e.0) as (λ b. cond b (node_of e ∷ filter (by_key q) (nodes_of entries)) (filter (by_key q) (nodes_of entries)) ≡ nodes_of (cond b (e ∷ filter (by_key q) entries) (filter (by_key q) entries))) [
      | true ↦ ap (λ (g : List Node). node_of e ∷ g) rest
      | false ↦ rest
    ]

pub IsSound-retained : (H : Type 0) (file : File) (q : Descriptor → Bool) (graph rest : List Node) → rest ≡ filter (by_key q) graph → IsSound H file graph → IsSound H file rest
IsSound-retained H file q graph rest same sound =
    let entries = stored file graph in
    let all = stored-filter file q graph in
    rw same (record {
      is_honest = sound.is_honest;
      are_there = All-filter (by_key q) (λ (n : Node). IsSome (file (blob_path n.0.digest))) graph sound.are_there;
      content = subst IsContent (sym all) (record {
        distinct = IsDistinct-keys_filter same_key (by_key q) entries sound.content.distinct;
        matching = All-filter (by_key q) (λ (e : Entry). Matches e.0 e.1) entries sound.content.matching;
        readable = All-filter (by_key q) (λ (e : Entry). IsOk (succ_of e.0 e.1)) entries sound.content.readable;
      });
      listed = ap (λ (g : List Node). filter (by_key q) g) sound.listed ∙ nodes_of-filter q entries ∙ ap nodes_of (sym all);
    })
