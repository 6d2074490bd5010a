-- What `verify` finds, and what is wrong with a layout.
use Rattle.std.proofs.Common.{◌≡◌, ℕ, ◌&&◌, Bool, true, cond, not, Bor, inl, inr, List, [], ◌∷◌, map, Option, Some, None, IsSome, refl, sym, ap, subst, ◌∙◌}
use Rattle.std.specs.Prelude.{◌↔◌, Contains}
use Rattle.std.specs.BTreeSet.{BTreeSet, contains}
use Rattle.std.specs.List.{All, filter}
use Rattle.std.specs.Option.{unwrap_or}
use Rattle.std.proofs.lemmas.Bool.{cases_Bool}
use Rattle.std.proofs.lemmas.List.Elements.{All-nil, All-cons, All-head, All-tail, All-weaker, All-contains_itself, Contains-append_left, Contains-push}
use Rattle.oci_layout_store.specs.Blobs.{blob_path, blob_at, HasMatchingFiles}
use Rattle.oci_dir.specs.Device.{Device, File}
use Rattle.oci_layout_store.specs.Layout.{OpenedIndex}
use Rattle.oci_layout_store.specs.Opened.{IsOpenedAsIs}
use Rattle.oci_layout_store.proofs.Loose.{no_element}
use Rattle.oci_layout_store.proofs.Walk.{held_there}
use Rattle.oci_manifest.specs.Descriptor.{Descriptor, Matches, is_among, key_cmp}
use Rattle.oci_prune.proofs.Leaving.{held_from_node}
use Rattle.oci_store.specs.Graph.{Node}
use Rattle.oci_store.specs.Tags.{Tags}
use Rattle.oci_store.proofs.Lookups.{found, All-value_at}
use Rattle.oci_query_commands.specs.Answered.{AreReadable}
use Rattle.oci_query_commands.specs.Found.{AreFindings}
use Rattle.oci_query_commands.proofs.ForeignLayers.{right_foreign}
use Rattle.oci_verify.specs.Corrupt.{AreCorrupt}
use Rattle.oci_verify.specs.Intact.{is_matching, HasFiles}
use Rattle.oci_verify.proofs.Intact.{Decides-is_match}
use Rattle.oci_query_commands.specs.Verified.{FindsNothing, IsWhole, IsVerified}
use Rattle.oci_query_commands.specs.declared.verify.Findings.{Findings}
use Rattle.oci_query_commands.proofs.Found.{closed-from_found, found-from_closed}

abbrev IsThere : File → Node → Type 0
IsThere file n = IsSome (file (blob_path n.0.digest))

abbrev FileMatches : File → Node → Type 0
FileMatches file n = (bytes : List ℕ) × (file (blob_path n.0.digest) ≡ Some bytes) × Matches n.0 bytes

-- the bytes of a file that is there and matches its key
there_and_right : (k : Descriptor) (o : Option (List ℕ)) → IsSome o → Matches k (unwrap_or o []) → (bytes : List ℕ) × (o ≡ Some bytes) × Matches k bytes
there_and_right k (Some bytes) there matching = (bytes, refl, matching)
there_and_right k None there matching = cc there

-- files that are there and match their keys
all_match : (file : File) (graph : List Node) → All (IsThere file) graph → All (λ (n : Node). Matches n.0 (blob_at file n.0.digest)) graph → HasMatchingFiles file graph
all_match file [] there matching = All-nil (FileMatches file)
all_match file (n ∷ graph) there matching =
    let P = λ (n : Node). Matches n.0 (blob_at file n.0.digest) in
    All-cons (FileMatches file) n graph
    (there_and_right n.0 (file (blob_path n.0.digest)) (All-head (IsThere file) n graph there) (All-head P n graph matching))
    (all_match file graph (All-tail (IsThere file) n graph there) (All-tail P n graph matching))

-- a layout that was opened and is whole is verified
pub IsVerified-whole : (dir : Device) (graph : List Node) (tags : Tags) (index : OpenedIndex) → dir.is_honest → IsOpenedAsIs dir.file graph tags index → IsWhole dir graph index → IsVerified dir
IsVerified-whole dir graph tags index honest opened whole = record {
  graph = graph;
  tags = tags;
  index = index;
  opened = opened;
  readable = whole.readable;
  entries = whole.entries;
  undamaged = whole.undamaged;
  matching = all_match dir.file graph
      (subst (λ (g : List Node). All (IsThere dir.file) g) (sym opened.read.walked.held) (held_there true dir.file opened.read.walked.visited))
      (whole.intact honest);
  closed = whole.closed;
  foreign = whole.foreign honest;
}

-- after a layout was opened, the file of each held key is there
pub HasFiles-opened : (dir : Device) (graph : List Node) (tags : Tags) (index : OpenedIndex) → dir.is_honest → IsOpenedAsIs dir.file graph tags index → HasFiles dir graph
HasFiles-opened dir graph tags index honest opened =
    (honest, subst (λ (g : List Node). All (IsThere dir.file) g) (sym opened.read.walked.held) (held_there true dir.file opened.read.walked.visited))

-- ---- nothing is found exactly if nothing is wrong
pub nothing_in : {X : Type 0} (xs : List X) → ((x : X) → Contains xs x → ⊥) → xs ≡ []
nothing_in [] none = refl
nothing_in (x ∷ xs) none = absurd (none x (Contains-append_left (x ∷ []) xs x (Contains-push [] x)))

all_kept : (keys : List Descriptor) → filter (λ (k : Descriptor). not (is_among [] k)) keys ≡ keys
all_kept [] = refl
all_kept (k ∷ keys) = ap (λ (ks : List Descriptor). k ∷ ks) (all_kept keys)

pub none_mapped : (keys : List (Bor Descriptor)) → map (λ (k : Bor Descriptor). k.now) keys ≡ [] → keys ≡ []
none_mapped [] h = refl
none_mapped (k ∷ keys) h = cc h

matches_all : (file : File) (graph : List Node) (damaged : List Descriptor) → AreCorrupt file graph damaged [] → All (λ (n : Node). Matches n.0 (blob_at file n.0.digest)) graph
matches_all file graph damaged are =
    All-weaker (Contains graph) (λ (n : Node). Matches n.0 (blob_at file n.0.digest)) matches graph (All-contains_itself graph)
  where
    matches : (n : Node) → Contains graph n → Matches n.0 (blob_at file n.0.digest)
    matches n there =
        elim (cases_Bool (is_matching file n.0)) [
          | inl is ↦ (Decides-is_match n.0 (blob_at file n.0.digest)).0 is
          | inr is_not ↦ absurd (no_element n.0 ((are.each n.0).1 (inr (held_from_node graph n there, is_not))))
        ]

IsWhole-nothing : (dir : Device) (graph : List Node) (index : OpenedIndex) (f : Findings) → HasFiles dir graph → AreReadable index → AreFindings dir graph index f → FindsNothing f → IsWhole dir graph index
IsWhole-nothing dir graph index f has readable are nothing =
    let corrupt : AreCorrupt dir.file graph index.damaged [] = subst (λ (keys : List Descriptor). AreCorrupt dir.file graph index.damaged keys) nothing.1 (are.corrupt has) in
    let undamaged : index.damaged ≡ [] = nothing_in index.damaged (λ k there. no_element k ((corrupt.each k).1 (inl there))) in
    record {
      readable = readable;
      entries = sym (all_kept index.absent)
          ∙ ap (λ (damaged : List Descriptor). filter (λ (k : Descriptor). not (is_among damaged k)) index.absent) (sym undamaged)
          ∙ sym are.absent ∙ ap (map (λ (k : Bor Descriptor). k.now)) nothing.0;
      undamaged = undamaged;
      intact = λ honest. matches_all dir.file graph index.damaged corrupt;
      closed = closed-from_found graph index.damaged f.open are.without_file nothing.3 undamaged;
      foreign = λ honest from k lists. right_foreign (λ (x : Descriptor). true) dir.file graph f.corrupt_foreign.items (are.foreign honest) nothing.2 from k refl lists;
    }

nothing-IsWhole : (dir : Device) (graph : List Node) (index : OpenedIndex) (f : Findings) → HasFiles dir graph → AreFindings dir graph index f → IsWhole dir graph index → FindsNothing f
nothing-IsWhole dir graph index f has are whole = (
  none_mapped f.absent.items (are.absent ∙ ap (filter (λ (k : Descriptor). not (is_among index.damaged k))) whole.entries),
  nothing_in f.corrupt.items right,
  nothing_in f.corrupt_foreign.items (λ k there. let p = ((are.foreign has.0).each k).0 there in cc (sym p.1 ∙ whole.foreign has.0 p.0.0 k p.0.2)),
  found-from_closed graph index.damaged f.open are.without_file whole.closed,
)
  where
    right : (k : Descriptor) → Contains f.corrupt.items k → ⊥
    right k there =
        elim (((are.corrupt has).each k).0 there) [
          | inl damaged ↦ no_element k (subst (λ (ks : List Descriptor). Contains ks k) whole.undamaged damaged)
          | inr held ↦
              let it = found graph k held.0 in
              let matching : Matches k (blob_at dir.file k.digest) = All-value_at (λ (n : Node). Matches n.0 (blob_at dir.file n.0.digest)) graph k it.0 (whole.intact has.0) it.1 in
              cc (sym ((Decides-is_match k (blob_at dir.file k.digest)).1 matching) ∙ held.1)
        ]

pub whole_iff : (dir : Device) (graph : List Node) (index : OpenedIndex) (f : Findings) → HasFiles dir graph → AreReadable index → AreFindings dir graph index f → FindsNothing f ↔ IsWhole dir graph index
whole_iff dir graph index f has readable are = (
  λ nothing. IsWhole-nothing dir graph index f has readable are nothing,
  λ whole. nothing-IsWhole dir graph index f has are whole,
)

-- ---- the keys that are not damaged
kept_same : (p q : Descriptor → Bool) → ((k : Descriptor) → p k ≡ q k) → (keys : List Descriptor) → filter p keys ≡ filter q keys
kept_same p q same [] = refl
kept_same p q same (k ∷ keys) =
    ap (λ (b : Bool). cond b (k ∷ filter p keys) (filter p keys)) (same k)
    ∙ ap (λ (rest : List Descriptor). cond (q k) (k ∷ rest) rest) (kept_same p q same keys)

pub absent_are : (is_asked : Descriptor → Bool) (set : BTreeSet Descriptor) (damaged keys absent : List Descriptor) (others : List (Bor Descriptor)) → ((k : Descriptor) → contains key_cmp set k ≡ is_among damaged k)
    → map (λ (k : Bor Descriptor). k.now) others ≡ filter (λ (k : Descriptor). is_asked k && not (contains key_cmp set k)) keys → keys ≡ absent → map (λ (k : Bor Descriptor). k.now) others ≡ filter (λ (k : Descriptor). is_asked k && not (is_among damaged k)) absent
absent_are is_asked set damaged keys absent others among are same =
    are ∙ kept_same (λ (k : Descriptor). is_asked k && not (contains key_cmp set k)) (λ (k : Descriptor). is_asked k && not (is_among damaged k)) (λ k. ap (λ (b : Bool). is_asked k && not b) (among k)) keys
    ∙ ap (filter (λ (k : Descriptor). is_asked k && not (is_among damaged k))) same
