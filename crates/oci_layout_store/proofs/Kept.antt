-- What is opened where the files of a layout were left.
use Rattle.std.proofs.Common.{◌≡◌, ◌&&◌, ℕ, Bool, true, false, cond, not, inl, inr, List, [], ◌∷◌, ◌++◌, map, Option, Some, None, is_some, option_map, refl, sym, ap, subst, ◌∙◌}
use Rattle.std.specs.Prelude.{find}
use Rattle.std.specs.List.{All, filter, flat_map}
use Rattle.std.specs.Option.{unwrap_or}
use Rattle.std.proofs.lemmas.Bool.{cases_Bool}
use Rattle.std.proofs.lemmas.List.Elements.{All-head, All-tail, All-nil, All-cons, All-filter, All-weaker}
use Rattle.oci_digest.specs.Digest.{verifies}
use Rattle.oci_manifest.specs.Descriptor.{Descriptor, is_among}
use Rattle.oci_manifest.specs.MediaTypes.{kind_of}
use Rattle.oci_store.specs.Closed.{IsClosed}
use Rattle.oci_store.specs.Content.{Entry, successors_in}
use Rattle.oci_store.specs.Graph.{Node}
use Rattle.oci_store.specs.Keyed.{has_key}
use Rattle.oci_store.specs.Tags.{Tags}
use Rattle.oci_store.specs.Visiting.{next_visit, IsVisiting, start, next}
use Rattle.oci_store.proofs.Lookups.{found, All-value_at}
use Rattle.oci_layout_store.specs.Blobs.{blob_path, blob_at, stored}
use Rattle.oci_dir.specs.Device.{File}
use Rattle.oci_layout_store.specs.Entries.{IndexContent, IndexEntry, IsIndexFile, absent_in, entry_keys, said}
use Rattle.oci_layout_store.specs.Files.{HasFiles, HasKept}
use Rattle.oci_layout_store.specs.Law.{OpensAsKept}
use Rattle.oci_layout_store.specs.Layout.{OpenedIndex}
use Rattle.oci_layout_store.specs.Meant.{meant, meant_content, meant_entry, meant_in, meant_key, odd_in, of_type, unknown_type}
use Rattle.oci_layout_store.specs.Opened.{any, holds, is_damaged, is_right, listed_in, lists, held_in, IsGood, IsRead}
use Rattle.oci_layout_store.proofs.EntryKeys.{first_key, key_or_none, no_first_key}
use Rattle.oci_layout_store.proofs.Lasting.{AgreeAt, stored_same}
use Rattle.oci_layout_store.proofs.Law.{Lists, listed_held, some_listed, visited_all}

abbrev Agree : File → File → Descriptor → Type 0
Agree file left k = left (blob_path k.digest) ≡ file (blob_path k.digest)

-- ---- what depends on the file of a key alone

-- whether a key is held, by what its file has
abbrev held_by : Bool → Descriptor → Option (List ℕ) → Bool
held_by as_is k found = cond as_is (unwrap_or (option_map (is_right (kind_of k.media_type) k) found) false) (is_some found)

abbrev listed_by : Descriptor → Option (List ℕ) → List Descriptor
listed_by k found = successors_in k (unwrap_or found [])

listed_same : (file left : File) (k : Descriptor) → Agree file left k → listed_in left k ≡ listed_in file k
listed_same file left k agree = ap (listed_by k) agree

holds_same : (as_is : Bool) (file left : File) (k : Descriptor) → Agree file left k → holds as_is left k ≡ holds as_is file k
holds_same as_is file left k agree = ap (held_by as_is k) agree

lists_same : (as_is : Bool) (file left : File) (k : Descriptor) → Agree file left k → lists as_is left k ≡ lists as_is file k
lists_same as_is file left k agree = ap (λ (o : Option (List ℕ)). cond (held_by as_is k o) (listed_by k o) []) agree

damaged_same : (as_is : Bool) (file left : File) (k : Descriptor) → Agree file left k → is_damaged as_is left k ≡ is_damaged as_is file k
damaged_same as_is file left k agree = ap (λ (o : Option (List ℕ)). is_some o && not (held_by as_is k o)) agree

-- ---- the walk

flat_same : (as_is : Bool) (file left : File) (ks : List Descriptor) → All (Agree file left) ks → flat_map (lists as_is left) ks ≡ flat_map (lists as_is file) ks
flat_same as_is file left [] h = refl
flat_same as_is file left (k ∷ ks) h =
    ap (λ (one : List Descriptor). one ++ flat_map (lists as_is left) ks) (lists_same as_is file left k (All-head (Agree file left) k ks h))
    ∙ ap (λ (rest : List Descriptor). lists as_is file k ++ rest) (flat_same as_is file left ks (All-tail (Agree file left) k ks h))

next_same : (as_is : Bool) (file left : File) (starts items : List Descriptor) → All (Agree file left) items → next_visit (lists as_is left) any starts items ≡ next_visit (lists as_is file) any starts items
next_same as_is file left starts items h = ap (λ (ks : List Descriptor). find (λ k. not (is_among items k)) (starts ++ ks)) (flat_same as_is file left items h)

visiting_same : (G : Descriptor → Type 0) (as_is : Bool) (file left : File) (starts items : List Descriptor) → All G starts → ((k : Descriptor) → G k → All G (lists as_is file k)) → ((ks : List Descriptor) → All G ks → All (Agree file left) ks)
    → IsVisiting (lists as_is file) any starts items → IsVisiting (lists as_is left) any starts items
visiting_same G as_is file left starts _ hs each agree start = start
visiting_same G as_is file left starts _ hs each agree (next {items} {k} v e) =
    next (visiting_same G as_is file left starts items hs each agree v) (next_same as_is file left starts items (agree items (visited_all G as_is file starts items hs each v)) ∙ e)

abbrev IsGoodIf : Bool → File → Descriptor → Type 0
IsGoodIf as_is file k = holds as_is file k ≡ true → IsGood file k

good_same : (as_is : Bool) (file left : File) (ks : List Descriptor) → All (Agree file left) ks → All (IsGoodIf as_is file) ks → All (IsGoodIf as_is left) ks
good_same as_is file left [] h good = All-nil (IsGoodIf as_is left)
good_same as_is file left (k ∷ ks) h good =
    let agree = All-head (Agree file left) k ks h in
    All-cons (IsGoodIf as_is left) k ks (λ held manifest bytes read. All-head (IsGoodIf as_is file) k ks good (sym (holds_same as_is file left k agree) ∙ held) manifest bytes (sym agree ∙ read))
    (good_same as_is file left ks (All-tail (Agree file left) k ks h) (All-tail (IsGoodIf as_is file) k ks good))

-- ---- what a walk finds

filter_same : (p q : Descriptor → Bool) (ks : List Descriptor) → All (λ (k : Descriptor). q k ≡ p k) ks → filter q ks ≡ filter p ks
filter_same p q [] h = refl
filter_same p q (k ∷ ks) h =
    ap (λ (b : Bool). cond b (k ∷ filter q ks) (filter q ks)) (All-head (λ (k : Descriptor). q k ≡ p k) k ks h)
    ∙ ap (λ (rest : List Descriptor). cond (p k) (k ∷ rest) rest) (filter_same p q ks (All-tail (λ (k : Descriptor). q k ≡ p k) k ks h))

abbrev node_in : File → Descriptor → Node
node_in file k = (k, listed_in file k)

nodes_same : (file left : File) (ks : List Descriptor) → All (Agree file left) ks → map (node_in left) ks ≡ map (node_in file) ks
nodes_same file left [] h = refl
nodes_same file left (k ∷ ks) h =
    ap (λ (listed : List Descriptor). (k, listed) ∷ map (node_in left) ks) (listed_same file left k (All-head (Agree file left) k ks h))
    ∙ ap (λ (rest : List Node). node_in file k ∷ rest) (nodes_same file left ks (All-tail (Agree file left) k ks h))

held_same : (as_is : Bool) (file left : File) (ks : List Descriptor) → All (Agree file left) ks → held_in as_is left ks ≡ held_in as_is file ks
held_same as_is file left ks h =
    ap (λ (held : List Descriptor). map (node_in left) held)
    (filter_same (holds as_is file) (holds as_is left) ks (All-weaker (Agree file left) (λ (k : Descriptor). holds as_is left k ≡ holds as_is file k) (λ k agree. holds_same as_is file left k agree) ks h))
    ∙ nodes_same file left (filter (holds as_is file) ks) (All-filter (holds as_is file) (Agree file left) ks h)

-- ---- what the old files say

all_lists : (file : File) (ks : List Descriptor) → All (Lists file) (map (node_in file) ks)
all_lists file [] = All-nil (Lists file)
all_lists file (k ∷ ks) = All-cons (Lists file) (k, listed_in file k) (map (node_in file) ks) refl (all_lists file ks)

abbrev IsHeld : List Node → Descriptor → Type 0
IsHeld graph k = has_key graph k ≡ true

none_absent : (graph : List Node) (ks : List Descriptor) → [] ≡ absent_in graph ks → All (IsHeld graph) ks
none_absent graph [] e = All-nil (IsHeld graph)
none_absent graph (k ∷ ks) e =
    elim (cases_Bool (has_key graph k)) [
      | inl held ↦ All-cons (IsHeld graph) k ks held (none_absent graph ks (rw held at e))
      | inr gone ↦ absurd (cc (rw gone at e))
    ]

all_agree : (file left : File) (graph : List Node) → All (AgreeAt file left) graph → (ks : List Descriptor) → All (IsHeld graph) ks → All (Agree file left) ks
all_agree file left graph same [] h = All-nil (Agree file left)
all_agree file left graph same (k ∷ ks) h =
    let it = found graph k (All-head (IsHeld graph) k ks h) in
    All-cons (Agree file left) k ks (All-value_at (AgreeAt file left) graph k it.0 same it.1) (all_agree file left graph same ks (All-tail (IsHeld graph) k ks h))

-- ---- what entries mean

digest_in : (k : Descriptor) (found : Option (List ℕ)) → (meant_in k found).digest ≡ k.digest
digest_in k None = refl
digest_in k (Some bytes) = elim (verifies k.digest bytes) as (λ b. (cond b (meant_key k bytes) (of_type k (unknown_type k.media_type))).digest ≡ k.digest) [ true ↦ refl | false ↦ refl ]

meant_as : (file left : File) (k : Descriptor) → Agree file left (meant file k) → meant left k ≡ meant file k
meant_as file left k agree =
    let same : Agree file left k = subst (λ (digest : List ℕ). left (blob_path digest) ≡ file (blob_path digest)) (digest_in k (odd_in k (file (blob_path k.digest)))) agree in
    ap (λ (found : Option (List ℕ)). meant_in k (odd_in k found)) same

-- an entry means the same if the file of the key that it means is the same
abbrev KeyAgrees : File → File → Option Descriptor → Type 0
KeyAgrees file left key = (k : Descriptor) → key ≡ Some k → Agree file left k

key_as : (file left : File) (key : Option Descriptor) → KeyAgrees file left (option_map (meant file) key) → option_map (meant left) key ≡ option_map (meant file) key
key_as file left None agree = refl
key_as file left (Some k) agree = ap Some (meant_as file left k (agree (meant file k) refl))

entries_as : (file left : File) (es : List IndexEntry) → All (Agree file left) (entry_keys (map (meant_entry file) es)) → map (meant_entry left) es ≡ map (meant_entry file) es
entries_as file left [] h = refl
entries_as file left (e ∷ es) h =
    let first : IndexEntry = meant_entry file e in
    let rest : List IndexEntry = map (meant_entry file) es in
    let agree : KeyAgrees file left first.key = λ k is. All-head (Agree file left) k (entry_keys rest) (subst (All (Agree file left)) (first_key first rest k is) h) in
    let more : All (Agree file left) (entry_keys rest) = elim (key_or_none first.key) [
      | inl it ↦ All-tail (Agree file left) it.0 (entry_keys rest) (subst (All (Agree file left)) (first_key first rest it.0 it.1) h)
      | inr none ↦ subst (All (Agree file left)) (no_first_key first rest none) h
    ] in
    ap (λ (key : Option Descriptor). record { key = key; name = e.name; value = e.value } ∷ map (meant_entry left) es) (key_as file left e.key agree)
    ∙ ap (λ (others : List IndexEntry). first ∷ others) (entries_as file left es more)

meant_same : (as_is : Bool) (file left : File) (stated : IndexContent) → All (Agree file left) (entry_keys (meant_content as_is file stated).entries) → meant_content as_is left stated ≡ meant_content as_is file stated
meant_same true file left stated h = ap (λ (es : List IndexEntry). record { entries = es; members = stated.members }) (entries_as file left stated.entries h)
meant_same false file left stated h = refl

-- ---- what is opened

read_kept : (as_is : Bool) (file left : File) (graph : List Node) (absent damaged : List Descriptor) (content : IndexContent) → IsClosed graph → HasKept file left graph → absent ≡ []
    → IsRead as_is file graph absent damaged content → IsRead as_is left graph absent damaged content
read_kept as_is file left graph absent damaged content closed kept none read =
    let keys = entry_keys content.entries in
    let visited = read.walked.visited in
    let walk = read.walked.walk in
    let starts : All (IsHeld graph) keys = none_absent graph keys (sym none ∙ read.absent_is) in
    let all : All (Lists file) graph = subst (λ (g : List Node). All (Lists file) g) (sym read.walked.held) (all_lists file (filter (holds as_is file) visited)) in
    let each : (k : Descriptor) → IsHeld graph k → All (IsHeld graph) (lists as_is file k) = λ k h. some_listed (IsHeld graph) as_is file k (listed_held file graph closed all k h) in
    let seen : All (IsHeld graph) visited = visited_all (IsHeld graph) as_is file keys visited starts each walk.is_visiting in
    let agree : (ks : List Descriptor) → All (IsHeld graph) ks → All (Agree file left) ks = all_agree file left graph kept.blobs in
    let here : All (Agree file left) visited = agree visited seen in
    let damage = filter_same (is_damaged as_is file) (is_damaged as_is left) visited
    (All-weaker (Agree file left) (λ (k : Descriptor). is_damaged as_is left k ≡ is_damaged as_is file k) (λ k same. damaged_same as_is file left k same) visited here) in
    record {
      layout = record { bytes = read.layout.bytes; is_there = kept.layout ∙ read.layout.is_there; version = read.layout.version };
      index = record {
        stated = read.index.stated;
        is_stated = subst (λ (o : Option (List ℕ)). IsIndexFile as_is o read.index.stated) (sym kept.index) read.index.is_stated;
        is_meant = read.index.is_meant ∙ sym (meant_same as_is file left read.index.stated (subst (λ (c : IndexContent). All (Agree file left) (entry_keys c.entries)) read.index.is_meant (agree keys starts)));
      };
      walked = record {
        visited = visited;
        walk = record {
          is_visiting = visiting_same (IsHeld graph) as_is file left keys visited starts each agree walk.is_visiting;
          is_whole = next_same as_is file left keys visited here ∙ walk.is_whole;
        };
        good = good_same as_is file left visited here read.walked.good;
        held = read.walked.held ∙ sym (held_same as_is file left visited here);
      };
      absent_is = read.absent_is;
      damaged_is = read.damaged_is ∙ sym damage;
    }

-- ---- what was saved

abbrev HasBytes : File → Entry → Type 0
HasBytes file e = file (blob_path e.0.digest) ≡ Some e.1

bytes_kept : (file left : File) (graph : List Node) → All (AgreeAt file left) graph → All (HasBytes file) (stored file graph) → All (HasBytes left) (stored file graph)
bytes_kept file left [] agree h = All-nil (HasBytes left)
bytes_kept file left (n ∷ graph) agree h =
    let e : Entry = (n.0, blob_at file n.0.digest) in
    All-cons (HasBytes left) e (stored file graph) (All-head (AgreeAt file left) n graph agree ∙ All-head (HasBytes file) e (stored file graph) h)
    (bytes_kept file left graph (All-tail (AgreeAt file left) n graph agree) (All-tail (HasBytes file) e (stored file graph) h))

files_kept : (file left : File) (graph : List Node) (tags : Tags) (opened : OpenedIndex) → HasKept file left graph → HasFiles file (stored file graph) graph tags opened → HasFiles left (stored file graph) graph tags opened
files_kept file left graph tags opened kept files = record {
  layout = record { bytes = files.layout.bytes; is_there = kept.layout ∙ files.layout.is_there; version = files.layout.version };
  blobs = bytes_kept file left graph kept.blobs files.blobs;
  index = record {
    loose = files.index.loose;
    are_loose = files.index.are_loose;
    bytes = files.index.bytes;
    is_there = kept.index ∙ files.index.is_there;
    is_index = files.index.is_index;
  };
}

pub opens_as_kept : OpensAsKept
opens_as_kept file left graph tags opened closed kept = record {
  bytes = stored_same file left graph kept.blobs;
  again = λ none was. record {
    content = was.content;
    read = read_kept false file left graph opened.absent opened.damaged was.content closed kept none was.read;
    tagged = was.tagged;
    content_is = was.content_is;
  };
  as_is = λ none was. record {
    read = read_kept true file left graph opened.absent opened.damaged (said opened.content) closed kept none was.read;
    tagged = was.tagged;
  };
  saved = λ files. files_kept file left graph tags opened kept files;
}
