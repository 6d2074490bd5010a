-- What lasts is left, and what was saved lasts.
use Rattle.std.proofs.Common.{◌≡◌, ℕ, true, ◌⊎◌, inl, inr, List, [], ◌∷◌, take, drop, Bool, cond, Option, Some, Ok, Err, Result, refl, sym, ap, subst, ◌∙◌, arith}
use Rattle.std.specs.Prelude.{IsSome, Contains, IsErrOf}
use Rattle.std.specs.List.{All}
use Rattle.std.specs.Map.{keys_of}
use Rattle.std.specs.Str.{bytes_eq}
use Rattle.std.specs.Option.{unwrap_or}
use Rattle.std.proofs.lemmas.Bool.{cases_Bool}
use Rattle.std.proofs.lemmas.List.{take-append-drop}
use Rattle.std.proofs.lemmas.List.Elements.{All-append, All-contains, All-contains_itself, All-nil, All-cons, All-head, All-tail, All-weaker}
use Rattle.std.proofs.lemmas.Slice.Eq.{bytes_eq-Decides}
use Rattle.oci_manifest.specs.Descriptor.{Descriptor, IsKey}
use Rattle.oci_store.specs.Closed.{IsClosed}
use Rattle.oci_store.specs.Content.{Entry}
use Rattle.oci_store.specs.Graph.{Node}
use Rattle.oci_store.specs.Keyed.{has_key}
use Rattle.oci_store.specs.Push.{IsRaised}
use Rattle.oci_store.specs.Tags.{Tags}
use Rattle.oci_store.proofs.Lookups.{found, All-value_at}
use Rattle.oci_layout_store.specs.Blobs.{blob_path, blob_at, stored, IsSound}
use Rattle.oci_dir.specs.Crash.{StaysAt, IsSettled, IsLeft}
use Rattle.oci_layout_store.specs.Keeps.{Keeps}
use Rattle.oci_dir.specs.Device.{AfterPuts, Device, File, Touches}
use Rattle.oci_layout_store.specs.Entries.{said}
use Rattle.oci_layout_store.specs.Faults.{of_device}
use Rattle.oci_layout_store.specs.Files.{HasKept, IsLayout}
use Rattle.oci_layout_store.specs.Index.{index_file, layout_file, index_value, IsCompact}
use Rattle.oci_layout_store.specs.Lasts.{AreKnown, HasLayout, IsClosedLayout, Lasts, LastingIsLeft}
use Rattle.oci_layout_store.specs.Layout.{LayoutState, OnlyFiles, OpenedIndex, SameMemory}
use Rattle.oci_layout_store.specs.Refusal.{IsSettledFault}
use Rattle.oci_layout_store.specs.Saved.{AreLoose, saved_content}
use Rattle.oci_layout_store.specs.Settled.{AfterSettling, IsSaved, LeftSaved}
use Rattle.oci_dir.specs.declared.fault.DirFault.{DirFault}
use Rattle.oci_dir.specs.declared.fault.DirFault.TheVariants as dir
use Rattle.oci_layout_store.specs.declared.fault.LayoutFault.TheVariants as layout
use Rattle.oci_layout_store.proofs.Crash.{StaysOf}
use Rattle.oci_layout_store.proofs.Files.{HasLayoutFile-stays, IsSound-index, index_blob, index_layout, some_or, stored-index}
use Rattle.oci_layout_store.proofs.Settled.{IsSettledOf, touches_whole}
use Rattle.oci_layout_store.proofs.Stored.{has_key-stored}

abbrev IsThere : File → Node → Type 0
IsThere file n = IsSome (file (blob_path n.0.digest))

abbrev HasBytes : File → Entry → Type 0
HasBytes file e = file (blob_path e.0.digest) ≡ Some e.1

abbrev pub AgreeAt : File → File → Node → Type 0
AgreeAt file left n = left (blob_path n.0.digest) ≡ file (blob_path n.0.digest)

-- ---- what lasts

pub kept : (dir : Device) (file left : File) (graph : List Node) → IsLeft dir left → Keeps dir file graph → HasKept file left graph
kept dir file left graph is keeps = record {
  layout = keeps.layout (left layout_file) (is layout_file);
  index = keeps.index (left index_file) (is index_file);
  blobs = All-weaker (StaysOf dir file) (AgreeAt file left) (λ n was. was (left (blob_path n.0.digest)) (is (blob_path n.0.digest))) graph keeps.blobs;
}

pub lasting_is_left : (dir : Device) → LastingIsLeft dir
lasting_is_left dir entries tags lasts left is = record {
  file = lasts.file;
  graph = lasts.graph;
  layout = lasts.layout;
  kept = kept dir lasts.file left lasts.graph is lasts.keeps;
}

-- a layout is in its own files
has_own : (file : File) (graph : List Node) (entries : List Entry) (tags : Tags) → IsClosedLayout file graph entries tags → HasLayout file entries tags
has_own file graph entries tags layout = record {
  file = file;
  graph = graph;
  layout = layout;
  kept = record { layout = refl; index = refl; blobs = own file graph };
}
  where
    own : (file : File) (graph : List Node) → All (AgreeAt file file) graph
    own file [] = All-nil (AgreeAt file file)
    own file (n ∷ graph) = All-cons (AgreeAt file file) n graph refl (own file graph)

-- ---- what is settled where a layout lasts

settled_of : (dir : Device) (file : File) (path : List ℕ) → dir.is_honest → StaysAt dir file path → IsSettled dir path
settled_of dir file path honest stay x may = stay x may ∙ sym (stay (dir.file path) (dir.stays honest path))

abbrev IsKnownOf : Device → List Entry → Node → Type 0
IsKnownOf dir entries n = (has_key entries n.0 ≡ true) ⊎ IsSettled dir (blob_path n.0.digest)

known_settled : (dir : Device) (entries : List Entry) (tags : Tags) (graph : List Node) (from : ℕ) → Lasts dir entries tags → AreKnown dir from graph entries → All (IsSettledOf dir) (take from graph)
known_settled dir entries tags graph from lasts known =
    let file = lasts.file in
    let old = lasts.graph in
    let held : (k : Descriptor) → has_key entries k ≡ true → IsSettled dir (blob_path k.digest) =
    λ k h.
    (let there : has_key old k ≡ true = sym (has_key-stored file old k) ∙ ap (λ (es : List Entry). has_key es k) lasts.layout.contents ∙ h in
    let it = found old k there in
    settled_of dir file (blob_path k.digest) lasts.is_honest (All-value_at (StaysOf dir file) old k it.0 lasts.keeps.blobs it.1)) in
    All-weaker (IsKnownOf dir entries) (IsSettledOf dir) (λ n h. elim h [ inl there ↦ held n.0 there | inr settled ↦ settled ]) (take from graph) known

-- ---- the files of a layout that was saved

-- the files of the keys that were settled and of those that lasted are left as they are
agree_saved : (old : Device) (left : File) (graph : List Node) (from : ℕ) (bytes : List ℕ) → LeftSaved old (drop from graph) bytes left → All (IsSettledOf old) (take from graph) → All (AgreeAt old.file left) graph
agree_saved old left graph from bytes saved settled =
    let before : All (AgreeAt old.file left) (take from graph) =
    All-weaker (IsSettledOf old) (AgreeAt old.file left) (λ n was. was (left (blob_path n.0.digest)) (saved.rest (blob_path n.0.digest) (index_blob n.0.digest))) (take from graph) settled in
    subst (λ (nodes : List Node). All (AgreeAt old.file left) nodes) (take-append-drop from graph) (All-append (AgreeAt old.file left) (take from graph) (drop from graph) before saved.blobs)

pub stored_same : (file left : File) (graph : List Node) → All (AgreeAt file left) graph → stored left graph ≡ stored file graph
stored_same file left [] h = refl
stored_same file left (n ∷ graph) h =
    ap (λ (o : Option (List ℕ)). (n.0, unwrap_or o []) ∷ stored left graph) (All-head (AgreeAt file left) n graph h)
    ∙ ap (λ (rest : List Entry). (n.0, blob_at file n.0.digest) ∷ rest) (stored_same file left graph (All-tail (AgreeAt file left) n graph h))

there_still : (file left : File) (graph : List Node) → All (AgreeAt file left) graph → All (IsThere file) graph → All (IsThere left) graph
there_still file left [] agree h = All-nil (IsThere left)
there_still file left (n ∷ graph) agree h =
    All-cons (IsThere left) n graph (subst (λ (o : Option (List ℕ)). IsSome o) (sym (All-head (AgreeAt file left) n graph agree)) (All-head (IsThere file) n graph h))
    (there_still file left graph (All-tail (AgreeAt file left) n graph agree) (All-tail (IsThere file) n graph h))

own_bytes : (file : File) (graph : List Node) → All (IsThere file) graph → All (HasBytes file) (stored file graph)
own_bytes file [] h = All-nil (HasBytes file)
own_bytes file (n ∷ graph) h =
    All-cons (HasBytes file) (n.0, blob_at file n.0.digest) (stored file graph) (some_or (file (blob_path n.0.digest)) (All-head (IsThere file) n graph h))
    (own_bytes file graph (All-tail (IsThere file) n graph h))

-- a sound closed layout, and the text of its index
pub record IsToSave (old : Device) (graph : List Node) (tags : Tags) (opened : OpenedIndex) (loose : List Descriptor) (bytes : List ℕ) : Type 0 where
  pub are_keys : All IsKey (keys_of graph)
  pub is : IsLayout old graph tags
  pub are_loose : AreLoose graph tags (said opened.content).entries loose
  pub is_index : IsCompact bytes (index_value (saved_content opened graph tags loose))

closed_left : (old : Device) (left : File) (graph : List Node) (tags : Tags) (opened : OpenedIndex) (loose : List Descriptor) (nodes : List Node) (bytes : List ℕ) → IsToSave old graph tags opened loose bytes
    → IsClosed graph → IsSound old.is_honest old.file graph → LeftSaved old nodes bytes left → All (AgreeAt old.file left) graph → IsClosedLayout left graph (stored old.file graph) tags
closed_left old left graph tags opened loose nodes bytes text closed sound saved agree =
    let there = there_still old.file left graph agree sound.are_there in
    let layout = text.is.has_layout_file sound.is_honest in
    record {
      opened = opened;
      are_keys = text.are_keys;
      closed = closed;
      is = inr (inr (record {
        layout = record { bytes = layout.bytes; is_there = saved.layout ∙ layout.is_there; version = layout.version };
        blobs = own_bytes left graph there;
        index = record { loose = loose; are_loose = text.are_loose; bytes = bytes; is_there = saved.index; is_index = text.is_index };
      }));
      are_there = there;
      contents = stored_same old.file left graph agree;
    }

-- ---- a save

-- while a closed layout is saved, a crash leaves what lasted, or the new one
pub left_layout : (old new : Device) (graph : List Node) (tags : Tags) (opened : OpenedIndex) (loose : List Descriptor) (from : ℕ) (bytes : List ℕ) (answer : Result Unit DirFault)
    → IsToSave old graph tags opened loose bytes → IsSaved old new (drop from graph) bytes answer → IsSound old.is_honest old.file graph → IsClosed graph → (entries : List Entry) (were : Tags) → Lasts old entries were
    → AreKnown old from graph entries → (left : File) → IsLeft new left → HasLayout left entries were ⊎ HasLayout left (stored old.file graph) tags
left_layout old new graph tags opened loose from bytes answer text saved sound closed entries were lasts known left may =
    elim (saved.left sound.is_honest left may) [
      | inl before ↦ inl (lasting_is_left old entries were lasts left before)
      | inr now ↦
          let agree = agree_saved old left graph from bytes now (known_settled old entries were graph from lasts known) in
          inr (has_own left graph (stored old.file graph) tags (closed_left old left graph tags opened loose (drop from graph) bytes text closed sound now agree))
    ]

-- what is so of each file that a crash leaves at a path is so of each outcome there
at_path : (dir : Device) (path : List ℕ) (P : Option (List ℕ) → Type 0) → dir.is_honest → ((left : File) → IsLeft dir left → P (left path)) → (x : Option (List ℕ)) → dir.may_leave path x → P x
at_path dir path P honest each x may =
    let left : File = λ q. cond (bytes_eq path q) x (dir.file q) in
    let here : bytes_eq path path ≡ true = (bytes_eq-Decides path path).1 refl in
    let is : IsLeft dir left = λ q. (elim (cases_Bool (bytes_eq path q)) [
      | inl same ↦ rw same (subst (λ (p : List ℕ). dir.may_leave p x) ((bytes_eq-Decides path q).0 same) may)
      | inr apart ↦ rw apart (dir.stays honest q)
    ]) in
    subst P (ap (λ (b : Bool). cond b x (dir.file path)) here) (each left is)

-- a closed layout that was saved lasts
pub saved_lasts : (old new : Device) (graph : List Node) (tags : Tags) (opened : OpenedIndex) (loose : List Descriptor) (from : ℕ) (bytes : List ℕ)
    → IsToSave old graph tags opened loose bytes → IsSaved old new (drop from graph) bytes (Ok tt) → IsSound old.is_honest old.file graph → IsClosed graph → (entries : List Entry) (were : Tags) → Lasts old entries were
    → AreKnown old from graph entries → Lasts new (stored old.file graph) tags
saved_lasts old new graph tags opened loose from bytes text saved sound closed entries were lasts known =
    let honest = saved.device.honest.0 sound.is_honest in
    let each = saved.settled sound.is_honest in
    let agree : (left : File) → IsLeft new left → All (AgreeAt old.file left) graph =
    λ left is. agree_saved old left graph from bytes (each left is) (known_settled old entries were graph from lasts known) in
    let here : IsLeft new new.file = new.stays honest in
    let now = each new.file here in
    record {
      is_honest = honest;
      file = new.file;
      graph = graph;
      layout = closed_left old new.file graph tags opened loose (drop from graph) bytes text closed sound now (agree new.file here);
      keeps = record {
        layout = at_path new layout_file (λ x. x ≡ new.file layout_file) honest (λ left is. (each left is).layout ∙ sym now.layout);
        index = at_path new index_file (λ x. x ≡ new.file index_file) honest (λ left is. (each left is).index ∙ sym now.index);
        blobs = All-weaker (Contains graph) (StaysOf new new.file)
            (λ n at. at_path new (blob_path n.0.digest) (λ x. x ≡ new.file (blob_path n.0.digest)) honest
            (λ left is. All-contains (AgreeAt old.file left) graph n (agree left is) at ∙ sym (All-contains (AgreeAt old.file new.file) graph n (agree new.file here) at))) graph (All-contains_itself graph);
      };
    }

-- what a layout keeps true stays true
pub IsLayout-saved : (old new : Device) (graph : List Node) (tags : Tags) (nodes : List Node) (bytes : List ℕ) (answer : Result Unit DirFault) → IsSaved old new nodes bytes answer → IsLayout old graph tags → IsLayout new graph tags
IsLayout-saved old new graph tags nodes bytes answer saved is = record {
  names = is.names;
  has_layout_file = λ honest. (let h = saved.device.honest.1 honest in HasLayoutFile-stays old.file new.file index_file (touches_whole old.file new.file index_file bytes (saved.whole h)) index_layout (is.has_layout_file h));
}

-- and it has the same in memory, and its contents
pub OnlyFiles-saved : {D : Type 0} (device : D → Device) (old new : LayoutState D) (nodes : List Node) (bytes : List ℕ) (answer : Result Unit DirFault) → SameMemory old new
    → IsSaved (device old.dir) (device new.dir) nodes bytes answer → OnlyFiles device old new
OnlyFiles-saved device old new nodes bytes answer memory saved =
    let was = device old.dir in
    let is = device new.dir in
    let touches : was.is_honest → Touches was.file is.file index_file = λ honest. touches_whole was.file is.file index_file bytes (saved.whole honest) in
    record {
      memory = memory;
      contents = λ honest. stored-index was.file is.file old.graph (touches honest);
      sound = rw memory.graph (λ sound. IsSound-index was.is_honest is.is_honest was.file is.file old.graph saved.device.honest.0 (touches sound.is_honest) sound);
    }

-- why it was not saved
pub settled_cause : (old new : Device) (fault : DirFault) → AfterSettling old new (Err fault) → IsSettledFault old new (of_device fault)
settled_cause old new dir.Failed after = after.failed refl
settled_cause old new dir.Memory after = tt

-- and what became of the directory, besides its files
pub settled_device : (old new : Device) (fault : DirFault) → AfterSettling old new (Err fault) → AfterPuts old new (IsErrOf {T = Unit} (Err (of_device fault)) layout.Device × IsRaised old.failures new.failures)
settled_device old new dir.Failed after = record {
  honest = after.honest;
  link = after.link;
  reads = after.reads;
  raised = λ f. f.1;
  calm = λ less. elim (after.failed refl) [ inl unread ↦ absurd (omega (arith, less, unread.1)) | inr raised ↦ (refl, raised) ];
  failures = after.failures;
}
settled_device old new dir.Memory after = record {
  honest = after.honest;
  link = after.link;
  reads = after.reads;
  raised = λ f. f.1;
  calm = λ less. absurd (cc (after.calm less));
  failures = after.failures;
}
