-- What a prune has done when it ends.
use Rattle.std.proofs.Common.{◌≡◌, ◌≢◌, ℕ, Bool, true, false, inl, inr, List, length, get_or, filter, Option, Some, None, is_some, refl, sym, ap, subst, ◌∙◌, map, not, take, replicate, zero, suc, [], ◌∷◌, ◌<◌, ◌⊎◌, Less}
use Rattle.std.specs.Prelude.{◌↔◌, Contains, IsTrue}
use Rattle.std.specs.BTreeSet.{BTreeSet, contains}
use Rattle.std.specs.List.{All}
use Rattle.std.specs.Map.{keys_of}
use Rattle.std.specs.Cmp.Lexicographic.{slice_cmp}
use Rattle.std.specs.List.{slice_get}
use Rattle.std.specs.List.Sorted.{IsStrictlySortedBy}
use Rattle.std.specs.Ordering.{nat_cmp, is_eq}
use Rattle.std.proofs.lemmas.List.Elements.{All-nil, All-cons, All-contains, All-head, All-tail, Contains-get_or}
use Rattle.std.proofs.lemmas.Map.Keys.{sorted_tail}
use Rattle.std.proofs.lemmas.Map.Text.{is_eq-slice_cmp}
use Rattle.std.proofs.lemmas.Map.Views.{All-after_first}
use Rattle.std.proofs.lemmas.Bool.{cases_Bool}
use Rattle.std.proofs.lemmas.Option.{same_Some, slice_get-get_or}
use Rattle.std.proofs.lemmas.Slice.Eq.{bytes_eq-Decides}
use Rattle.oci_manifest.specs.Descriptor.{Descriptor, key_cmp}
use Rattle.oci_store.specs.Content.{Entry}
use Rattle.oci_store.specs.Graph.{IsEdge, Node}
use Rattle.oci_store.specs.Keyed.{has_key, value_at}
use Rattle.oci_store.specs.Tags.{Tags}
use Rattle.oci_store.proofs.Lookups.{has_key-from_Contains}
use Rattle.oci_layout_store.specs.Blobs.{blob_path, stored}
use Rattle.oci_dir.specs.Device.{Device, File, Touches}
use Rattle.oci_layout_store.specs.Index.{index_file, HasIndex}
use Rattle.oci_layout_store.specs.Layout.{OpenedIndex}
use Rattle.oci_layout_store.proofs.Files.{index_blob}
use Rattle.oci_layout_store.proofs.Prunable.{stored-apart, IsApart, IsSound-apart}
use Rattle.oci_layout_store.proofs.Stored.{blob_path-injective}
use Rattle.oci_prune.specs.Aside.{Lists, ListsAside}
use Rattle.oci_prune.specs.Plan.{AreUnneeded, HasDigestIn, IsSafe, NeedsFile}
use Rattle.oci_prune.specs.Pruned.{is_gone, kept_of, AllAmong, AreApart, HasOnlyNeeded, IsGone, IsNone, IsOfNoKey, IsPathAmong, IsPathOf, IsThere, IsTouchedUnsaved, Spares}
use Rattle.oci_prune.specs.declared.plan.PrunedFile.{PrunedFile}
use Rattle.oci_prune.specs.declared.plan.PrunePlan.{PrunePlan}
use Rattle.oci_prune.proofs.Arriving.{value_at-filter}
use Rattle.oci_prune.proofs.Elements.{no_element, Contains-head, Contains-tail, Contains-cons}
use Rattle.oci_prune.proofs.Sparing.{apart_both, map_same, path_among, spares_both, spares_index}
use Rattle.oci_prune.proofs.Leaving.{kept_value, kept_from_left, stored_left, decide_digest}

abbrev Set : Type 0
Set = BTreeSet Descriptor

-- no key that is left needs a file that is to go
pub unneeded_left : {entries : List Entry} (file : File) (graph now : List Node) (set : Set) (files : List PrunedFile) → AreUnneeded file graph entries set files → now ≡ kept_of set graph → All (λ (f : PrunedFile). All (λ (k : Descriptor). k.digest ≢ f.digest) (keys_of now)) files
unneeded_left file graph now set files are left place d lt at e within same =
    let f = get_or files place d in
    let k = get_or (keys_of now) at e in
    let held : has_key now k ≡ true = has_key-from_Contains now k (Contains-get_or (keys_of now) at e within) in
    let kept = kept_from_left set graph k (subst (λ (g : List Node). has_key g k ≡ true) left held) in
    ((are.each f).0 (Contains-get_or files place d lt)).unneeded (k, inl kept, same)

-- no held key has a file that is not held
pub unheld_of_no_key : {entries : List Entry} (file : File) (graph : List Node) (set : Set) (files : List PrunedFile) → AreUnneeded file graph entries set files → AllAmong false (IsOfNoKey graph) files
unheld_of_no_key file graph set files are place d lt flag at e within same =
    let f = get_or files place d in
    let k = get_or (keys_of graph) at e in
    let held : has_key graph k ≡ true = has_key-from_Contains graph k (Contains-get_or (keys_of graph) at e within) in
    cc (sym flag ∙ ((are.each f).0 (Contains-get_or files place d lt)).held.1 (k, held, same))

-- after the removal of files that no key has and the save, no key that is left needs a file that is to go
pub unneeded_after : {entries : List Entry} (file : File) (graph same left : List Node) (set : Set) (files listed : List PrunedFile) → AreUnneeded file graph entries set files → same ≡ graph → left ≡ kept_of set same → listed ≡ files → AllAmong true (IsOfNoKey left) listed
unneeded_after file graph same left set files listed are first second is =
    subst (λ (fs : List PrunedFile). AllAmong true (IsOfNoKey left) fs) (sym is)
    (λ place d lt flag. unneeded_left file graph left set files are (second ∙ ap (λ (g : List Node). kept_of set g) first) place d lt)

-- the contents after the removal of files that no key has, the save, and the removal of the others
pub contents_left : (a b c d : File) (graph same kept now : List Node) (set : Set) → now ≡ kept → kept ≡ kept_of set same → same ≡ graph → stored d kept ≡ stored c kept → stored c kept ≡ stored b kept → stored b graph ≡ stored a graph
    → stored d now ≡ filter (λ (e : Entry). contains key_cmp set e.0) (stored a graph)
contents_left a b c d graph same kept now set e3 e2 e1 third second first =
    ap (stored d) e3 ∙ third ∙ second ∙ ap (stored b) e2 ∙ stored_left b set same ∙ ap (λ (es : List Entry). filter (λ (e : Entry). contains key_cmp set e.0) es) (ap (stored b) e1 ∙ first)

not_index : (digest : List ℕ) → index_file ≡ blob_path digest → ⊥
not_index digest is = cc (sym (index_blob digest) ∙ (bytes_eq-Decides index_file (blob_path digest)).1 is)

flagged : (graph : List Node) (digest : List ℕ) → (b : Bool) × (IsTrue b ↔ HasDigestIn (λ (k : Descriptor). has_key graph k ≡ true) digest)
flagged graph digest =
    elim (decide_digest graph digest) [
      | inl p ↦ (true, (λ t. p, λ h. refl))
      | inr never ↦ (false, (λ t. cc t, λ h. absurd (never h)))
    ]

-- what a prune touches: the files that no key has, the index, and the other files
pub changed_only : (a b c d : Device) (graph kept : List Node) (files : List PrunedFile) → a.is_honest → Spares a b graph (IsPathAmong false files) → Spares b c kept (λ (path : List ℕ). index_file ≡ path) → Spares c d kept (IsPathAmong true files)
    → (path : List ℕ) → ((index_file ≡ path) ⊎ IsPathOf files path → ⊥) → d.file path ≡ a.file path
changed_only a b c d graph kept files honest first second third path free =
    let later = first.honest.0 honest in
    third.other (second.honest.0 later) path (λ p. free (inr (path_among true files path p))) ∙ second.other later path (λ is. free (inl is)) ∙ first.other honest path (λ p. free (inr (path_among false files path p)))

-- where the index is not saved after the removal of files that no key has, each key keeps its file
pub spares_unsaved : (a b c : Device) (graph left : List Node) (plan : PrunePlan) → Spares a b graph (IsPathAmong false plan.files.items) → Spares b c left (λ (path : List ℕ). index_file ≡ path) → Spares a c graph (IsTouchedUnsaved plan)
spares_unsaved a b c graph left plan first second =
    spares_both a b c graph (IsPathAmong false plan.files.items) (λ (path : List ℕ). index_file ≡ path) (IsTouchedUnsaved plan) first
    (spares_index b c graph touches (λ h. stored-apart b.file c.file index_file graph apart (touches h)) (λ sound. IsSound-apart b.is_honest c.is_honest b.file c.file index_file graph second.honest.0 apart (touches sound.is_honest) sound) second.honest second.reads)
    (λ path p. inr p) (λ path is. inl is)
  where
    touches : b.is_honest → Touches b.file c.file index_file
    touches h path apart_from = second.other h path (λ is. cc (sym apart_from ∙ (bytes_eq-Decides index_file path).1 is))

    apart : All (IsApart index_file) graph
    apart place d lt = index_blob (get_or graph place d).0.digest

-- only the index and these files changed, and these files are gone
pub only_needed : (old new : Device) (graph now : List Node) (roots : List Descriptor) (set : Set) (files : List PrunedFile) → IsSafe graph roots set → AreUnneeded old.file graph (stored old.file graph) set files → now ≡ kept_of set graph
    → stored new.file now ≡ filter (λ (e : Entry). contains key_cmp set e.0) (stored old.file graph) → ((path : List ℕ) → ((index_file ≡ path) ⊎ IsPathOf files path → ⊥) → new.file path ≡ old.file path) → All (IsGone new.file) files → HasOnlyNeeded new.file now
only_needed old new graph now roots set files safe are left contents other gone digest is never = at (old.file (blob_path digest)) refl
  where
    free : old.file (blob_path digest) ≡ None → IsPathOf files (blob_path digest) → ⊥
    free none p =
        let there = ((are.each p.0).0 p.1).there in
        cc (sym none ∙ subst (λ (path : List ℕ). old.file path ≡ Some there.0) p.2 there.1)

    held_now : (k : Descriptor) → contains key_cmp set k ≡ true → has_key now k ≡ true
    held_now k kept = subst (λ (g : List Node). has_key g k ≡ true) (sym left) (ap is_some (kept_value set graph k kept) ∙ safe.held k kept)

    edge_now : (from k : Descriptor) → contains key_cmp set from ≡ true → IsEdge graph from k → IsEdge now from k
    edge_now from k kept edge = subst (λ (g : List Node). IsEdge g from k) (sym left) (edge.0, kept_value set graph from kept ∙ edge.1, edge.2)

    aside_now : (from k : Descriptor) → contains key_cmp set from ≡ true → ListsAside (stored old.file graph) from k → ListsAside (stored new.file now) from k
    aside_now from k kept lists =
        let stays : value_at (stored new.file now) from ≡ value_at (stored old.file graph) from = ap (λ (es : List Entry). value_at es from) contents ∙ value_at-filter (contains key_cmp set) true (stored old.file graph) from kept in
        (lists.0, lists.1, stays ∙ lists.2, lists.3, lists.4)

    lists_now : (from k : Descriptor) → contains key_cmp set from ≡ true → Lists graph (stored old.file graph) from k → Lists now (stored new.file now) from k
    lists_now from k kept lists = elim lists [ inl edge ↦ inl (edge_now from k kept edge) | inr aside ↦ inr (aside_now from k kept aside) ]

    unneeded : NeedsFile graph (stored old.file graph) (λ (k : Descriptor). contains key_cmp set k ≡ true) digest → ⊥
    unneeded p = never (p.0, elim p.1 [ inl is ↦ inl (held_now p.0 is) | inr by ↦ inr (by.0, held_now by.0 by.1, lists_now by.0 p.0 by.1 by.2) ], p.2)

    at : (found : Option (List ℕ)) → found ≡ old.file (blob_path digest) → new.file (blob_path digest) ≡ None
    at None e = other (blob_path digest) (λ touched. elim touched [ inl is ↦ not_index digest is | inr p ↦ free (sym e) p ]) ∙ sym e
    at (Some bytes) e =
        let flag = flagged graph digest in
        let f : PrunedFile = record { digest = digest; length = length bytes; is_held = flag.0 } in
        All-contains (IsGone new.file) files f gone ((are.each f).1 (record { is_digest = is; there = (bytes, sym e, refl); unneeded = unneeded; held = flag.1 }))

-- the index is none of the files
pub index_apart : (is_held : Bool) (files : List PrunedFile) → IsPathAmong is_held files index_file → ⊥
index_apart is_held files p = not_index p.0.digest (sym p.3)

pub has_index-stays : (old new : File) (graph now : List Node) (tags later : Tags) (opened left : OpenedIndex) → new index_file ≡ old index_file → now ≡ graph → later ≡ tags → left ≡ opened → HasIndex old graph tags opened → HasIndex new now later left
has_index-stays old new graph now tags later opened left e g t o h = rw (g, t, o) (record { loose = h.loose; are_loose = h.are_loose; bytes = h.bytes; is_there = e ∙ h.is_there; is_index = h.is_index })

-- ---- the flags of the files

pub are_there : {entries : List Entry} (file : File) (graph : List Node) (set : Set) (files : List PrunedFile) → AreUnneeded file graph entries set files → All (IsThere file) files
are_there file graph set files are place d lt = ap is_some (((are.each (get_or files place d)).0 (Contains-get_or files place d lt)).there.1)

-- what is so of all files is so of those that are held or not
pub among_all : (is_held : Bool) (is_so : PrunedFile → Type 0) (files : List PrunedFile) → All is_so files → AllAmong is_held is_so files
among_all is_held is_so files all place d lt flag = all place d lt

-- what is so of the files that are held, and of those that are not, is so of all
pub all_among : (is_so : PrunedFile → Type 0) (files : List PrunedFile) → AllAmong false is_so files → AllAmong true is_so files → All is_so files
all_among is_so files unheld held place d lt =
    elim (cases_Bool (get_or files place d).is_held) [
      | inl is ↦ held place d lt is
      | inr never ↦ unheld place d lt never
    ]

-- a file that is held has not the path of one that is not
pub not_among : (is_held : Bool) (files : List PrunedFile) (place : ℕ) (d : PrunedFile) → place < length files → AreApart files → ((get_or files place d).is_held ≡ is_held → ⊥) → IsPathAmong is_held files (blob_path (get_or files place d).digest) → ⊥
not_among is_held files place d lt apart other p =
    let f = get_or files place d in
    let j = p.1.0 in
    let at_g : slice_get files j ≡ Some p.0 = slice_get-get_or files j p.0 p.1.1 ∙ ap (λ (x : PrunedFile). Some x) p.1.2 in
    let at_f : slice_get files place ≡ Some f = slice_get-get_or files place d lt in
    apart_both files place j f p.0 apart at_f at_g
    (λ same. (let is : f ≡ p.0 = same_Some f p.0 (sym at_f ∙ ap (slice_get files) same ∙ at_g) in other (ap (λ (x : PrunedFile). x.is_held) is ∙ p.2))) (sym p.3)

-- what other files are, those that are held or not stay
pub stay_among : (is_held other : Bool) (a b : Device) (graph : List Node) (files : List PrunedFile) → a.is_honest → (other ≡ is_held → ⊥) → AreApart files → Spares a b graph (IsPathAmong other files) → (is_so : Option (List ℕ) → Type 0)
    → AllAmong is_held (λ (f : PrunedFile). is_so (a.file (blob_path f.digest))) files → AllAmong is_held (λ (f : PrunedFile). is_so (b.file (blob_path f.digest))) files
stay_among is_held other a b graph files honest differ apart spares is_so all place d lt flag =
    let f = get_or files place d in
    subst is_so (sym (spares.other honest (blob_path f.digest) (not_among other files place d lt apart (λ same. differ (sym same ∙ flag))))) (all place d lt flag)

-- a change of the index alone leaves each file
pub stay_indexed : (a b : Device) (graph : List Node) (files : List PrunedFile) → a.is_honest → Spares a b graph (λ (path : List ℕ). index_file ≡ path) → (is_held : Bool) (is_so : Option (List ℕ) → Type 0)
    → AllAmong is_held (λ (f : PrunedFile). is_so (a.file (blob_path f.digest))) files → AllAmong is_held (λ (f : PrunedFile). is_so (b.file (blob_path f.digest))) files
stay_indexed a b graph files honest spares is_held is_so all place d lt flag = subst is_so (sym (spares.other honest (blob_path (get_or files place d).digest) (not_index (get_or files place d).digest))) (all place d lt flag)

-- where no file changes, what is gone stays gone
pub gone_still : (is_held : Bool) (a b : Device) (graph : List Node) (files : List PrunedFile) → a.is_honest → Spares a b graph IsNone → AllAmong is_held (IsGone a.file) files → AllAmong is_held (IsGone b.file) files
gone_still is_held a b graph files honest spares gone place d lt flag = spares.other honest (blob_path (get_or files place d).digest) (λ never. never) ∙ gone place d lt flag

pub flags_still : (a b : Device) (graph : List Node) (files : List PrunedFile) → a.is_honest → Spares a b graph IsNone → map (is_gone a.file) files ≡ map (is_gone b.file) files
flags_still a b graph files honest spares =
    map_same (is_gone a.file) (is_gone b.file) files (λ place d lt. sym (ap (λ (o : Option (List ℕ)). not (is_some o)) (spares.other honest (blob_path (get_or files place d).digest) (λ never. never))))

-- where each file is there, no flag is set
pub flags_none : (file : File) (files : List PrunedFile) → All (IsThere file) files → replicate (length files) false ≡ map (is_gone file) files
flags_none file [] there = refl
flags_none file (f ∷ files) there =
    ap (λ (b : Bool). b ∷ replicate (length files) false) (sym (ap not (All-head (IsThere file) f files there)))
    ∙ ap (λ (bs : List Bool). is_gone file f ∷ bs) (flags_none file files (All-tail (IsThere file) f files there))

less_apart : (x y : List ℕ) → slice_cmp nat_cmp x y ≡ Less → x ≡ y → ⊥
less_apart x y less same =
    let itself : is_eq (slice_cmp nat_cmp x x) ≡ true = is_eq-slice_cmp x x ∙ (bytes_eq-Decides x x).1 refl in
    let below : slice_cmp nat_cmp x x ≡ Less = ap (slice_cmp nat_cmp x) same ∙ less in
    cc (sym itself ∙ ap is_eq below)

abbrev digest_in : PrunedFile → List ℕ
digest_in f = f.digest

-- in byte order, no digest is that of an earlier file
digests_apart : (files : List PrunedFile) → IsStrictlySortedBy (slice_cmp nat_cmp) (map digest_in files) → (place : ℕ) (f : PrunedFile) → slice_get files place ≡ Some f → All (λ (g : PrunedFile). g.digest ≢ f.digest) (take place files)
digests_apart [] order place f at = cc at
digests_apart (x ∷ files) order zero f at = All-nil (λ (g : PrunedFile). g.digest ≢ f.digest)
digests_apart (x ∷ files) order (suc place) f at =
    let above = All-after_first (slice_cmp nat_cmp) x.digest (map digest_in files) order in
    let there : Contains (map digest_in files) f.digest = in_map files place f at in
    All-cons (λ (g : PrunedFile). g.digest ≢ f.digest) x (take place files) (less_apart x.digest f.digest (All-contains (λ (d : List ℕ). slice_cmp nat_cmp x.digest d ≡ Less) (map digest_in files) f.digest above there))
    (digests_apart files (sorted_tail (slice_cmp nat_cmp) x.digest (map digest_in files) order) place f at)
  where
    in_map : (fs : List PrunedFile) (i : ℕ) (h : PrunedFile) → slice_get fs i ≡ Some h → Contains (map digest_in fs) h.digest
    in_map [] i h e = cc e
    in_map (y ∷ fs) zero h e = let is : y ≡ h = cc e in subst (λ (z : PrunedFile). Contains (y.digest ∷ map digest_in fs) z.digest) is (Contains-head y.digest (map digest_in fs))
    in_map (y ∷ fs) (suc i) h e = Contains-tail y.digest (map digest_in fs) h.digest (in_map fs i h e)

pub are_apart : {entries : List Entry} (file : File) (graph : List Node) (set : Set) (files : List PrunedFile) → AreUnneeded file graph entries set files → AreApart files
are_apart file graph set files are place f at earlier_place d lt same =
    let g = get_or (take place files) earlier_place d in
    let inside : Contains (take place files) g = Contains-get_or (take place files) earlier_place d lt in
    let g_digest = ((are.each g).0 (Contains-take place files g inside)).is_digest in
    let f_digest = ((are.each f).0 (contains_at files place f at)).is_digest in
    All-contains (λ (h : PrunedFile). h.digest ≢ f.digest) (take place files) g (digests_apart files are.order place f at) inside (blob_path-injective g.digest f.digest g_digest f_digest same)
  where
    contains_at : (fs : List PrunedFile) (i : ℕ) (h : PrunedFile) → slice_get fs i ≡ Some h → Contains fs h
    contains_at [] i h e = cc e
    contains_at (y ∷ fs) zero h e = let is : y ≡ h = cc e in subst (λ (z : PrunedFile). Contains (y ∷ fs) z) is (Contains-head y fs)
    contains_at (y ∷ fs) (suc i) h e = Contains-tail y fs h (contains_at fs i h e)

    Contains-take : (n : ℕ) (fs : List PrunedFile) (h : PrunedFile) → Contains (take n fs) h → Contains fs h
    Contains-take zero fs h c = absurd (no_element h c)
    Contains-take (suc n) [] h c = absurd (no_element h c)
    Contains-take (suc n) (y ∷ fs) h c = elim (Contains-cons y (take n fs) h c) [ inl is ↦ subst (λ (z : PrunedFile). Contains (y ∷ fs) z) is (Contains-head y fs) | inr later ↦ Contains-tail y fs h (Contains-take n fs h later) ]

-- a change of the index alone leaves the flags right
pub flags_indexed : (a b : Device) (graph : List Node) (files : List PrunedFile) → a.is_honest → Spares a b graph (λ (path : List ℕ). index_file ≡ path) → map (is_gone a.file) files ≡ map (is_gone b.file) files
flags_indexed a b graph files honest spares =
    map_same (is_gone a.file) (is_gone b.file) files (λ place d lt. sym (ap (λ (o : Option (List ℕ)). not (is_some o)) (spares.other honest (blob_path (get_or files place d).digest) (not_index (get_or files place d).digest))))
