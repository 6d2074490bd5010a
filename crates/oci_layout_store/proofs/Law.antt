-- What an index that was saved says, and what is reached from it.
use Rattle.std.proofs.Common.{◌≡◌, ℕ, ◌⊎◌, zero, suc, Bool, true, false, cond, not, is_some, ◌≢◌, inl, inr, List, [], ◌∷◌, ◌++◌, map, Option, Some, None, Less, Greater, append-nil, append_assoc, refl, sym, ap, subst, ◌∙◌, arith}
use Rattle.std.proofs.lemmas.Bool.{cases_Bool, or_right}
use Rattle.std.specs.Prelude.{Contains, find}
use Rattle.std.specs.List.{All, filter, flat_map}
use Rattle.std.specs.Map.{keys_of, values_of}
use Rattle.std.proofs.lemmas.List.Elements.{All-head, All-tail, All-nil, All-weaker, All-cons, All-push, All-append, All-contains, Contains-append_cases, Contains-append_left, Contains-append_right, Contains-push}
use Rattle.oci_manifest.specs.Descriptor.{Descriptor, IsKey, same_key, is_among}
use Rattle.oci_store.specs.Tags.{Tags}
use Rattle.oci_layout_store.specs.Index.{index_value, IsCompact}
use Rattle.oci_layout_store.specs.Saved.{AreLoose, IsLoose, IsTop, loose_entries, saved_entries, tag_entry}
use Rattle.oci_layout_store.specs.Law.{IsWhole, KeysShareBytes, OpensAsSaved}
use Rattle.std.specs.Prelude.{IsSome}
use Rattle.std.specs.Cmp.Lexicographic.{slice_cmp}
use Rattle.std.specs.List.{AllByRecursion}
use Rattle.std.specs.List.Sorted.{IsStrictlySortedBy}
use Rattle.std.specs.Ordering.{nat_cmp, ordering_reverse}
use Rattle.std.proofs.lemmas.Cmp.{nat_list_cmp_total}
use Rattle.oci_store.specs.Tags.{set_tag}
use Rattle.oci_layout_store.specs.Blobs.{blob_path}
use Rattle.oci_layout_store.specs.Entries.{IndexContent, IndexEntry, IsIndex, IsIndexFile, ReadIndex, absent_in, entry_keys, named, said}
use Rattle.oci_layout_store.proofs.Opened.{tag_named-set, absent_in-held}
use Rattle.oci_layout_store.proofs.Read.{index_as_is, one_index, strictly_stated}
use Rattle.oci_layout_store.proofs.SavedAll.{all_saved}
use Rattle.oci_layout_store.proofs.Written.{reads_as_written, whole-new}
use Rattle.oci_manifest.proofs.Keys.{Decides-same_key}
use Rattle.oci_store.specs.Closed.{IsClosed}
use Rattle.oci_store.specs.Graph.{Node, nodes_of}
use Rattle.oci_store.specs.Keyed.{value_at, has_key, HasAll}
use Rattle.oci_store.proofs.Lookups.{found, All-value_at, Contains-from_has_key}
use Rattle.oci_layout_store.specs.Blobs.{blob_at, stored}
use Rattle.oci_store.specs.Content.{Entry}
use Rattle.oci_dir.specs.Device.{File}
use Rattle.oci_store.specs.Visiting.{candidates, IsVisiting, start, next}
use Rattle.oci_layout_store.specs.Opened.{listed_in, any, holds, is_there, lists, IsWalk, held_in}
use Rattle.oci_manifest.specs.MediaTypes.{kind_of}
use Rattle.oci_manifest.specs.declared.kind.Kind.TheVariants.{Leaf}
use Rattle.oci_layout_store.proofs.Stored.{has_key-first, has_key-more, has_key-stored, value_at-stored}
use Rattle.oci_layout_store.proofs.Walk.{all_held, held_lists, leaf_lists, leaf_or, unheld_lists}

-- the entries of a save where nothing is remembered
abbrev new_entries : Tags → List Descriptor → List IndexEntry
new_entries tags loose = map (tag_entry []) tags ++ loose_entries loose

-- the keys of the entries of a save
saved_keys : (tags : Tags) (loose : List Descriptor) → entry_keys (new_entries tags loose) ≡ values_of tags ++ loose
saved_keys [] [] = refl
saved_keys [] (k ∷ loose) = ap (λ (ks : List Descriptor). k ∷ ks) (saved_keys [] loose)
saved_keys (t ∷ tags) loose = ap (λ (ks : List Descriptor). t.1 ∷ ks) (saved_keys tags loose)

-- ---- what is reached is held
all_listed : (G : Descriptor → Type 0) (f : Descriptor → List Descriptor) → ((k : Descriptor) → G k → All G (f k)) → (items : List Descriptor) → All G items → All G (flat_map f items)
all_listed G f each [] h = All-nil G
all_listed G f each (k ∷ items) h = All-append G (f k) (flat_map f items) (each k (All-head G k items h)) (all_listed G f each items (All-tail G k items h))

found_all : (G : Descriptor → Type 0) (p : Descriptor → Bool) (ks : List Descriptor) (k : Descriptor) → All G ks → find p ks ≡ Some k → G k
found_all G p [] k h e = cc e
found_all G p (x ∷ ks) k h e =
    elim (cases_Bool (p x)) [
      | inl passes ↦ let is : x ≡ k = cc (rw passes at e) in subst G is (All-head G x ks h)
      | inr fails ↦ found_all G p ks k (All-tail G x ks h) (rw fails at e)
    ]

pub visited_all : (G : Descriptor → Type 0) (as_is : Bool) (file : File) (starts items : List Descriptor) → All G starts → ((k : Descriptor) → G k → All G (lists as_is file k)) → IsVisiting (lists as_is file) any starts items → All G items
visited_all G as_is file starts _ hs each start = All-nil G
visited_all G as_is file starts _ hs each (next {items} {k} v e) =
    let ih = visited_all G as_is file starts items hs each v in
    All-push G items k ih (found_all G (λ j. not (is_among items j)) (candidates (lists as_is file) starts items) k (All-append G starts (flat_map (lists as_is file) items) hs (all_listed G (lists as_is file) each items ih)) e)

-- ---- what is held is reached
pub one_is : {X : Type 0} (x y : X) → Contains (x ∷ []) y → x ≡ y
one_is x y (zero, lt, e) = e
one_is x y (suc i, lt, e) = absurd (omega (arith, lt))

pub Contains-cons_cases : (x : Descriptor) (ks : List Descriptor) (k : Descriptor) → Contains (x ∷ ks) k → (x ≡ k) ⊎ Contains ks k
Contains-cons_cases x ks k c = elim (Contains-append_cases (x ∷ []) ks k c) [ inl here ↦ inl (one_is x k here) | inr later ↦ inr later ]

none_found : (p : Descriptor → Bool) (ks : List Descriptor) (k : Descriptor) → find p ks ≡ None → Contains ks k → p k ≡ false
none_found p [] k e c = absurd (omega (arith, c.1))
none_found p (x ∷ ks) k e c =
    elim (cases_Bool (p x)) [
      | inl passes ↦ cc (rw passes at e)
      | inr fails ↦
          elim (Contains-cons_cases x ks k c) [
            | inl is ↦ subst (λ (y : Descriptor). p y ≡ false) is fails
            | inr later ↦ none_found p ks k (rw fails at e) later
          ]
    ]

pub reached : (as_is : Bool) (file : File) (starts visited : List Descriptor) (k : Descriptor) → IsWalk as_is file starts visited → Contains (candidates (lists as_is file) starts visited) k → is_among visited k ≡ true
reached as_is file starts visited k walk c = not_not (is_among visited k) (none_found (λ j. not (is_among visited j)) (candidates (lists as_is file) starts visited) k walk.is_whole c)
  where
    not_not : (b : Bool) → not b ≡ false → b ≡ true
    not_not true h = refl
    not_not false h = cc h

-- ---- a sound graph
abbrev pub Lists : File → Node → Type 0
Lists file n = n.1 ≡ listed_in file n.0

first_of_two : (n m : Node) (g h : List Node) → n ∷ g ≡ m ∷ h → (n ≡ m) × (g ≡ h)
first_of_two n m g h e = (cc e, cc e)

pub each_lists : (file : File) (graph all : List Node) → graph ≡ all → all ≡ nodes_of (stored file graph) → All (Lists file) graph
each_lists file [] all e f = All-nil (Lists file)
each_lists file (n ∷ graph) all e f =
    let both = first_of_two n (n.0, listed_in file n.0) graph (nodes_of (stored file graph)) (e ∙ f) in
    All-cons (Lists file) n graph (ap (λ (m : Node). m.1) both.0) (each_lists file graph graph refl both.1)

-- what a key of a closed sound graph lists is there
pub listed_held : (file : File) (graph : List Node) → IsClosed graph → All (Lists file) graph → (k : Descriptor) → has_key graph k ≡ true → HasAll graph (listed_in file k)
listed_held file graph closed are k h =
    let it = found graph k h in
    let all : HasAll graph it.0 = All-value_at (λ (n : Node). HasAll graph n.1) graph k it.0 closed it.1 in
    let same : it.0 ≡ listed_in file k = All-value_at (Lists file) graph k it.0 are it.1 in
    subst (λ (ks : List Descriptor). HasAll graph ks) same all

-- what its file lists, or nothing
pub some_listed : (G : Descriptor → Type 0) (as_is : Bool) (file : File) (k : Descriptor) → All G (listed_in file k) → All G (lists as_is file k)
some_listed G as_is file k h = elim (cases_Bool (holds as_is file k)) [
  | inl held ↦ subst (λ (ks : List Descriptor). All G ks) (sym (held_lists as_is file k held)) h
  | inr not ↦ subst (λ (ks : List Descriptor). All G ks) (sym (unheld_lists as_is file k not)) (All-nil G)
]

pub among_from : (ks : List Descriptor) (k : Descriptor) → Contains ks k → is_among ks k ≡ true
among_from [] k c = absurd (omega (arith, c.1))
among_from (x ∷ ks) k c =
    elim (Contains-cons_cases x ks k c) [
      | inl is ↦ let same : same_key x k ≡ true = (Decides-same_key x k).1 is in rw same refl
      | inr later ↦ let ih = among_from ks k later in rw ih (or_right (same_key x k) true refl)
    ]

pub Contains_among : (ks : List Descriptor) (k : Descriptor) → is_among ks k ≡ true → Contains ks k
Contains_among [] k h = cc h
Contains_among (x ∷ ks) k h =
    elim (cases_Bool (same_key x k)) [
      | inl same ↦ subst (λ (y : Descriptor). Contains (x ∷ ks) y) ((Decides-same_key x k).0 same) (Contains-append_left (x ∷ []) ks x (Contains-push [] x))
      | inr apart ↦ Contains-append_right (x ∷ []) ks k (Contains_among ks k (rw apart at h))
    ]

in_flat : (f : Descriptor → List Descriptor) (items : List Descriptor) (h k : Descriptor) → Contains items h → Contains (f h) k → Contains (flat_map f items) k
in_flat f [] h k c d = absurd (omega (arith, c.1))
in_flat f (x ∷ items) h k c d =
    elim (Contains-cons_cases x items h c) [
      | inl is ↦ Contains-append_left (f x) (flat_map f items) k (subst (λ (y : Descriptor). Contains (f y) k) (sym is) d)
      | inr later ↦ Contains-append_right (f x) (flat_map f items) k (in_flat f items h k later d)
    ]

abbrev Unlisted : Descriptor → Node → Type 0
Unlisted k n = is_among n.1 k ≡ false

-- a held key lists it, or none does
holder_of : (file : File) (graph : List Node) → All (Lists file) graph → (k : Descriptor) → ((h : Descriptor) × (has_key graph h ≡ true) × (is_among (listed_in file h) k ≡ true)) ⊎ All (Unlisted k) graph
holder_of file [] are k = inr (All-nil (Unlisted k))
holder_of file (m ∷ graph) are k =
    elim (cases_Bool (is_among m.1 k)) [
      | inl here ↦ inl (m.0, has_key-first m graph, subst (λ (ks : List Descriptor). is_among ks k ≡ true) (All-head (Lists file) m graph are) here)
      | inr gone ↦
          elim (holder_of file graph (All-tail (Lists file) m graph are) k) [
            | inl later ↦ inl (later.0, has_key-more m graph later.0 later.1, later.2)
            | inr nobody ↦ inr (All-cons (Unlisted k) m graph gone nobody)
          ]
    ]

is_start : (graph : List Node) (tags : Tags) (loose : List Descriptor) → AreLoose graph tags [] loose → (h : Descriptor) → has_key graph h ≡ true → IsTop graph h → Contains (values_of tags ++ loose) h
is_start graph tags loose are h held top =
    elim (cases_Bool (is_among (values_of tags) h)) [
      | inl tagged ↦ Contains-append_left (values_of tags) loose h (Contains_among (values_of tags) h tagged)
      | inr untagged ↦
          let is : IsLoose graph tags h = record { is_there = held; untagged = λ c. cc (untagged, among_from (values_of tags) h c); is_top = top } in
          Contains-append_right (values_of tags) loose h ((are.each h).1 (is, λ c. absurd (omega (arith, c.1))))
    ]

-- each key of a sound graph is visited, if each at the top is a start
pub covered : (as_is : Bool) (file : File) (graph : List Node) (starts visited : List Descriptor) → ((h : Descriptor) → has_key graph h ≡ true → IsTop graph h → Contains starts h) → All (Lists file) graph
    → ((h : Descriptor) → has_key graph h ≡ true → holds as_is file h ≡ true) → IsWalk as_is file starts visited → (k : Descriptor) → has_key graph k ≡ true → is_among visited k ≡ true
covered as_is file graph starts visited tops are there walk k held =
    let rest : List Descriptor = flat_map (lists as_is file) visited in
    elim (leaf_or (kind_of k.media_type)) [
      | inr manifest ↦ reached as_is file starts visited k walk (Contains-append_left starts rest k (tops k held (inl manifest)))
      | inl leaf ↦
          elim (holder_of file graph are k) [
            | inr nobody ↦
                reached as_is file starts visited k walk
                (Contains-append_left starts rest k (tops k held (inr (λ h edge. cc (All-value_at (Unlisted k) graph h edge.0 nobody edge.1, among_from edge.0 k edge.2)))))
            | inl holder ↦
                let h : Descriptor = holder.0 in
                let manifest : kind_of h.media_type ≢ Leaf = λ e. cc (ap (λ (ks : List Descriptor). is_among ks k) (leaf_lists file h e), holder.2) in
                let seen : is_among visited h ≡ true = reached as_is file starts visited h walk (Contains-append_left starts rest h (tops h holder.1 (inl manifest))) in
                let listed : Contains (lists as_is file h) k = subst (λ (ks : List Descriptor). Contains ks k) (sym (held_lists as_is file h (there h holder.1))) (Contains_among (listed_in file h) k holder.2) in
                reached as_is file starts visited k walk (Contains-append_right starts rest k (in_flat (lists as_is file) visited h k (Contains_among visited h seen) listed))
          ]
    ]

-- ---- what is opened holds the visited keys that have files
pub has_held : (as_is : Bool) (file : File) (visited : List Descriptor) (k : Descriptor) → is_among visited k ≡ true → holds as_is file k ≡ true → has_key (held_in as_is file visited) k ≡ true
has_held as_is file [] k h there = cc h
has_held as_is file (x ∷ visited) k h there =
    elim (cases_Bool (same_key x k)) [
      | inl same ↦
          let present : holds as_is file x ≡ true = subst (λ (y : Descriptor). holds as_is file y ≡ true) (sym ((Decides-same_key x k).0 same)) there in
          rw present (rw same refl)
      | inr apart ↦
          let rest = has_held as_is file visited k (rw apart at h) there in
          elim (holds as_is file x) as (λ b. has_key (map (λ (y : Descriptor). (y, listed_in file y)) (cond b (x ∷ filter (holds as_is file) visited) (filter (holds as_is file) visited))) k ≡ true) [ true ↦ rw apart rest | false ↦ rest ]
    ]

pub both_true : (a b : Bool) → (a ≡ true → b ≡ true) → (b ≡ true → a ≡ true) → a ≡ b
both_true true b f g = sym (f refl)
both_true false true f g = g refl
both_true false false f g = refl

absent_value : {X : Type 0} (o : Option X) → is_some o ≡ false → o ≡ None
absent_value None h = refl
absent_value (Some x) h = cc h

pub same_values : (file : File) (a b : List Node) (k : Descriptor) → has_key a k ≡ has_key b k → value_at (stored file a) k ≡ value_at (stored file b) k
same_values file a b k e =
    elim (cases_Bool (has_key a k)) [
      | inl here ↦ value_at-stored file a k here ∙ sym (value_at-stored file b k (sym e ∙ here))
      | inr gone ↦ absent_value (value_at (stored file a) k) (has_key-stored file a k ∙ gone) ∙ sym (absent_value (value_at (stored file b) k) (has_key-stored file b k ∙ sym e ∙ gone))
    ]

-- ---- the tags
nones : (graph : List Node) (loose : List Descriptor) (acc : Tags) → named graph (loose_entries loose) acc ≡ acc
nones graph [] acc = refl
nones graph (k ∷ loose) acc = nones graph loose acc

abbrev Below : List ℕ → List ℕ × Descriptor → Type 0
Below name e = slice_cmp nat_cmp e.0 name ≡ Less

abbrev BelowAll : List (List ℕ) → List ℕ × Descriptor → Type 0
BelowAll names e = AllByRecursion (λ (n : List ℕ). slice_cmp nat_cmp e.0 n ≡ Less) names

at_end : (acc : Tags) (name : List ℕ) (k : Descriptor) → All (Below name) acc → set_tag acc name k ≡ acc ++ (name, k) ∷ []
at_end [] name k h = refl
at_end (e ∷ acc) name k h =
    let greater : slice_cmp nat_cmp name e.0 ≡ Greater = nat_list_cmp_total.antisymm name e.0 ∙ ap ordering_reverse (All-head (Below name) e acc h) in
    rw greater (ap (λ (t : Tags). e ∷ t) (at_end acc name k (All-tail (Below name) e acc h)))

tagged_all : (graph : List Node) (ts : Tags) (ks : List Descriptor) (acc : Tags) → HasAll graph (values_of ts) → All (λ (n : List ℕ). n ≢ []) (keys_of ts) → IsStrictlySortedBy (slice_cmp nat_cmp) (keys_of ts)
    → All (BelowAll (keys_of ts)) acc → named graph (new_entries ts ks) acc ≡ acc ++ ts
unfolding IsStrictlySortedBy
tagged_all graph [] ks acc held full sorted before = nones graph ks acc ∙ sym (append-nil acc)
tagged_all graph (t ∷ ts) ks acc held full sorted before =
    let set = tag_named-set graph t.1 t.0 acc (All-head (λ (n : List ℕ). n ≢ []) t.0 (keys_of ts) full) (All-head (λ (k : Descriptor). has_key graph k ≡ true) t.1 (values_of ts) held) in
    let end = at_end acc t.0 t.1 (All-weaker (BelowAll (t.0 ∷ keys_of ts)) (Below t.0) (λ e h. h.0) acc before) in
    let grown = All-push (BelowAll (keys_of ts)) acc t (All-weaker (BelowAll (t.0 ∷ keys_of ts)) (BelowAll (keys_of ts)) (λ e h. h.1) acc before) sorted.0 in
    ap (λ (a : Tags). named graph (new_entries ts ks) a) (set ∙ end)
    ∙ tagged_all graph ts ks (acc ++ t ∷ []) (All-tail (λ (k : Descriptor). has_key graph k ≡ true) t.1 (values_of ts) held) (All-tail (λ (n : List ℕ). n ≢ []) t.0 (keys_of ts) full) sorted.1 grown
    ∙ append_assoc acc (t ∷ []) ts

pub all_from : (P : Descriptor → Type 0) (ks : List Descriptor) → ((k : Descriptor) → Contains ks k → P k) → All P ks
all_from P [] h = All-nil P
all_from P (k ∷ ks) h = All-cons P k ks (h k (Contains-append_left (k ∷ []) ks k (Contains-push [] k))) (all_from P ks (λ j c. h j (Contains-append_right (k ∷ []) ks j c)))

pub opens_as_saved : OpensAsSaved
opens_as_saved file graph again tags tags_again remembered memory are names_ok sorted closed sound files nothing opened =
    let idx = files.index in
    let loose = idx.loose in
    let are_loose : AreLoose graph tags [] loose = subst (λ (r : ReadIndex). AreLoose graph tags (said r).entries loose) nothing idx.are_loose in
    let entries : List IndexEntry = new_entries tags loose in
    let members = (said remembered.content).members in
    let compact : IsCompact idx.bytes (index_value (record { entries = entries; members = members })) =
    subst (λ (r : ReadIndex). IsCompact idx.bytes (index_value (record { entries = saved_entries remembered.absent (said r).entries graph tags loose; members = members }))) nothing idx.is_index in
    let starts : List Descriptor = values_of tags ++ loose in
    let visited = opened.read.walked.visited in
    let G : Descriptor → Type 0 = λ (k : Descriptor). has_key graph k ≡ true in
    let key_ok : (k : Descriptor) → G k → IsKey k = λ k h. All-contains IsKey (keys_of graph) k are (Contains-from_has_key graph k h) in
    let loose_held : All G loose = all_from (λ (k : Descriptor). has_key graph k ≡ true) loose (λ k c. ((are_loose.each k).0 c).0.is_there) in
    let whole : All IsWhole entries =
    all_saved IsWhole IsKey whole-new remembered.absent [] graph tags loose (All-nil IsWhole) (All-weaker G IsKey key_ok (values_of tags) names_ok.held) (All-weaker G IsKey key_ok loose loose_held) in
    let saved = reads_as_written idx.bytes (record { entries = entries; members = members }) whole compact in
    let strict : IsIndex false idx.bytes opened.content = subst (λ (o : Option (List ℕ)). IsIndexFile false o opened.content) idx.is_there (strictly_stated file opened.content opened.read.index) in
    let read : IsIndex true idx.bytes opened.content = index_as_is false idx.bytes opened.content strict in
    let entries_are : opened.content.entries ≡ entries = ap (λ (i : IndexContent). i.entries) (one_index true idx.bytes opened.content saved.0 read saved.1) ∙ saved.2 in
    let keys_is : entry_keys opened.content.entries ≡ starts = ap entry_keys entries_are ∙ saved_keys tags loose in
    let are_listed = each_lists file graph graph refl sound.listed in
    let walk : IsWalk false file starts visited = subst (λ (ks : List Descriptor). IsWalk false file ks visited) keys_is opened.read.walked.walk in
    let seen : All G visited = visited_all G false file starts visited (All-append G (values_of tags) loose names_ok.held loose_held) (λ k h. some_listed G false file k (listed_held file graph closed are_listed k h)) walk.is_visiting in
    let all : All (λ (n : Node). G n.0) again = subst (λ (g : List Node). All (λ (n : Node). G n.0) g) (sym opened.read.walked.held) (all_held G false file visited (All-weaker G (λ (k : Descriptor). holds false file k ≡ true → G k) (λ k h held. h) visited seen)) in
    let there : (k : Descriptor) → G k → is_there file k ≡ true = λ k h. (let it = found graph k h in All-value_at (λ (n : Node). IsSome (file (blob_path n.0.digest))) graph k it.0 sound.are_there it.1) in
    let same_keys : (k : Descriptor) → has_key again k ≡ has_key graph k =
    λ k. both_true (has_key again k) (has_key graph k)
    (λ h. (let it = found again k h in All-value_at (λ (n : Node). G n.0) again k it.0 all it.1))
    (λ h. subst (λ (g : List Node). has_key g k ≡ true) (sym opened.read.walked.held) (has_held false file visited k (covered false file graph starts visited (is_start graph tags loose are_loose) are_listed there walk k h) (there k h))) in (
      λ k. same_values file again graph k (same_keys k),
      opened.tagged ∙ ap (λ (es : List IndexEntry). named again es []) entries_are
          ∙ tagged_all again tags loose [] (All-weaker G (λ (k : Descriptor). has_key again k ≡ true) (λ k h. same_keys k ∙ h) (values_of tags) names_ok.held) names_ok.named sorted (All-nil (BelowAll (keys_of tags))),
      opened.read.absent_is ∙ ap (absent_in again) keys_is ∙ absent_in-held again starts (All-weaker G (λ (k : Descriptor). has_key again k ≡ true) (λ k h. same_keys k ∙ h) starts (All-append G (values_of tags) loose names_ok.held loose_held)),
    )

-- ---- keys of one digest
-- each entry of a layout has the bytes of its digest's file
file_bytes : (file : File) (graph : List Node) → All (λ (e : Entry). e.1 ≡ blob_at file e.0.digest) (stored file graph)
file_bytes file [] = All-nil (λ (e : Entry). e.1 ≡ blob_at file e.0.digest)
file_bytes file (n ∷ graph) = All-cons (λ (e : Entry). e.1 ≡ blob_at file e.0.digest) (n.0, blob_at file n.0.digest) (stored file graph) refl (file_bytes file graph)

pub keys_of_one_digest : KeysShareBytes
keys_of_one_digest file graph k other x y at_k at_other same =
    let x_is : x ≡ blob_at file k.digest = All-value_at (λ (e : Entry). e.1 ≡ blob_at file e.0.digest) (stored file graph) k x (file_bytes file graph) at_k in
    let y_is : y ≡ blob_at file other.digest = All-value_at (λ (e : Entry). e.1 ≡ blob_at file e.0.digest) (stored file graph) other y (file_bytes file graph) at_other in
    y_is ∙ (ap (blob_at file) same ∙ sym x_is)
