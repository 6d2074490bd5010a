-- What a layout remembers that is opened, as it is written, from the files that a save wrote.
use Rattle.std.proofs.Common.{◌≡◌, ℕ, true, false, is_some, inl, inr, List, [], ◌∷◌, map, Option, Some, None, Result, Ok, Err, refl, sym, ap, subst, ◌∙◌}
use Rattle.std.specs.Prelude.{Contains, IsOk, IsSome}
use Rattle.std.specs.List.{All}
use Rattle.std.specs.Map.{keys_of, values_of}
use Rattle.std.specs.Option.{unwrap_or}
use Rattle.std.proofs.lemmas.Bool.{cases_Bool}
use Rattle.std.proofs.lemmas.List.Elements.{All-nil, All-weaker, All-cons, All-contains}
use Rattle.oci_manifest.specs.Descriptor.{Descriptor, IsKey, is_among}
use Rattle.oci_manifest.specs.Fault.{Fault}
use Rattle.oci_manifest.specs.MediaTypes.{kind_of}
use Rattle.oci_store.specs.Content.{Entry, Matches, succ_of}
use Rattle.oci_store.specs.Graph.{IsEdge, Node}
use Rattle.oci_store.specs.Keyed.{has_key}
use Rattle.oci_store.specs.Tags.{Tags}
use Rattle.oci_store.proofs.Lookups.{found, All-value_at, Contains-from_has_key}
use Rattle.oci_layout_store.specs.Blobs.{IsSound, blob_at, blob_path, stored}
use Rattle.oci_dir.specs.Device.{File}
use Rattle.oci_layout_store.specs.Entries.{absent_in, IndexContent, IndexEntry, IsIndex, IsIndexFile, entry_keys, owned, said}
use Rattle.oci_layout_store.specs.Law.{IsMeant, OpensAsWritten}
use Rattle.oci_layout_store.specs.Meant.{meant, meant_entry}
use Rattle.oci_layout_store.specs.Opened.{IsWalk, held_in, holds, is_there, is_whole, listed_in, lists}
use Rattle.oci_layout_store.specs.Saved.{AreLoose, IsTop, saved_entries, is_left}
use Rattle.oci_layout_store.proofs.Law.{Contains_among, Lists, all_from, both_true, covered, each_lists, has_held, listed_held, same_values, some_listed, visited_all}
use Rattle.oci_layout_store.proofs.MeantEntries.{meant-new, stated, stated_compact, stated_meant, stated_whole}
use Rattle.oci_layout_store.proofs.Read.{one_index}
use Rattle.oci_layout_store.proofs.SavedAll.{all_saved}
use Rattle.oci_layout_store.proofs.Stored.{value_at-stored}
use Rattle.oci_layout_store.proofs.Walk.{all_held, leaf_or, leaf_whole, manifest_whole, unheld_lists}
use Rattle.oci_layout_store.proofs.Written.{reads_as_written}
use Rattle.oci_layout_store.proofs.SavedTags.{saved_tags, saved_top, starts_left}
use Rattle.oci_layout_store.proofs.SavedTwice.{saved_twice}

-- what an opening holds is held, if what is not held has no whole file
all_kept : (graph : List Node) (file : File) (visited : List Descriptor) → All (λ (k : Descriptor). has_key graph k ≡ false → is_whole file k ≡ false) visited → All (λ (n : Node). has_key graph n.0 ≡ true) (held_in true file visited)
all_kept graph file visited h =
    let G : Descriptor → Type 0 = λ (k : Descriptor). has_key graph k ≡ true in
    let Q : Descriptor → Type 0 = λ (k : Descriptor). has_key graph k ≡ false → is_whole file k ≡ false in
    all_held G true file visited (All-weaker Q (λ (k : Descriptor). holds true file k ≡ true → G k) (λ k q there. elim (cases_Bool (has_key graph k)) [ inl is ↦ is | inr gone ↦ cc (there, q gone) ]) visited h)

-- the keys that a node of an opened graph lists are those of its file
held_list : (file : File) (visited : List Descriptor) → All (Lists file) (held_in true file visited)
held_list file [] = All-nil (Lists file)
held_list file (x ∷ visited) =
    elim (cases_Bool (holds true file x)) [
      | inl there ↦ rw there (All-cons (Lists file) (x, listed_in file x) (held_in true file visited) refl (held_list file visited))
      | inr lost ↦ rw lost (held_list file visited)
    ]

-- the held keys of a sound layout have whole files
read_ok : (r : Result (List Descriptor) Fault) → IsOk r → (ks : List Descriptor) × (r ≡ Ok ks)
read_ok (Ok ks) h = (ks, refl)
read_ok (Err e) h = cc h

some_or : (o : Option (List ℕ)) → is_some o ≡ true → o ≡ Some (unwrap_or o [])
some_or None h = cc h
some_or (Some bytes) h = refl

sound_whole : (file : File) (graph : List Node) → IsSound (Unit {0}) file graph → (k : Descriptor) → has_key graph k ≡ true → is_whole file k ≡ true
sound_whole file graph sound k held =
    let it = found graph k held in
    let there : is_there file k ≡ true = All-value_at (λ (n : Node). IsSome (file (blob_path n.0.digest))) graph k it.0 sound.are_there it.1 in
    let at = value_at-stored file graph k held in
    let matching : Matches k (blob_at file k.digest) = All-value_at (λ (e : Entry). Matches e.0 e.1) (stored file graph) k (blob_at file k.digest) sound.content.matching at in
    let reads : IsOk (succ_of k (blob_at file k.digest)) = All-value_at (λ (e : Entry). IsOk (succ_of e.0 e.1)) (stored file graph) k (blob_at file k.digest) sound.content.readable at in
    elim (leaf_or (kind_of k.media_type)) [
      | inl leaf ↦ leaf_whole file k (blob_at file k.digest) leaf (some_or (file (blob_path k.digest)) there) matching.0
      | inr other ↦ manifest_whole file k other there (λ manifest bytes is. (let same : blob_at file k.digest ≡ bytes = ap (λ (o : Option (List ℕ)). unwrap_or o []) is in
          (subst (Matches k) same matching, read_ok (succ_of k bytes) (subst (λ (b : List ℕ). IsOk (succ_of k b)) same reads))))
    ]

-- graphs with the same keys, each with the keys that its file lists, have the same edges
same_edge : (file : File) (graph again : List Node) → All (Lists file) graph → All (Lists file) again → ((k : Descriptor) → has_key again k ≡ has_key graph k) → (p k : Descriptor) → IsEdge graph p k → IsEdge again p k
same_edge file graph again are lists_again same p k edge =
    let held : has_key again p ≡ true = same p ∙ ap is_some edge.1 in
    let it = found again p held in
    let is : it.0 ≡ edge.0 = All-value_at (Lists file) again p it.0 lists_again it.1 ∙ sym (All-value_at (Lists file) graph p edge.0 are edge.1) in
    (edge.0, it.1 ∙ ap Some is, edge.2)

pub opens_as_written : OpensAsWritten
opens_as_written file graph again tags tags_again opened memory are names_ok sorted closed sound remembered same unheld gone files is_opened =
    let idx = files.index in
    let loose : List Descriptor = idx.loose in
    let entries : List IndexEntry = (said opened.content).entries in
    let written : List IndexEntry = saved_entries opened.absent entries graph tags loose in
    let visited = is_opened.read.walked.visited in
    let G : Descriptor → Type 0 = λ (k : Descriptor). has_key graph k ≡ true in
    let Q : Descriptor → Type 0 = λ (k : Descriptor). has_key graph k ≡ false → is_whole file k ≡ false in
    let Own : Descriptor → Type 0 = λ (k : Descriptor). IsKey k × (meant file k ≡ k) in
    let key_ok : (k : Descriptor) → G k → Own k = λ k h. (
      All-contains IsKey (keys_of graph) k are (Contains-from_has_key graph k h),
      All-contains (λ (j : Descriptor). meant file j ≡ j) (keys_of graph) k same (Contains-from_has_key graph k h),
    ) in
    let held_ok : (k : Descriptor) → G k → Q k = λ k h g. cc (h, g) in
    let loose_held : All G loose = all_from G loose (λ k c. ((idx.are_loose.each k).0 c).0.is_there) in
    let all : All (IsMeant file) written =
    all_saved (IsMeant file) Own (meant-new file) opened.absent entries graph tags loose remembered (All-weaker G Own key_ok (values_of tags) names_ok.held) (All-weaker G Own key_ok loose loose_held) in
    let index = is_opened.read.index in
    let compact = stated_compact idx.bytes written (said opened.content).members idx.is_index in
    let back = reads_as_written idx.bytes (record { entries = map stated written; members = (said opened.content).members }) (stated_whole file written all) compact in
    let read : IsIndex true idx.bytes index.stated = subst (λ (o : Option (List ℕ)). IsIndexFile true o index.stated) idx.is_there index.is_stated in
    let entries_are : (said memory.content).entries ≡ written =
    ap (λ (i : IndexContent). i.entries) index.is_meant
    ∙ ap (map (meant_entry file)) (ap (λ (i : IndexContent). i.entries) (one_index true idx.bytes index.stated back.0 read back.1) ∙ back.2)
    ∙ stated_meant file written all in
    let starts : List Descriptor = entry_keys written in
    let are_listed = each_lists file graph graph refl sound.listed in
    let walk : IsWalk true file starts visited = subst (λ (es : List IndexEntry). IsWalk true file (entry_keys es) visited) entries_are is_opened.read.walked.walk in
    let left_ok : (k : Descriptor) → is_left (is_among opened.absent) graph (Some k) ≡ true → Q k = λ k h lost. elim (cases_Bool (is_among opened.absent k)) [
      | inl was ↦ All-contains (λ (x : Descriptor). is_whole file x ≡ false) opened.absent k gone (Contains_among opened.absent k was)
      | inr never ↦ cc (rw (never, lost) at h)
    ] in
    let starts_ok : All Q starts =
    All-weaker (λ (k : Descriptor). is_left (is_among opened.absent) graph (Some k) ≡ true) Q left_ok starts (starts_left opened.absent entries graph tags loose idx.are_loose names_ok.held) in
    let listed_ok : (k : Descriptor) → Q k → All Q (lists true file k) = λ k q. elim (cases_Bool (has_key graph k)) [
      | inl held ↦ some_listed Q true file k (All-weaker G Q held_ok (listed_in file k) (listed_held file graph closed are_listed k held))
      | inr lost ↦ subst (λ (ks : List Descriptor). All Q ks) (sym (unheld_lists true file k (q lost))) (All-nil Q)
    ] in
    let seen : All Q visited = visited_all Q true file starts visited starts_ok listed_ok walk.is_visiting in
    let all_held_again : All (λ (n : Node). G n.0) again = subst (λ (g : List Node). All (λ (n : Node). G n.0) g) (sym is_opened.read.walked.held) (all_kept graph file visited seen) in
    let there : (k : Descriptor) → G k → holds true file k ≡ true = sound_whole file graph sound in
    let tops : (h : Descriptor) → has_key graph h ≡ true → IsTop graph h → Contains starts h = saved_top opened.absent entries graph tags loose idx.are_loose in
    let same_keys : (k : Descriptor) → has_key again k ≡ has_key graph k =
    λ k. both_true (has_key again k) (has_key graph k)
    (λ h. (let it = found again k h in All-value_at (λ (n : Node). G n.0) again k it.0 all_held_again it.1))
    (λ h. subst (λ (g : List Node). has_key g k ≡ true) (sym is_opened.read.walked.held) (has_held true file visited k (covered true file graph starts visited tops are_listed there walk k h) (there k h))) in
    let lists_again : All (Lists file) again = subst (λ (g : List Node). All (Lists file) g) (sym is_opened.read.walked.held) (held_list file visited) in
    let tags_are : tags_again ≡ tags =
    is_opened.tagged ∙ ap (λ (es : List IndexEntry). owned again es []) entries_are ∙ saved_tags opened.absent entries graph tags loose idx.are_loose again same_keys unheld names_ok sorted in
    let found_entries : List IndexEntry = (said memory.content).entries in (
      λ k. same_values file again graph k (same_keys k),
      tags_are,
      entries_are,
      λ found_loose are_found.
          let of_written : AreLoose again tags written found_loose =
          subst (λ (es : List IndexEntry). AreLoose again tags es found_loose) entries_are (subst (λ (ts : Tags). AreLoose again ts found_entries found_loose) tags_are are_found) in
          ap (λ (a : List Descriptor). saved_entries a found_entries again tags_again found_loose) is_opened.read.absent_is
          ∙ ap (λ (es : List IndexEntry). saved_entries (absent_in again (entry_keys es)) es again tags_again found_loose) entries_are
          ∙ ap (λ (ts : Tags). saved_entries (absent_in again (entry_keys written)) written again ts found_loose) tags_are
          ∙ saved_twice opened.absent entries graph tags loose idx.are_loose again same_keys unheld names_ok sorted (same_edge file graph again are_listed lists_again same_keys) found_loose of_written
          ∙ sym entries_are,
    )
