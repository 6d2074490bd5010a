-- What a layout remembers that was opened as it is: entries with the keys that they mean, and absent
-- keys that are not held and have no whole file.
use Rattle.std.proofs.Common.{◌≡◌, true, false, not, inl, inr, List, sym, subst}
use Rattle.std.specs.Prelude.{Contains}
use Rattle.std.specs.List.{All, flat_map}
use Rattle.std.proofs.lemmas.Bool.{cases_Bool}
use Rattle.std.proofs.lemmas.List.Elements.{All-contains, All-contains_itself, All-filter, All-weaker, Contains-append_left}
use Rattle.oci_manifest.specs.Descriptor.{Descriptor}
use Rattle.oci_store.specs.Graph.{Node}
use Rattle.oci_store.specs.Keyed.{has_key}
use Rattle.oci_layout_store.specs.Entries.{IndexContent, entry_keys, said}
use Rattle.oci_layout_store.specs.Index.{index_file}
use Rattle.oci_layout_store.specs.Law.{IsMeant, Remembers}
use Rattle.oci_layout_store.specs.Opened.{is_whole, lists}
use Rattle.oci_layout_store.proofs.Law.{has_held, reached}
use Rattle.oci_layout_store.proofs.MeantEntries.{all_meant}
use Rattle.oci_layout_store.proofs.Opened.{absent-unheld}
use Rattle.oci_layout_store.proofs.Read.{whole_read}

pub remembered : Remembers
remembered file graph tags opened h =
    let keys : List Descriptor = entry_keys (said opened.content).entries in
    let visited = h.read.walked.visited in
    let G : Descriptor → Type 0 = λ (k : Descriptor). has_key graph k ≡ false in
    let P : Descriptor → Type 0 = λ (k : Descriptor). is_whole file k ≡ false in
    let Q : Descriptor → Type 0 = λ (k : Descriptor). has_key graph k ≡ false → is_whole file k ≡ false in
    let unheld : All G opened.absent = subst (λ (ks : List Descriptor). All G ks) (sym h.read.absent_is) (absent-unheld graph keys) in
    let each : (k : Descriptor) → Contains keys k → Q k = λ k c gone. elim (cases_Bool (is_whole file k)) [
      | inl there ↦
          let seen = reached true file keys visited k h.read.walked.walk (Contains-append_left keys (flat_map (lists true file) visited) k c) in
          let held : has_key graph k ≡ true = subst (λ (g : List Node). has_key g k ≡ true) (sym h.read.walked.held) (has_held true file visited k seen there) in
          cc (gone, held)
      | inr lost ↦ lost
    ] in
    let all : All Q keys = All-weaker (Contains keys) Q each keys (All-contains_itself keys) in
    let of_absent : All Q opened.absent = subst (λ (ks : List Descriptor). All Q ks) (sym h.read.absent_is) (All-filter (λ (k : Descriptor). not (has_key graph k)) Q keys all) in
    let lost : All P opened.absent = All-weaker (Contains opened.absent) P (λ k c. All-contains Q opened.absent k of_absent c (All-contains G opened.absent k unheld c)) opened.absent (All-contains_itself opened.absent) in
    let index = h.read.index in
    let meant : All (IsMeant file) (said opened.content).entries =
    subst (λ (content : IndexContent). All (IsMeant file) content.entries) (sym index.is_meant) (all_meant file index.stated.entries (whole_read true (file index_file) index.stated index.is_stated)) in
    (meant, unheld, lost)
