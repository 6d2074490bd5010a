-- The entries of an index that was read: they are whole, and those of an index that is read strictly are
-- those of one that is read as it is.
use Rattle.std.proofs.Common.{◌≡◌, ℕ, Bool, true, false, List, [], ◌∷◌, map, codes, Option, Some, None, Ok, Err, Result, refl, sym, ap, subst, ◌∙◌}
use Rattle.std.specs.List.{All}
use Rattle.std.proofs.lemmas.List.Elements.{All-head, All-tail, All-nil, All-cons}
use Rattle.serde_json.specs.Data.{Data, Items, item, no_items}
use Rattle.serde_json.specs.View.{items_of}
use Rattle.oci_manifest.specs.Descriptor.{Descriptor}
use Rattle.oci_manifest.specs.Fault.{Fault}
use Rattle.oci_manifest.specs.Reading.{◌>>=◌, index_keys}
use Rattle.oci_layout_store.specs.Entries.{IndexContent, IndexEntry, IsIndex, IsIndexFile, entries_as_is, entries_in, entry_of_value, index_elements, index_entries, name_of, object_members, without_member}
use Rattle.oci_dir.specs.Device.{File}
use Rattle.oci_layout_store.specs.Index.{index_file}
use Rattle.oci_layout_store.specs.Law.{IsWhole}
use Rattle.oci_layout_store.specs.Opened.{IsMeantFile}

of_elements : (r : Result Items Fault) (entries : List IndexEntry) → (r >>= λ ds. Ok (entries_in ds)) ≡ Ok entries → (ds : Items) × (r ≡ Ok ds) × (entries ≡ entries_in ds)
of_elements (Ok ds) entries h = (ds, refl, cc h)
of_elements (Err e) entries h = cc h

-- what is read strictly is read as it is
after_keys : (r : Result (List Descriptor) Fault) (rest : Result (List IndexEntry) Fault) (entries : List IndexEntry) → (r >>= λ keys. rest) ≡ Ok entries → rest ≡ Ok entries
after_keys (Ok keys) rest entries h = h
after_keys (Err e) rest entries h = cc h

pub read_as_is : (as_is : Bool) (value : Data) (entries : List IndexEntry) → index_entries as_is value ≡ Ok entries → entries_as_is value ≡ Ok entries
read_as_is true value entries h = h
read_as_is false value entries h = after_keys (index_keys value) (entries_as_is value) entries h

pub read_elements : (as_is : Bool) (value : Data) (entries : List IndexEntry) → index_entries as_is value ≡ Ok entries → (ds : Items) × (index_elements value ≡ Ok ds) × (entries ≡ entries_in ds)
read_elements as_is value entries h = of_elements (index_elements value) entries (read_as_is as_is value entries h)

pub index_as_is : (as_is : Bool) (bytes : List ℕ) (content : IndexContent) → IsIndex as_is bytes content → IsIndex true bytes content
index_as_is as_is bytes content h = (h.0, h.1, h.2, read_as_is as_is h.0 h.1 h.3, h.4)

-- bytes are an index that says one thing
pub one_index : (as_is : Bool) (bytes : List ℕ) (es fs : IndexContent) → IsIndex as_is bytes es → IsIndex as_is bytes fs → es ≡ fs
one_index as_is bytes es fs a b =
    let values : Some a.0 ≡ Some b.0 = sym a.2 ∙ b.2 in
    let value : a.0 ≡ b.0 = cc values in
    let oks : Ok a.1 ≡ Ok b.1 = sym a.3 ∙ ap (index_entries as_is) value ∙ b.3 in
    let entries : a.1 ≡ b.1 = cc oks in
    a.4 ∙ ap (λ (xs : List IndexEntry). content xs a.0) entries ∙ ap (content b.1) value ∙ sym b.4
  where
    content : List IndexEntry → Data → IndexContent
    content xs v = record { entries = xs; members = without_member (codes "manifests") (object_members v) }

-- ---- entries that were read are whole

whole_in : (ds : Items) → All IsWhole (entries_in ds)
whole_in no_items = All-nil IsWhole
whole_in (item d ds) = All-cons IsWhole (entry_of_value d) (entries_in ds) (record { key_is = refl; name_is = refl }) (whole_in ds)

pub whole_read : (as_is : Bool) (found : Option (List ℕ)) (content : IndexContent) → IsIndexFile as_is found content → All IsWhole content.entries
whole_read as_is None content h = subst (λ (c : IndexContent). All IsWhole c.entries) (sym h) (All-nil IsWhole)
whole_read as_is (Some bytes) content h =
    let read = read_elements as_is h.0 h.1 h.3 in
    subst (λ (c : IndexContent). All IsWhole c.entries) (sym h.4) (subst (All IsWhole) (sym read.2) (whole_in read.0))

-- ---- an index file

-- what an index file says that is read strictly is what it states
pub strictly_stated : (file : File) (content : IndexContent) → IsMeantFile false file content → IsIndexFile false (file index_file) content
strictly_stated file content read = subst (IsIndexFile false (file index_file)) (sym read.is_meant) read.is_stated

-- ---- whole entries are those of their values

pub entries_again : (entries : List IndexEntry) → All IsWhole entries → entries_in (items_of (map (λ (e : IndexEntry). e.value) entries)) ≡ entries
entries_again [] are = refl
entries_again (e ∷ entries) are =
    let whole : IsWhole e = All-head IsWhole e entries are in
    let rest : List IndexEntry = entries_in (items_of (map (λ (x : IndexEntry). x.value) entries)) in
    ap (λ (key : Option Descriptor). record { key = key; name = name_of e.value; value = e.value } ∷ rest) whole.key_is
    ∙ ap (λ (name : Option (List ℕ)). record { key = e.key; name = name; value = e.value } ∷ rest) whole.name_is
    ∙ ap (λ (es : List IndexEntry). e ∷ es) (entries_again entries (All-tail IsWhole e entries are))
