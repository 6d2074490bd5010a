-- The entries of an index with the keys that they mean.
use Rattle.std.proofs.Common.{◌≡◌, ◌≤◌, ℕ, List, [], ◌∷◌, ◌++◌, map, codes, Option, Some, option_map, refl, ap, sym, subst, ◌∙◌}
use Rattle.std.specs.List.{All}
use Rattle.std.proofs.lemmas.List.{map-append}
use Rattle.std.proofs.lemmas.List.Elements.{All-head, All-tail, All-nil, All-cons}
use Rattle.serde_json.specs.Data.{Data, Members, array, depth, number, object, put, string, unsigned}
use Rattle.serde_json.specs.View.{items_of}
use Rattle.serde_json.specs.declared.value.Value.{Value}
use Rattle.oci_dir.specs.Device.{Device, File}
use Rattle.oci_manifest.specs.Descriptor.{Descriptor, IsKey}
use Rattle.oci_manifest.specs.Reading.{descriptor_of}
use Rattle.oci_layout_store.specs.Entries.{IndexEntry, content_of, entry_of, new_entry, IsShallow}
use Rattle.oci_layout_store.specs.Index.{IsCompact, index_value}
use Rattle.oci_layout_store.specs.Law.{IsMeant, IsWhole}
use Rattle.oci_layout_store.specs.Meant.{meant, meant_entry}
use Rattle.oci_layout_store.specs.declared.index.IndexEntry.{IndexEntry as CodeEntry}
use Rattle.oci_layout_store.proofs.Written.{whole-new}

-- the value of an entry of the code
abbrev pub value : CodeEntry → Data
value e = (entry_of e).value

-- as far as the entries were looked at: each has the key that it means, and its value
pub record AreMeant (dir : Device) (old new : List CodeEntry) : Type 0 where
  pub meant : dir.is_honest → map entry_of new ≡ map (meant_entry dir.file) (map entry_of old)
  pub values : map value new ≡ map value old

pub none_meant : (dir : Device) → AreMeant dir [] []
none_meant dir = record { meant = λ is. refl; values = refl }

pub next_meant : (dir : Device) (old new : List CodeEntry) (e m : CodeEntry) → AreMeant dir old new → (dir.is_honest → entry_of m ≡ meant_entry dir.file (entry_of e)) → value m ≡ value e → AreMeant dir (old ++ e ∷ []) (new ++ m ∷ [])
next_meant dir old new e m are is same = record {
  meant = λ honest.
      map-append entry_of new (m ∷ [])
      ∙ ap (λ (x : IndexEntry). map entry_of new ++ x ∷ []) (is honest)
      ∙ ap (λ (es : List IndexEntry). es ++ meant_entry dir.file (entry_of e) ∷ []) (are.meant honest)
      ∙ sym (map-append (meant_entry dir.file) (map entry_of old) (entry_of e ∷ []))
      ∙ ap (map (meant_entry dir.file)) (sym (map-append entry_of old (e ∷ [])));
  values =
      map-append value new (m ∷ [])
      ∙ ap (λ (x : Data). map value new ++ x ∷ []) same
      ∙ ap (λ (ds : List Data). ds ++ value e ∷ []) are.values
      ∙ sym (map-append value old (e ∷ []));
}

abbrev IsLow : Data → Type 0
IsLow d = depth d ≤ 125

abbrev IsLowEntry : IndexEntry → Type 0
IsLowEntry e = IsLow e.value

-- entries with the same values are nested no more deeply
all_low : (new old : List CodeEntry) → map value new ≡ map value old → All IsLowEntry (map entry_of old) → All IsLowEntry (map entry_of new)
all_low [] old same are = All-nil IsLowEntry
all_low (n ∷ new) [] same are = cc same
all_low (n ∷ new) (o ∷ old) same are =
    let one : value n ≡ value o = cc same in
    let rest : map value new ≡ map value old = cc same in
    All-cons IsLowEntry (entry_of n) (map entry_of new) (subst IsLow (sym one) (All-head IsLowEntry (entry_of o) (map entry_of old) are)) (all_low new old rest (All-tail IsLowEntry (entry_of o) (map entry_of old) are))

pub shallow_meant : (old new : List CodeEntry) (members : Value) → map value new ≡ map value old → IsShallow (content_of old members) → IsShallow (content_of new members)
shallow_meant old new members same shallow = record { entries = all_low new old same shallow.entries; members = shallow.members }

-- ---- the entries of an index that was written

-- an entry with the key that its value states
abbrev pub stated : IndexEntry → IndexEntry
stated e = record { key = descriptor_of e.value; name = e.name; value = e.value }

stated_values : (es : List IndexEntry) → map (λ (e : IndexEntry). e.value) (map stated es) ≡ map (λ (e : IndexEntry). e.value) es
stated_values [] = refl
stated_values (e ∷ es) = ap (λ (ds : List Data). e.value ∷ ds) (stated_values es)

-- the text of an index is that of what its values state
pub stated_compact : (bytes : List ℕ) (es : List IndexEntry) (members : Members) → IsCompact bytes (index_value (record { entries = es; members = members })) → IsCompact bytes (index_value (record { entries = map stated es; members = members }))
unfolding index_value
stated_compact bytes es members compact = subst (λ (ds : List Data). IsCompact bytes (value_of ds members)) (sym (stated_values es)) compact
  where
    value_of : List Data → Members → Data
    value_of ds ms = object (put (codes "manifests") (array (items_of ds)) (put (codes "mediaType") (string (codes "application/vnd.oci.image.index.v1+json")) (put (codes "schemaVersion") (number (unsigned 2)) ms)))

pub stated_whole : (file : File) (es : List IndexEntry) → All (IsMeant file) es → All IsWhole (map stated es)
stated_whole file [] are = All-nil IsWhole
stated_whole file (e ∷ es) are =
    All-cons IsWhole (stated e) (map stated es) (record { key_is = refl; name_is = (All-head (IsMeant file) e es are).name_is }) (stated_whole file es (All-tail (IsMeant file) e es are))

pub stated_meant : (file : File) (es : List IndexEntry) → All (IsMeant file) es → map (meant_entry file) (map stated es) ≡ es
stated_meant file [] are = refl
stated_meant file (e ∷ es) are =
    ap (λ (key : Option Descriptor). record { key = key; name = e.name; value = e.value } ∷ map (meant_entry file) (map stated es)) (All-head (IsMeant file) e es are).key_is
    ∙ ap (λ (others : List IndexEntry). e ∷ others) (stated_meant file es (All-tail (IsMeant file) e es are))

-- whole entries, each with the key that it means
pub all_meant : (file : File) (es : List IndexEntry) → All IsWhole es → All (IsMeant file) (map (meant_entry file) es)
all_meant file [] are = All-nil (IsMeant file)
all_meant file (e ∷ es) are =
    let whole : IsWhole e = All-head IsWhole e es are in
    All-cons (IsMeant file) (meant_entry file e) (map (meant_entry file) es) (record { key_is = ap (option_map (meant file)) whole.key_is; name_is = whole.name_is }) (all_meant file es (All-tail IsWhole e es are))

-- a new entry of a key that means itself
pub meant-new : (file : File) (k : Descriptor) (name : Option (List ℕ)) → IsKey k × (meant file k ≡ k) → IsMeant file (new_entry k name)
meant-new file k name is =
    let whole = whole-new k name is.0 in
    record { key_is = ap (option_map (meant file)) whole.key_is ∙ ap Some is.1; name_is = whole.name_is }
