-- The files of a layout, while one of them is put.
use Rattle.std.proofs.Common.{◌≡◌, ℕ, true, false, List, [], ◌∷◌, Option, Some, None, Result, rules, refl, sym, ap, subst, ◌∙◌}
use Rattle.std.specs.Prelude.{IsSome, Contains, ◌↔◌}
use Rattle.std.specs.List.Sorted.{IsStrictlySortedBy}
use Rattle.std.specs.List.{All}
use Rattle.std.specs.Option.{unwrap_or}
use Rattle.std.specs.Str.{bytes_eq, is_utf8, chars}
use Rattle.std.proofs.lemmas.List.Elements.{All-nil, All-cons, All-head, All-tail, All-weaker}
use Rattle.std.proofs.lemmas.Slice.Eq.{bytes_eq-Decides}
use Rattle.oci_manifest.specs.Descriptor.{Descriptor}
use Rattle.oci_store.specs.Content.{Entry, IsContent}
use Rattle.oci_store.specs.Graph.{Node, nodes_of}
use Rattle.oci_store.specs.Tags.{Tags}
use Rattle.oci_layout_store.specs.Blobs.{blob_path, blob_at, stored, IsSound}
use Rattle.oci_dir.specs.Device.{Device, File, IsPut, Puts, Touches, TouchesTwo}
use Rattle.serde_json.specs.Data.{Data, Members, null, no_members}
use Rattle.serde_json.specs.View.{view}
use Rattle.serde_json.specs.declared.value.Value.{Null, the_lemmas}
use Rattle.oci_layout_store.specs.Entries.{no_content, nothing_read, object_members, said}
use Rattle.oci_layout_store.specs.Files.{HasFiles, IsLayout}
use Rattle.oci_layout_store.specs.Layout.{LayoutState, OnlyFiles, OpenedIndex, SameMemory, no_index}
use Rattle.oci_layout_store.specs.Saved.{AreLoose, IsLoose, unnamed_keys, saved_content}
use Rattle.oci_dir.specs.declared.fault.DirFault.{DirFault}
use Rattle.std.specs.Fmt.{digits}
use Rattle.serde_json.specs.Written.{compact_text, has_float}
use Rattle.serde_json.proofs.OnLiterals.{serde_json_on_literals}
use Rattle.oci_layout_store.proofs.Loose.{no_element}
use Rattle.oci_layout_store.specs.Index.{layout_file, index_file, layout_text, layout_version, empty_index_text, version_in, index_value, IsCompact, HasFreshTexts, HasIndex, HasLayoutFile}

-- the three kinds of paths are apart
pub index_layout : bytes_eq index_file layout_file ≡ false
unfolding index_file layout_file
index_layout = refl

pub blob_layout : (d : List ℕ) → bytes_eq (blob_path d) layout_file ≡ false
unfolding blob_path layout_file
blob_layout d = refl

pub index_blob : (d : List ℕ) → bytes_eq index_file (blob_path d) ≡ false
unfolding blob_path index_file
index_blob d = refl

-- `oci-layout` stays where another file is put
pub HasLayoutFile-stays : (old new : File) (path : List ℕ) → Touches old new path → bytes_eq path layout_file ≡ false → HasLayoutFile old → HasLayoutFile new
HasLayoutFile-stays old new path touches apart h = record { bytes = h.bytes; is_there = touches layout_file apart ∙ h.is_there; version = h.version }

-- so what a layout keeps true of its parts is true after a put of another file
pub IsLayout-put : (old new : Device) (graph : List Node) (tags : Tags) (path : List ℕ) (drafted : List ℕ → Type 0) (answer : Result Unit DirFault) → bytes_eq path layout_file ≡ false
    → IsPut old new path drafted answer → IsLayout old graph tags → IsLayout new graph tags
IsLayout-put old new graph tags path drafted answer apart put is = record {
  names = is.names;
  has_layout_file = λ honest. (let h = put.device.honest.1 honest in HasLayoutFile-stays old.file new.file path (put.other h) apart (is.has_layout_file h));
}

-- so do the contents where the index is put
pub stored-index : (old new : File) (graph : List Node) → Touches old new index_file → stored new graph ≡ stored old graph
stored-index old new [] touches = refl
stored-index old new (n ∷ graph) touches =
    ap (λ (o : Option (List ℕ)). (n.0, unwrap_or o []) ∷ stored new graph) (touches (blob_path n.0.digest) (index_blob n.0.digest))
    ∙ ap (λ (rest : List Entry). (n.0, blob_at old n.0.digest) ∷ rest) (stored-index old new graph touches)

abbrev IsThere : File → Node → Type 0
IsThere file n = IsSome (file (blob_path n.0.digest))

pub IsSound-index : (H H' : Type 0) (old new : File) (graph : List Node) → (H → H') → Touches old new index_file → IsSound H old graph → IsSound H' new graph
IsSound-index H H' old new graph honest touches sound =
    let all = stored-index old new graph touches in
    record {
      is_honest = honest sound.is_honest;
      are_there = All-weaker (IsThere old) (IsThere new) (λ n h. subst (λ (o : Option (List ℕ)). IsSome o) (sym (touches (blob_path n.0.digest) (index_blob n.0.digest))) h) graph sound.are_there;
      content = subst IsContent (sym all) sound.content;
      listed = sound.listed ∙ ap nodes_of (sym all);
    }

-- a put of the index leaves what a layout has in memory, and its contents
pub OnlyFiles-index : {D : Type 0} (device : D → Device) (old new : LayoutState D) (drafted : List ℕ → Type 0) (answer : Result Unit DirFault) → SameMemory old new → IsPut (device old.dir) (device new.dir) index_file drafted answer → OnlyFiles device old new
OnlyFiles-index device old new drafted answer memory put =
    let was = device old.dir in
    let is = device new.dir in
    record {
      memory = memory;
      contents = λ honest. stored-index was.file is.file old.graph (put.other honest);
      sound = rw memory.graph (λ sound. IsSound-index was.is_honest is.is_honest was.file is.file old.graph put.device.honest.0 (put.other sound.is_honest) sound);
    }

-- the index that was put
pub HasIndex-put : (old new : File) (graph : List Node) (tags : Tags) (opened : OpenedIndex) (keys : List Descriptor) → AreLoose graph tags (said opened.content).entries keys
    → ((bytes : List ℕ) × IsCompact bytes (index_value (saved_content opened graph tags keys)) × Puts old new index_file bytes) → HasIndex new graph tags opened
HasIndex-put old new graph tags opened keys loose put =
    let same : bytes_eq index_file index_file ≡ true = (bytes_eq-Decides index_file index_file).1 refl in
    record { loose = keys; are_loose = loose; bytes = put.0; is_there = rw same at (put.2 index_file); is_index = put.1 }

abbrev HasBytes : File → Entry → Type 0
HasBytes file e = file (blob_path e.0.digest) ≡ Some e.1

pub some_or : (o : Option (List ℕ)) → IsSome o → o ≡ Some (unwrap_or o [])
some_or (Some x) h = refl
some_or None h = cc h

blobs_there : (old new : File) (graph : List Node) → Touches old new index_file → All (IsThere old) graph → All (HasBytes new) (stored old graph)
blobs_there old new [] touches h = All-nil (HasBytes new)
blobs_there old new (n ∷ graph) touches h =
    All-cons (HasBytes new) (n.0, blob_at old n.0.digest) (stored old graph)
    (touches (blob_path n.0.digest) (index_blob n.0.digest) ∙ some_or (old (blob_path n.0.digest)) (All-head (IsThere old) n graph h))
    (blobs_there old new graph touches (All-tail (IsThere old) n graph h))

-- all files of a sound layout whose index was put
pub HasFiles-put : (H : Type 0) (old new : File) (graph : List Node) (tags : Tags) (opened : OpenedIndex) (keys : List Descriptor) → HasLayoutFile old → AreLoose graph tags (said opened.content).entries keys
    → ((bytes : List ℕ) × IsCompact bytes (index_value (saved_content opened graph tags keys)) × Puts old new index_file bytes) → Touches old new index_file → IsSound H old graph → HasFiles new (stored old graph) graph tags opened
HasFiles-put H old new graph tags opened keys layout loose put touches sound = record {
  layout = HasLayoutFile-stays old new index_file touches index_layout layout;
  blobs = blobs_there old new graph touches sound.are_there;
  index = HasIndex-put old new graph tags opened keys loose put;
}

-- ---- the files of a layout that was just made
reads : version_in layout_text ≡ Some layout_version
unfolding version_in layout_text layout_version serde_json_on_literals is_utf8 chars
reads = refl

text_is : compact_text (index_value no_content) ≡ empty_index_text
unfolding index_value empty_index_text serde_json_on_literals digits
text_is = refl

float_is : has_float (index_value no_content) ≡ false
unfolding index_value
float_is = refl

loose_none : AreLoose [] [] [] []
unfolding IsStrictlySortedBy
loose_none = record { each = each; order = tt }
  where
    each : (k : Descriptor) → Contains [] k ↔ (IsLoose [] [] k × (Contains (unnamed_keys []) k → ⊥))
    each k = (λ c. absurd (no_element k c), λ l. cc l.0.is_there)

view-Null : view Null ≡ null
view-Null = search (rules, the_lemmas)

members-none : (said nothing_read).members ≡ no_members
members-none = ap (λ (d : Data). object_members d) view-Null

abbrev PutsIndex : File → File → Type 0
PutsIndex mid new = (bytes : List ℕ) × IsCompact bytes (index_value no_content) × Puts mid new index_file bytes

layout_stays : (mid new : File) → mid layout_file ≡ Some layout_text → Touches mid new index_file → new layout_file ≡ Some layout_text
layout_stays mid new there touches = touches layout_file index_layout ∙ there

pub HasFiles-fresh : (mid new : File) → mid layout_file ≡ Some layout_text → Touches mid new index_file → PutsIndex mid new → HasFiles new [] [] [] no_index
HasFiles-fresh mid new there touches put = record {
  layout = record { bytes = layout_text; is_there = layout_stays mid new there touches; version = reads };
  blobs = All-nil (HasBytes new);
  index = HasIndex-put mid new [] [] no_index [] loose_none (put.0, subst (λ (ms : Members). IsCompact put.0 (index_value (record { entries = []; members = ms }))) (sym members-none) put.1, put.2);
}

pub HasFreshTexts-fresh : (mid new : File) → mid layout_file ≡ Some layout_text → Touches mid new index_file → PutsIndex mid new → HasFreshTexts new
HasFreshTexts-fresh mid new there touches put =
    let same : bytes_eq index_file index_file ≡ true = (bytes_eq-Decides index_file index_file).1 refl in
    let bytes : new index_file ≡ Some put.0 = rw same at (put.2 index_file) in
    record { layout = layout_stays mid new there touches; index = bytes ∙ ap Some (put.1.text float_is ∙ text_is) }

pub TouchesTwo-both : (old mid new : File) → Touches old mid layout_file → Touches mid new index_file → TouchesTwo old new layout_file index_file
TouchesTwo-both old mid new first second = λ q f g. second q g ∙ first q f
