-- Why an index is refused, and why the manifest of the next key is.
use Rattle.std.proofs.Common.{◌≡◌, ◌≢◌, ℕ, Bool, true, false, refl, inl, inr, List, codes, Option, Some, None, Result, Ok, Err, sym, ap, subst, arith}
use Rattle.serde_json.specs.Data.{Data, array, boolean, null, number, object, string}
use Rattle.serde_json.specs.Find.{get}
use Rattle.oci_manifest.specs.Descriptor.{Descriptor}
use Rattle.oci_manifest.specs.Fault.{Fails, Fault, not_json, not_object, no_config, bad_list, bad_descriptor}
use Rattle.oci_manifest.specs.Manifest.{present}
use Rattle.oci_manifest.specs.MediaTypes.{kind_of}
use Rattle.oci_manifest.specs.Reading.{◌>>=◌, index_keys, keys_of as member_keys, listed_in as keys_listed, or_fault, reading}
use Rattle.oci_manifest.specs.declared.fault.ManifestFault.{ManifestFault}
use Rattle.oci_manifest.specs.declared.fault.ManifestFault.TheVariants as manifest
use Rattle.oci_manifest.specs.declared.kind.Kind.TheVariants.{Leaf}
use Rattle.oci_store.specs.Content.{Matches}
use Rattle.oci_layout_store.specs.Blobs.{blob_path}
use Rattle.oci_dir.specs.Device.{Device, File, IsSizedRead}
use Rattle.oci_layout_store.specs.Entries.{IndexContent, IsIndexFile, elements_of, entries_as_is, entries_in, entry_keys, index_elements, index_entries}
use Rattle.oci_layout_store.specs.Faults.{of_index}
use Rattle.oci_layout_store.specs.Index.{index_file, HasLayoutFile}
use Rattle.oci_layout_store.specs.Opened.{IsMeantFile}
use Rattle.oci_layout_store.specs.Refusal.{HasBadIndex, IsCorrupt, IsUnread, IsBytesFault, IsDamage, IsManifestFault, IsNextVisited, IsOpenAsIsFault, IsOpenFault, IsOpenFaultBy, IsWalkFault, index_in}
use Rattle.oci_layout_store.specs.declared.fault.LayoutFault.{LayoutFault}
use Rattle.oci_layout_store.specs.declared.fault.LayoutFault.TheVariants as fault
use Rattle.oci_layout_store.proofs.Read.{strictly_stated}

-- a bad index, or no memory, is why a directory is not opened, as it is or not
by_index : (as_is : Bool) (dir : Device) (e : ManifestFault) → (dir.is_honest → HasLayoutFile dir.file × HasBadIndex as_is dir.file e) → IsOpenFaultBy as_is dir (fault.BadIndex e)
by_index true dir e h = h
by_index false dir e h = h

by_memory : (as_is : Bool) (dir : Device) → IsOpenFaultBy as_is dir fault.Memory
by_memory true dir = tt
by_memory false dir = tt

-- what is wrong with the bytes of the index is why the directory is not opened, as it is or not
pub index_fault : (as_is : Bool) (dir : Device) (bytes : List ℕ) (e : ManifestFault) → (dir.is_honest → HasLayoutFile dir.file) → (dir.is_honest → dir.file index_file ≡ Some bytes)
    → Fails e (index_in as_is bytes) → IsOpenFaultBy as_is dir (of_index e)
index_fault as_is dir bytes manifest.NotJson stated read h = by_index as_is dir manifest.NotJson (λ is. (stated is, (bytes, not_json, read is, h, refl)))
index_fault as_is dir bytes manifest.NotObject stated read h = by_index as_is dir manifest.NotObject (λ is. (stated is, (bytes, not_object, read is, h, refl)))
index_fault as_is dir bytes manifest.NoConfig stated read h = by_index as_is dir manifest.NoConfig (λ is. (stated is, (bytes, no_config, read is, h, refl)))
index_fault as_is dir bytes (manifest.BadList member) stated read h = by_index as_is dir (manifest.BadList member) (λ is. (stated is, (bytes, bad_list member.now, read is, h, refl)))
index_fault as_is dir bytes (manifest.BadDescriptor member position) stated read h =
    by_index as_is dir (manifest.BadDescriptor member position) (λ is. (stated is, (bytes, bad_descriptor member.now position, read is, h, refl)))
index_fault as_is dir bytes manifest.Memory stated read h = by_memory as_is dir

-- an index that is refused as it is is refused strictly
same_error : {A B : Type 0} (e f : Fault) → ◌≡◌ {A = Result A Fault} (Err e) (Err f) → ◌≡◌ {A = Result B Fault} (Err e) (Err f)
same_error e f h = cc h

bad_list_in : (o : Option Data) (e : Fault) → (elements_of (present o) >>= λ ds. Ok (entries_in ds)) ≡ Err e → keys_listed (codes "manifests") (present o) ≡ Err e
unfolding elements_of
bad_list_in None e h = cc h
bad_list_in (Some null) e h = cc h
bad_list_in (Some (boolean b)) e h = same_error (bad_list (codes "manifests")) e h
bad_list_in (Some (number n)) e h = same_error (bad_list (codes "manifests")) e h
bad_list_in (Some (string s)) e h = same_error (bad_list (codes "manifests")) e h
bad_list_in (Some (array ds)) e h = cc h
bad_list_in (Some (object ms)) e h = same_error (bad_list (codes "manifests")) e h

bad_as_is : (value : Data) (e : Fault) → entries_as_is value ≡ Err e → index_keys value ≡ Err e
unfolding index_keys member_keys index_elements
bad_as_is null e h = same_error not_object e h
bad_as_is (boolean b) e h = same_error not_object e h
bad_as_is (number n) e h = same_error not_object e h
bad_as_is (string s) e h = same_error not_object e h
bad_as_is (array ds) e h = same_error not_object e h
bad_as_is (object ms) e h = bad_list_in (get (codes "manifests") (object ms)) e h

strict_in : (r : Result Data Fault) (e : Fault) → (r >>= index_entries true) ≡ Err e → (r >>= index_entries false) ≡ Err e
strict_in (Ok value) e h = ap (λ (keys : Result (List Descriptor) Fault). keys >>= λ ks. entries_as_is value) (bad_as_is value e h)
strict_in (Err f) e h = h

strict_index : (file : File) (e : ManifestFault) → HasBadIndex true file e → HasBadIndex false file e
strict_index file e h = (h.0, h.1, h.2, strict_in (or_fault not_json (reading h.0)) h.1 h.3, h.4)

-- what is wrong with the file of one key is wrong with that of the next key, which it is
pub IsManifestFault-at : (dir : Device) (is_next : Descriptor → Type 0) (k : Descriptor) (e : LayoutFault) → (dir.is_honest → is_next k)
    → IsManifestFault dir (λ named. named ≡ k) e → IsManifestFault dir is_next e
IsManifestFault-at dir is_next k fault.Device next h = h
IsManifestFault-at dir is_next k (fault.Corrupt named) next h = λ is. (subst is_next (sym (h is).0) (next is), (h is).1)
IsManifestFault-at dir is_next k fault.Memory next h = tt
IsManifestFault-at dir is_next k (fault.BadManifest named e) next h = λ is. (subst is_next (sym (h is).0) (next is), (h is).1)
IsManifestFault-at dir is_next k other next h = absurd h

-- what is wrong with the bytes that were read of a manifest is wrong with its file
pub read_fault : (dir : Device) (k : Descriptor) (bytes : List ℕ) (e : LayoutFault) → kind_of k.media_type ≢ Leaf
    → (dir.is_honest → IsSizedRead (dir.file (blob_path k.digest)) k.size (Some bytes)) → IsBytesFault k bytes e → IsManifestFault dir (λ named. named ≡ k) e
read_fault dir k bytes (fault.Corrupt named) other read h = λ is. (
    let r = read is in
    let corrupt : IsCorrupt dir.file k = (other, r.0, r.1, λ matching. elim r.2 [ inl same ↦ h.1 (subst (Matches k) (sym same) matching) | inr long ↦ absurd (omega (arith, long.1, matching.0)) ]) in
    (h.0, subst (IsCorrupt dir.file) (sym h.0) corrupt))
read_fault dir k bytes fault.Memory other read h = tt
read_fault dir k bytes (fault.BadManifest named e) other read h = λ is. (
    let r = read is in
    let unread : IsUnread dir.file k e = elim r.2 [
      | inl same ↦ (other, r.0, h.2, r.1, subst (Matches k) same h.1, rw same at h.3, h.4)
      | inr long ↦ absurd (omega (arith, long.0, h.1.0))
    ] in
    (h.0, subst (λ (j : Descriptor). IsUnread dir.file j e) (sym h.0) unread))
read_fault dir k bytes rest other read h = absurd h

-- why a directory is not opened as it is is why it is not opened
opened_fault : (dir : Device) (e : LayoutFault) → IsOpenAsIsFault dir e → IsOpenFault dir e
opened_fault dir fault.NoLayoutFile h = h
opened_fault dir fault.BadLayoutFile h = h
opened_fault dir fault.BadVersion h = h
opened_fault dir (fault.BadIndex e) h = λ is. ((h is).0, strict_index dir.file e (h is).1)
opened_fault dir fault.Device h = h
opened_fault dir (fault.Corrupt k) h = absurd h
opened_fault dir fault.Memory h = h
opened_fault dir (fault.BadManifest k e) h = absurd h
opened_fault dir fault.AlreadyLayout h = h

pub fault_by : (as_is : Bool) (dir : Device) (e : LayoutFault) → IsOpenAsIsFault dir e → IsOpenFaultBy as_is dir e
fault_by true dir e h = h
fault_by false dir e h = opened_fault dir e h

-- a fault that says nothing of a manifest
calm_fault : (dir : Device) (is_next other : Descriptor → Type 0) (e : LayoutFault) → (IsDamage e → ⊥) → IsManifestFault dir is_next e → IsManifestFault dir other e
calm_fault dir is_next other fault.Device calm h = h
calm_fault dir is_next other (fault.Corrupt k) calm h = absurd (calm tt)
calm_fault dir is_next other fault.Memory calm h = tt
calm_fault dir is_next other (fault.BadManifest k e) calm h = absurd (calm tt)
calm_fault dir is_next other rest calm h = absurd h

-- why a step of a walk fails is why the walk does
pub walk_fault : (as_is : Bool) (dir : Device) (starts : List Descriptor) (k : Descriptor) (e : LayoutFault) → (as_is ≡ false → dir.is_honest → IsNextVisited dir.file starts k)
    → IsWalkFault as_is dir (λ named. named ≡ k) e → IsWalkFault as_is dir (IsNextVisited dir.file starts) e
walk_fault true dir starts k e next h = record {
  cause = calm_fault dir (λ named. named ≡ k) (IsNextVisited dir.file starts) e (λ damage. cc (h.strict damage)) h.cause;
  strict = h.strict;
}
walk_fault false dir starts k e next h = record { cause = IsManifestFault-at dir (IsNextVisited dir.file starts) k e (next refl) h.cause; strict = h.strict }

-- why a walk from the keys of the index fails is why the directory is not opened
strict_fault : (dir : Device) (content : IndexContent) (e : LayoutFault) → (dir.is_honest → HasLayoutFile dir.file) → (dir.is_honest → IsIndexFile false (dir.file index_file) content)
    → IsManifestFault dir (IsNextVisited dir.file (entry_keys content.entries)) e → IsOpenFault dir e
strict_fault dir content fault.Device stated index h = h
strict_fault dir content (fault.Corrupt k) stated index h = λ is. (stated is, record { content = content; index = index is; next = (h is).0 }, (h is).1)
strict_fault dir content fault.Memory stated index h = tt
strict_fault dir content (fault.BadManifest k e) stated index h = λ is. (stated is, record { content = content; index = index is; next = (h is).0 }, (h is).1)
strict_fault dir content rest stated index h = absurd h

calm_opening : (dir : Device) (is_next : Descriptor → Type 0) (e : LayoutFault) → (IsDamage e → ⊥) → IsManifestFault dir is_next e → IsOpenAsIsFault dir e
calm_opening dir is_next fault.Device calm h = h
calm_opening dir is_next (fault.Corrupt k) calm h = absurd (calm tt)
calm_opening dir is_next fault.Memory calm h = tt
calm_opening dir is_next (fault.BadManifest k e) calm h = absurd (calm tt)
calm_opening dir is_next rest calm h = absurd h

pub opening_fault : (as_is : Bool) (dir : Device) (content : IndexContent) (e : LayoutFault) → (dir.is_honest → HasLayoutFile dir.file) → (dir.is_honest → IsMeantFile as_is dir.file content)
    → IsWalkFault as_is dir (IsNextVisited dir.file (entry_keys content.entries)) e → IsOpenFaultBy as_is dir e
opening_fault true dir content e stated index h = calm_opening dir (IsNextVisited dir.file (entry_keys content.entries)) e (λ damage. cc (h.strict damage)) h.cause
opening_fault false dir content e stated index h = strict_fault dir content e stated (λ is. strictly_stated dir.file content (index is)) h.cause
