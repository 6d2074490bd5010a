-- An index that is written of whole entries has them when it is read.
use Rattle.std.proofs.Common.{◌≡◌, ℕ, ◌<◌, ◌^◌, true, List, map, codes, Option, Some, None, Ok, Result, refl, ap, ◌∙◌}
use Rattle.std.specs.Prelude.{nat_lt}
use Rattle.std.proofs.lemmas.Bool.{lt-ltb}
use Rattle.serde_json.specs.Data.{Data, Items, Members, array, object, put, string, number, unsigned}
use Rattle.serde_json.specs.Find.{get_member}
use Rattle.serde_json.specs.View.{items_of}
use Rattle.serde_json.proofs.Views.{get_member-put}
use Rattle.oci_digest.specs.Digest.{is_digest}
use Rattle.oci_digest.proofs.Accepts.{Decides-is_digest}
use Rattle.oci_manifest.specs.Descriptor.{Descriptor, IsKey}
use Rattle.oci_manifest.specs.Fault.{Fault}
use Rattle.oci_manifest.specs.Reading.{◌>>=◌, descriptor_of}
use Rattle.oci_layout_store.specs.Entries.{IndexContent, IndexEntry, elements_of, entries_as_is, entries_in, index_elements, key_members, name_of, named_value, new_entry, object_members, without_member}
use Rattle.oci_layout_store.specs.Index.{index_value}
use Rattle.oci_layout_store.specs.Law.{IsWhole, ReadsAsWritten}
use Rattle.oci_layout_store.proofs.Read.{entries_again}

-- ---- a new entry is whole

digest_test : (k : Descriptor) → IsKey k → is_digest k.digest ≡ true
digest_test k is = (Decides-is_digest k.digest).1 is.is_digest

size_test : (n : ℕ) → n < 2 ^ 63 → nat_lt n (2 ^ 63) ≡ true
size_test n lt = lt-ltb n (2 ^ 63) lt

descriptor-named : (k : Descriptor) (name : Option (List ℕ)) → IsKey k → descriptor_of (named_value k name) ≡ Some k
unfolding descriptor_of key_members named_value
descriptor-named k None is = rw (digest_test k is, size_test k.size is.fits) refl
descriptor-named k (Some name) is = rw (digest_test k is, size_test k.size is.fits) refl

name-named : (k : Descriptor) (name : Option (List ℕ)) → name_of (named_value k name) ≡ name
unfolding name_of key_members named_value
name-named k None = refl
name-named k (Some name) = refl

pub whole-new : (k : Descriptor) (name : Option (List ℕ)) → IsKey k → IsWhole (new_entry k name)
whole-new k name is = record { key_is = descriptor-named k name is; name_is = name-named k name }

-- ---- the entries of an object with this list

abbrev values : List IndexEntry → Items
values entries = items_of (map (λ (e : IndexEntry). e.value) entries)

elements_in : (ms : Members) (ds : Items) → get_member (codes "manifests") ms ≡ Some (array ds) → index_elements (object ms) ≡ Ok ds
unfolding index_elements elements_of
elements_in ms ds found = rw found refl

-- ---- an index that is written

-- its members without the list
abbrev others : IndexContent → Members
others content = put (codes "mediaType") (string (codes "application/vnd.oci.image.index.v1+json")) (put (codes "schemaVersion") (number (unsigned 2)) content.members)

abbrev written : IndexContent → Members
written content = put (codes "manifests") (array (values content.entries)) (others content)

list-written : (content : IndexContent) → get_member (codes "manifests") (written content) ≡ Some (array (values content.entries))
list-written content = get_member-put (codes "manifests") (array (values content.entries)) (others content)

elements-written : (content : IndexContent) → index_elements (index_value content) ≡ Ok (values content.entries)
unfolding index_value
elements-written content = elements_in (written content) (values content.entries) (list-written content)

pub reads_as_written : ReadsAsWritten
reads_as_written bytes content are compact =
    let value : Data = index_value content in
    let read : entries_as_is value ≡ Ok content.entries = ap (λ (r : Result Items Fault). r >>= λ ds. Ok (entries_in ds)) (elements-written content) ∙ ap Ok (entries_again content.entries are) in (
      record { entries = content.entries; members = without_member (codes "manifests") (object_members value) },
      (value, content.entries, compact.read, read, refl),
      refl,
    )
