-- The function that computes the keys which are not distributed, against the relation that says what
-- they are.
use Rattle.std.proofs.Common.{◌≡◌, ℕ, List, [], Some, Result, Ok, Err, refl, sym, ap, subst}
use Rattle.std.specs.Prelude.{IfErr}
use Rattle.serde_json.specs.Data.{Data}
use Rattle.serde_json.specs.Find.{as_object}
use Rattle.oci_manifest.specs.Descriptor.{Descriptor}
use Rattle.oci_manifest.specs.Fault.{Fails, Gives, Fault, not_json, not_object}
use Rattle.oci_manifest.specs.Manifest.{HasReading, Reads, fields_of}
use Rattle.oci_manifest.specs.Reading.{or_fault, reading, manifest_keys, ◌>>=◌}
use Rattle.oci_manifest.specs.Undistributed.{ListsAside, ReadsAside, undistributed_in, undistributed_of}
use Rattle.oci_manifest.specs.declared.fault.ManifestFault.{ManifestFault}
use Rattle.oci_manifest.specs.declared.fault.ManifestFault.TheVariants as fault
use Rattle.oci_manifest.specs.declared.kind.Kind.{Kind}
use Rattle.oci_manifest.specs.declared.kind.Kind.TheVariants.{Image, Index, DockerImage, DockerList, Artifact, Leaf}
use Rattle.oci_manifest.proofs.Chains.{bind_ok, or_ok}
use Rattle.oci_manifest.proofs.Descriptors.{object_some}
use Rattle.oci_manifest.proofs.Laws.{reading-sound, reading-complete}
use Rattle.oci_manifest.proofs.Members.{all_keys-sound, all_keys-complete}

Aside : Kind → List ℕ → Result (List Descriptor) Fault
Aside kind bytes = manifest_keys kind bytes >>= λ keys. Ok (undistributed_in keys)

abbrev Manifested : Kind → List ℕ → List Descriptor → Type 0
Manifested kind bytes L = (value : Data) × HasReading bytes value × ListsAside kind value L

manifest-sound : (kind : Kind) (bytes : List ℕ) (L : List Descriptor) → Aside kind bytes ≡ Ok L → Manifested kind bytes L
unfolding manifest_keys Aside
manifest-sound kind bytes L h =
    let a = bind_ok (manifest_keys kind bytes) _ L h in
    let b = bind_ok (or_fault not_json (reading bytes)) _ a.0 a.1 in
    let c = bind_ok (or_fault not_object (as_object b.0)) _ a.0 b.2 in (
      b.0,
      reading-sound bytes b.0 (or_ok not_json (reading bytes) b.0 b.1),
      record {
        members = c.0;
        is_object = object_some b.0 c.0 (or_ok not_object (as_object b.0) c.0 c.1);
        keys = a.0;
        holds = all_keys-sound b.0 (fields_of kind) a.0 c.2;
        only = cc a.2;
      },
    )

manifest-complete : (kind : Kind) (bytes : List ℕ) (L : List Descriptor) → Manifested kind bytes L → Aside kind bytes ≡ Ok L
unfolding manifest_keys Aside
manifest-complete kind bytes L h =
    let read = reading-complete bytes h.0 h.1 in
    let whole : as_object h.0 ≡ Some h.2.members = ap as_object h.2.is_object in
    let keys = all_keys-complete h.0 (fields_of kind) h.2.keys h.2.holds in
    let end = h.2.only in
    rw (read, whole, keys) (ap Ok (sym end))

pub aside-sound : (kind : Kind) (bytes : List ℕ) (L : List Descriptor) → undistributed_of kind bytes ≡ Ok L → ReadsAside kind bytes L
unfolding undistributed_of Aside
aside-sound Leaf bytes L h = cc h
aside-sound Image bytes L h = manifest-sound Image bytes L h
aside-sound Index bytes L h = manifest-sound Index bytes L h
aside-sound DockerImage bytes L h = manifest-sound DockerImage bytes L h
aside-sound DockerList bytes L h = manifest-sound DockerList bytes L h
aside-sound Artifact bytes L h = manifest-sound Artifact bytes L h

pub aside-complete : (kind : Kind) (bytes : List ℕ) (L : List Descriptor) → ReadsAside kind bytes L → undistributed_of kind bytes ≡ Ok L
unfolding undistributed_of Aside
aside-complete Leaf bytes L h = ap Ok (sym h)
aside-complete Image bytes L h = manifest-complete Image bytes L h
aside-complete Index bytes L h = manifest-complete Index bytes L h
aside-complete DockerImage bytes L h = manifest-complete DockerImage bytes L h
aside-complete DockerList bytes L h = manifest-complete DockerList bytes L h
aside-complete Artifact bytes L h = manifest-complete Artifact bytes L h

-- ---- a content that can be read has these keys

pub aside-reads : (kind : Kind) (bytes : List ℕ) (L : List Descriptor) → Reads kind bytes L → (aside : List Descriptor) × (undistributed_of kind bytes ≡ Ok aside)
aside-reads Leaf bytes L h = ([], aside-complete Leaf bytes [] refl)
aside-reads Image bytes L h = (undistributed_in h.2.keys, aside-complete Image bytes _ (h.0, h.1, record { members = h.2.members; is_object = h.2.is_object; keys = h.2.keys; holds = h.2.holds; only = refl }))
aside-reads Index bytes L h = (undistributed_in h.2.keys, aside-complete Index bytes _ (h.0, h.1, record { members = h.2.members; is_object = h.2.is_object; keys = h.2.keys; holds = h.2.holds; only = refl }))
aside-reads DockerImage bytes L h = (undistributed_in h.2.keys, aside-complete DockerImage bytes _ (h.0, h.1, record { members = h.2.members; is_object = h.2.is_object; keys = h.2.keys; holds = h.2.holds; only = refl }))
aside-reads DockerList bytes L h = (undistributed_in h.2.keys, aside-complete DockerList bytes _ (h.0, h.1, record { members = h.2.members; is_object = h.2.is_object; keys = h.2.keys; holds = h.2.holds; only = refl }))
aside-reads Artifact bytes L h = (undistributed_in h.2.keys, aside-complete Artifact bytes _ (h.0, h.1, record { members = h.2.members; is_object = h.2.is_object; keys = h.2.keys; holds = h.2.holds; only = refl }))

only_memory : (e : ManifestFault) (L : List Descriptor) → Fails e (Ok L) → e ≡ fault.Memory
only_memory fault.NotJson L h = cc h
only_memory fault.NotObject L h = cc h
only_memory fault.NoConfig L h = cc h
only_memory (fault.BadList m) L h = cc h
only_memory (fault.BadDescriptor m i) L h = cc h
only_memory fault.Memory L h = refl

pub answer-aside : {X : Type 0} (view : X → List Descriptor) (kind : Kind) (bytes : List ℕ) (r : Result X ManifestFault) → Gives view r (undistributed_of kind bytes)
    → (L : List Descriptor) → Reads kind bytes L → IfErr r (λ e. e ≡ fault.Memory)
answer-aside view kind bytes (Ok x) h L reads = tt
answer-aside view kind bytes (Err e) h L reads =
    let aside = aside-reads kind bytes L reads in
    only_memory e aside.0 (subst (Fails e) aside.1 h)
