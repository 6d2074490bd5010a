-- The function that computes successors and faults, against the relations that say what they are.
use Rattle.std.proofs.Common.{◌≡◌, ◌≢◌, ℕ, ◌⊎◌, inl, inr, List, [], Some, None, Result, Ok, Err, refl, sym, ap, subst, ◌∙◌}
use Rattle.std.specs.Prelude.{IfOk, IfErr, filter}
use Rattle.std.specs.List.{IsDistinct}
use Rattle.std.specs.Str.{is_utf8}
use Rattle.std.proofs.lemmas.Str.{is_utf8-from_IsUtf8, IsUtf8-from_is_utf8}
use Rattle.std.proofs.lemmas.Bool.{cases_Bool}
use Rattle.serde_json.specs.Data.{Data, object, Members}
use Rattle.serde_json.specs.Find.{as_object}
use Rattle.oci_manifest.specs.Descriptor.{Descriptor, same_key}
use Rattle.oci_manifest.specs.Fault.{Fails, Gives, IsFault, Fault, not_json, not_object, no_config, bad_list, bad_descriptor}
use Rattle.oci_manifest.specs.Manifest.{FirstFault, HasReading, Lists, Reads, Breaks, fields_of, is_distributed, distributed_once}
use Rattle.oci_manifest.specs.Reading.{or_fault, reading, manifest_keys, successors_of, ◌>>=◌}
use Rattle.oci_manifest.specs.declared.fault.ManifestFault.{ManifestFault}
use Rattle.oci_manifest.specs.declared.fault.ManifestFault.TheVariants as fault
use Rattle.oci_manifest.specs.declared.kind.Kind.{Kind}
use Rattle.oci_manifest.specs.declared.kind.Kind.TheVariants.{Image, Index, DockerImage, DockerList, Artifact, Leaf}
use Rattle.oci_manifest.proofs.Chains.{bind_ok, bind_err, or_ok, or_err, apart, some_or_none}
use Rattle.oci_manifest.proofs.Descriptors.{object_some}
use Rattle.oci_manifest.proofs.Keys.{IsDistinct-first_places}
use Rattle.oci_manifest.proofs.Members.{all_keys-sound, all_keys-complete, all_keys-fault, all_keys-broken}

-- ---- the bytes

pub reading-sound : (bytes : List ℕ) (v : Data) → reading bytes ≡ Some v → HasReading bytes v
reading-sound bytes v h =
    elim (cases_Bool (is_utf8 bytes)) [
      | inl text ↦ (IsUtf8-from_is_utf8 bytes text, rw text at h)
      | inr garbled ↦ cc (rw garbled at h)
    ]

pub reading-complete : (bytes : List ℕ) (v : Data) → HasReading bytes v → reading bytes ≡ Some v
reading-complete bytes v h =
    let text = is_utf8-from_IsUtf8 bytes h.0 in
    rw text h.1

no_reading : (bytes : List ℕ) → reading bytes ≡ None → (v : Data) → HasReading bytes v → ⊥
no_reading bytes h v r = apart (reading bytes) v h (reading-complete bytes v r)

unread_none : (bytes : List ℕ) → ((v : Data) → HasReading bytes v → ⊥) → reading bytes ≡ None
unread_none bytes h =
    elim (some_or_none (reading bytes)) [
      | inl none ↦ none
      | inr found ↦ absurd (h found.0 (reading-sound bytes found.0 found.1))
    ]

no_object : (v : Data) → ((ms : Members) → v ≡ object ms → ⊥) → as_object v ≡ None
no_object v h =
    elim (some_or_none (as_object v)) [
      | inl none ↦ none
      | inr found ↦ absurd (h found.0 (object_some v found.0 found.1))
    ]

Answer : Kind → List ℕ → Result (List Descriptor) Fault
Answer kind bytes = manifest_keys kind bytes >>= λ keys. Ok (distributed_once keys)

-- content that is read as a manifest
abbrev Manifested : Kind → List ℕ → List Descriptor → Type 0
Manifested kind bytes L = (value : Data) × HasReading bytes value × Lists kind value L

manifest-sound : (kind : Kind) (bytes : List ℕ) (L : List Descriptor) → Answer kind bytes ≡ Ok L → Manifested kind bytes L
unfolding manifest_keys Answer
manifest-sound kind bytes L h =
    let a = bind_ok (manifest_keys kind bytes) _ L h in
    let b = bind_ok (or_fault not_json (reading bytes)) _ a.0 a.1 in
    let c = bind_ok (or_fault not_object (as_object b.0)) _ a.0 b.2 in (
      b.0,
      reading-sound bytes b.0 (or_ok not_json (reading bytes) b.0 b.1),
      record {
        members = c.0;
        is_object = object_some b.0 c.0 (or_ok not_object (as_object b.0) c.0 c.1);
        keys = a.0;
        holds = all_keys-sound b.0 (fields_of kind) a.0 c.2;
        once = cc a.2;
      },
    )

manifest-complete : (kind : Kind) (bytes : List ℕ) (L : List Descriptor) → Manifested kind bytes L → Answer kind bytes ≡ Ok L
unfolding manifest_keys Answer
manifest-complete kind bytes L h =
    let read = reading-complete bytes h.0 h.1 in
    let whole : as_object h.0 ≡ Some h.2.members = ap as_object h.2.is_object in
    let keys = all_keys-complete h.0 (fields_of kind) h.2.keys h.2.holds in
    let end = h.2.once in
    rw (read, whole, keys) (ap Ok (sym end))

abbrev BreaksManifest : Kind → List ℕ → Fault → Type 0
BreaksManifest kind bytes f = (((value : Data) → HasReading bytes value → ⊥) × (f ≡ not_json))
    ⊎ ((value : Data) × HasReading bytes value × ((members : Members) → value ≡ object members → ⊥) × (f ≡ not_object))
    ⊎ ((value : Data) × HasReading bytes value × (members : Members) × (value ≡ object members) × FirstFault value (fields_of kind) f)

manifest-fault : (kind : Kind) (bytes : List ℕ) (f : Fault) → Answer kind bytes ≡ Err f → BreaksManifest kind bytes f
unfolding manifest_keys Answer
manifest-fault kind bytes f h =
    elim (bind_err (manifest_keys kind bytes) _ f h) [
      | inr a ↦ cc a.2
      | inl keys ↦
          elim (bind_err (or_fault not_json (reading bytes)) _ f keys) [
            | inl unread ↦
                let e = or_err not_json f (reading bytes) unread in
                inl (no_reading bytes e.0, e.1)
            | inr b ↦
                let value = reading-sound bytes b.0 (or_ok not_json (reading bytes) b.0 b.1) in
                elim (bind_err (or_fault not_object (as_object b.0)) _ f b.2) [
                  | inl other ↦
                      let e = or_err not_object f (as_object b.0) other in
                      inr (inl (b.0, value, (λ ms same. cc (sym e.0 ∙ ap as_object same)), e.1))
                  | inr c ↦ inr (inr (b.0, value, c.0, object_some b.0 c.0 (or_ok not_object (as_object b.0) c.0 c.1), all_keys-fault b.0 (fields_of kind) f c.2))
                ]
          ]
    ]

manifest-broken : (kind : Kind) (bytes : List ℕ) (f : Fault) → BreaksManifest kind bytes f → Answer kind bytes ≡ Err f
unfolding manifest_keys Answer
manifest-broken kind bytes f (inl h) =
    let unread = unread_none bytes h.0 in
    rw unread (ap Err (sym h.1))
manifest-broken kind bytes f (inr (inl h)) =
    let read = reading-complete bytes h.0 h.1 in
    let other = no_object h.0 h.2 in
    rw (read, other) (ap Err (sym h.3))
manifest-broken kind bytes f (inr (inr h)) =
    let read = reading-complete bytes h.0 h.1 in
    let whole : as_object h.0 ≡ Some h.2 = ap as_object h.3 in
    let bad = all_keys-broken h.0 (fields_of kind) f h.4 in
    rw (read, whole, bad) refl

pub reads-sound : (kind : Kind) (bytes : List ℕ) (L : List Descriptor) → successors_of kind bytes ≡ Ok L → Reads kind bytes L
unfolding successors_of Answer
reads-sound Leaf bytes L h = cc h
reads-sound Image bytes L h = manifest-sound Image bytes L h
reads-sound Index bytes L h = manifest-sound Index bytes L h
reads-sound DockerImage bytes L h = manifest-sound DockerImage bytes L h
reads-sound DockerList bytes L h = manifest-sound DockerList bytes L h
reads-sound Artifact bytes L h = manifest-sound Artifact bytes L h

pub reads-complete : (kind : Kind) (bytes : List ℕ) (L : List Descriptor) → Reads kind bytes L → successors_of kind bytes ≡ Ok L
unfolding successors_of Answer
reads-complete Leaf bytes L h = ap Ok (sym h)
reads-complete Image bytes L h = manifest-complete Image bytes L h
reads-complete Index bytes L h = manifest-complete Index bytes L h
reads-complete DockerImage bytes L h = manifest-complete DockerImage bytes L h
reads-complete DockerList bytes L h = manifest-complete DockerList bytes L h
reads-complete Artifact bytes L h = manifest-complete Artifact bytes L h

pub breaks : (kind : Kind) (bytes : List ℕ) (f : Fault) → successors_of kind bytes ≡ Err f → Breaks kind bytes f
unfolding successors_of Answer
breaks Leaf bytes f h = cc h
breaks Image bytes f h = manifest-fault Image bytes f h
breaks Index bytes f h = manifest-fault Index bytes f h
breaks DockerImage bytes f h = manifest-fault DockerImage bytes f h
breaks DockerList bytes f h = manifest-fault DockerList bytes f h
breaks Artifact bytes f h = manifest-fault Artifact bytes f h

pub breaks-complete : (kind : Kind) (bytes : List ℕ) (f : Fault) → Breaks kind bytes f → successors_of kind bytes ≡ Err f
unfolding successors_of Answer
breaks-complete Leaf bytes f h = absurd h
breaks-complete Image bytes f h = manifest-broken Image bytes f h
breaks-complete Index bytes f h = manifest-broken Index bytes f h
breaks-complete DockerImage bytes f h = manifest-broken DockerImage bytes f h
breaks-complete DockerList bytes f h = manifest-broken DockerList bytes f h
breaks-complete Artifact bytes f h = manifest-broken Artifact bytes f h

once-distinct : (r : Result (List Descriptor) Fault) (L : List Descriptor) → (r >>= λ keys. Ok (distributed_once keys)) ≡ Ok L → IsDistinct same_key L
once-distinct r L h =
    let a = bind_ok r _ L h in
    let e : distributed_once a.0 ≡ L = cc a.2 in
    subst (IsDistinct same_key) e (IsDistinct-first_places (filter is_distributed a.0))

-- among the successors of a content no key stands twice
pub successors_of-distinct : (kind : Kind) (bytes : List ℕ) (L : List Descriptor) → successors_of kind bytes ≡ Ok L → IsDistinct same_key L
unfolding successors_of
successors_of-distinct Leaf bytes L h =
    let e : [] ≡ L = cc h in
    subst (IsDistinct same_key) e (IsDistinct-first_places [])
successors_of-distinct Image bytes L h = once-distinct (manifest_keys Image bytes) L h
successors_of-distinct Index bytes L h = once-distinct (manifest_keys Index bytes) L h
successors_of-distinct DockerImage bytes L h = once-distinct (manifest_keys DockerImage bytes) L h
successors_of-distinct DockerList bytes L h = once-distinct (manifest_keys DockerList bytes) L h
successors_of-distinct Artifact bytes L h = once-distinct (manifest_keys Artifact bytes) L h

-- ---- what an answer of the program says

pub answer-reads : {X : Type 0} (view : X → List Descriptor) (kind : Kind) (bytes : List ℕ) (r : Result X ManifestFault) → Gives view r (successors_of kind bytes) → IfOk r (λ x. Reads kind bytes (view x))
answer-reads view kind bytes (Ok x) h = reads-sound kind bytes (view x) h
answer-reads view kind bytes (Err e) h = tt

pub answer-only : {X : Type 0} (view : X → List Descriptor) (kind : Kind) (bytes : List ℕ) (r : Result X ManifestFault) → Gives view r (successors_of kind bytes) → (L : List Descriptor) → Reads kind bytes L → Gives view r (Ok L)
answer-only view kind bytes r h L reads = subst (Gives view r) (reads-complete kind bytes L reads) h

fails_breaks : (kind : Kind) (bytes : List ℕ) (e : ManifestFault) → Fails e (successors_of kind bytes) → e ≢ fault.Memory → (f : Fault) × IsFault e f × Breaks kind bytes f
fails_breaks kind bytes fault.NotJson h no_memory = (not_json, refl, breaks kind bytes not_json h)
fails_breaks kind bytes fault.NotObject h no_memory = (not_object, refl, breaks kind bytes not_object h)
fails_breaks kind bytes fault.NoConfig h no_memory = (no_config, refl, breaks kind bytes no_config h)
fails_breaks kind bytes (fault.BadList m) h no_memory = (bad_list m.now, refl, breaks kind bytes (bad_list m.now) h)
fails_breaks kind bytes (fault.BadDescriptor m i) h no_memory = (bad_descriptor m.now i, refl, breaks kind bytes (bad_descriptor m.now i) h)
fails_breaks kind bytes fault.Memory h no_memory = absurd (no_memory refl)

pub answer-breaks : {X : Type 0} (view : X → List Descriptor) (kind : Kind) (bytes : List ℕ) (r : Result X ManifestFault) → Gives view r (successors_of kind bytes) → IfErr r (λ e. e ≢ fault.Memory → (f : Fault) × IsFault e f × Breaks kind bytes f)
answer-breaks view kind bytes (Ok x) h = tt
answer-breaks view kind bytes (Err e) h = fails_breaks kind bytes e h

pub answer-breaks_only : {X : Type 0} (view : X → List Descriptor) (kind : Kind) (bytes : List ℕ) (r : Result X ManifestFault) → Gives view r (successors_of kind bytes) → (f : Fault) → Breaks kind bytes f → Gives view r (Err f)
answer-breaks_only view kind bytes r h f broken = subst (Gives view r) (breaks-complete kind bytes f broken) h

pub answer-distinct : {X : Type 0} (view : X → List Descriptor) (kind : Kind) (bytes : List ℕ) (r : Result X ManifestFault) → Gives view r (successors_of kind bytes) → IfOk r (λ x. IsDistinct same_key (view x))
answer-distinct view kind bytes (Ok x) h = successors_of-distinct kind bytes (view x) h
answer-distinct view kind bytes (Err e) h = tt
