-- The function that reads a subject, against the relation that says what one is.
use Rattle.std.proofs.Common.{◌≡◌, ℕ, true, inl, inr, List, [], ◌∷◌, codes, Option, Some, None, Result, Ok, Err, refl, sym, ap, subst, ◌∙◌}
use Rattle.std.specs.Prelude.{MatchOption, IfErr}
use Rattle.std.proofs.lemmas.Bool.{cases_Bool}
use Rattle.serde_json.specs.Data.{Data, object, Members}
use Rattle.serde_json.specs.Find.{as_object}
use Rattle.oci_manifest.specs.Descriptor.{Descriptor}
use Rattle.oci_manifest.specs.Fault.{Fault, Fails, Gives, not_json, not_object, bad_descriptor}
use Rattle.oci_manifest.specs.Manifest.{Field, HasReading, Holds, IsDescriptor, Reads, member_of, optional}
use Rattle.oci_manifest.specs.Reading.{◌>>=◌, or_fault, reading, descriptor_of, all_keys, keys_in, keys_of, optional_in}
use Rattle.oci_manifest.specs.Subject.{HasSubject, may_refer, stated_in, stated_subject, subject_in, subject_of}
use Rattle.oci_manifest.specs.declared.fault.ManifestFault.{ManifestFault}
use Rattle.oci_manifest.specs.declared.fault.ManifestFault.TheVariants as fault
use Rattle.oci_manifest.specs.declared.kind.Kind.{Kind}
use Rattle.oci_manifest.specs.declared.kind.Kind.TheVariants.{Image, Index, DockerImage, DockerList, Artifact, Leaf}
use Rattle.oci_manifest.proofs.Chains.{bind_ok, or_ok}
use Rattle.oci_manifest.proofs.Descriptors.{object_some, descriptor_of-sound, descriptor_of-complete}
use Rattle.oci_manifest.proofs.Laws.{reading-sound, reading-complete}

subject_in-sound : (o : Option Data) (k : Descriptor) → subject_in o ≡ Ok (Some k) → MatchOption o ⊥ (λ d. IsDescriptor d k)
subject_in-sound None k h = cc h
subject_in-sound (Some d) k h =
    let a = bind_ok (or_fault (bad_descriptor (codes "subject") 0) (descriptor_of d)) _ (Some k) h in
    let e : a.0 ≡ k = cc a.2 in
    subst (IsDescriptor d) e (descriptor_of-sound d a.0 (or_ok (bad_descriptor (codes "subject") 0) (descriptor_of d) a.0 a.1))

subject_in-complete : (o : Option Data) (k : Descriptor) → MatchOption o ⊥ (λ d. IsDescriptor d k) → subject_in o ≡ Ok (Some k)
subject_in-complete None k h = absurd h
subject_in-complete (Some d) k h =
    let e = descriptor_of-complete d k h in
    rw e refl

-- a key is returned exactly if the bytes state it
pub subject_of-sound : (kind : Kind) (bytes : List ℕ) (k : Descriptor) → subject_of kind bytes ≡ Ok (Some k) → HasSubject kind bytes k
unfolding subject_of stated_subject
subject_of-sound kind bytes k h =
    elim (cases_Bool (may_refer kind)) [
      | inr unrefers ↦ cc (rw unrefers at h)
      | inl refers ↦
          let a = bind_ok (or_fault not_json (reading bytes)) _ (Some k) (rw refers at h) in
          let b = bind_ok (or_fault not_object (as_object a.0)) _ (Some k) a.2 in
          record {
            refers = refers;
            value = a.0;
            reads = reading-sound bytes a.0 (or_ok not_json (reading bytes) a.0 a.1);
            members = b.0;
            is_object = object_some a.0 b.0 (or_ok not_object (as_object a.0) b.0 b.1);
            member = subject_in-sound (member_of a.0 (codes "subject")) k b.2;
          }
    ]

pub subject_of-complete : (kind : Kind) (bytes : List ℕ) (k : Descriptor) → HasSubject kind bytes k → subject_of kind bytes ≡ Ok (Some k)
unfolding subject_of stated_subject
subject_of-complete kind bytes k h =
    let refers = h.refers in
    let read = reading-complete bytes h.value h.reads in
    let whole : as_object h.value ≡ Some h.members = ap as_object h.is_object in
    let stated = subject_in-complete (member_of h.value (codes "subject")) k h.member in
    rw (refers, read, whole, stated) refl

-- ---- a manifest that can be read has a subject or none

subject_in-reads : (o : Option Data) (ks : List Descriptor) → MatchOption o (ks ≡ []) (λ d. (k : Descriptor) × IsDescriptor d k × (ks ≡ k ∷ [])) → (s : Option Descriptor) × (subject_in o ≡ Ok s)
subject_in-reads None ks h = (None, refl)
subject_in-reads (Some d) ks h =
    let e = descriptor_of-complete d h.0 h.1 in
    (Some h.0, rw e refl)

manifest-reads : (kind : Kind) (bytes : List ℕ) (value : Data) (members : Members) (ks : List Descriptor) → may_refer kind ≡ true → HasReading bytes value → value ≡ object members
    → Holds value (optional (codes "subject")) ks → (s : Option Descriptor) × (subject_of kind bytes ≡ Ok s)
unfolding subject_of stated_subject
manifest-reads kind bytes value members ks refers reads is_object holds =
    let read = reading-complete bytes value reads in
    let whole : as_object value ≡ Some members = ap as_object is_object in
    let s = subject_in-reads (member_of value (codes "subject")) ks holds in
    let stated = s.1 in
    (s.0, rw (refers, read, whole, stated) refl)

subject_of-reads : (kind : Kind) (bytes : List ℕ) (L : List Descriptor) → Reads kind bytes L → (s : Option Descriptor) × (subject_of kind bytes ≡ Ok s)
unfolding subject_of
subject_of-reads Leaf bytes L h = (None, refl)
subject_of-reads DockerImage bytes L h = (None, refl)
subject_of-reads DockerList bytes L h = (None, refl)
subject_of-reads Image bytes L h = manifest-reads Image bytes h.0 h.2.members h.2.holds.0 refl h.1 h.2.is_object h.2.holds.2
subject_of-reads Index bytes L h = manifest-reads Index bytes h.0 h.2.members h.2.holds.0 refl h.1 h.2.is_object h.2.holds.2
subject_of-reads Artifact bytes L h = manifest-reads Artifact bytes h.0 h.2.members h.2.holds.0 refl h.1 h.2.is_object h.2.holds.2

-- ---- a manifest whose keys were read has a subject or none

stated-member : (o : Option Data) (ks : List Descriptor) → optional_in (codes "subject") o ≡ Ok ks → (s : Option Descriptor) × (subject_in o ≡ Ok s)
stated-member None ks h = (None, refl)
stated-member (Some d) ks h =
    let k = bind_ok (or_fault (bad_descriptor (codes "subject") 0) (descriptor_of d)) _ ks h in
    (Some k.0, ap (λ (r : Result Descriptor Fault). r >>= λ j. Ok (Some j)) k.1)

stated-keys : (manifest : Data) (fs : List Field) (ks : List Descriptor) → (or_fault not_object (as_object manifest) >>= λ members. all_keys manifest (optional (codes "subject") ∷ fs)) ≡ Ok ks
    → (s : Option Descriptor) × (stated_subject manifest ≡ Ok s)
unfolding all_keys keys_of stated_subject
stated-keys manifest fs ks h =
    let a = bind_ok (or_fault not_object (as_object manifest)) _ ks h in
    let b = bind_ok (optional_in (codes "subject") (member_of manifest (codes "subject"))) _ ks a.2 in
    let s = stated-member (member_of manifest (codes "subject")) b.0 b.1 in
    (s.0, ap (λ (r : Result Members Fault). r >>= λ members. subject_in (member_of manifest (codes "subject"))) a.1 ∙ s.1)

stated-reads : (kind : Kind) (manifest : Data) (ks : List Descriptor) → keys_in kind manifest ≡ Ok ks → (s : Option Descriptor) × (stated_in kind manifest ≡ Ok s)
stated-reads Image manifest ks h = stated-keys manifest _ ks h
stated-reads Index manifest ks h = stated-keys manifest _ ks h
stated-reads Artifact manifest ks h = stated-keys manifest _ ks h
stated-reads DockerImage manifest ks h = (None, refl)
stated-reads DockerList manifest ks h = (None, refl)
stated-reads Leaf manifest ks h = (None, refl)

only_memory : (e : ManifestFault) (s : Option Descriptor) → Fails e (Ok s) → e ≡ fault.Memory
only_memory fault.NotJson s h = cc h
only_memory fault.NotObject s h = cc h
only_memory fault.NoConfig s h = cc h
only_memory (fault.BadList m) s h = cc h
only_memory (fault.BadDescriptor m i) s h = cc h
only_memory fault.Memory s h = refl

pub answer-reads : {X : Type 0} (view : X → Option Descriptor) (kind : Kind) (bytes : List ℕ) (r : Result X ManifestFault) → Gives view r (subject_of kind bytes)
    → (L : List Descriptor) → Reads kind bytes L → IfErr r (λ e. e ≡ fault.Memory)
answer-reads view kind bytes (Ok x) h L reads = tt
answer-reads view kind bytes (Err e) h L reads =
    let s = subject_of-reads kind bytes L reads in
    only_memory e s.0 (subst (Fails e) s.1 h)

-- of a manifest whose keys were read, a subject is refused only if memory runs out, and then so is all
pub stated-refused : (kind : Kind) (manifest : Data) (ks : List Descriptor) (e : ManifestFault) → keys_in kind manifest ≡ Ok ks → Fails e (stated_in kind manifest)
    → (r : Result (List Descriptor) Fault) → Fails e r
stated-refused kind manifest ks e keys h r =
    let s = stated-reads kind manifest ks keys in
    subst (λ (f : ManifestFault). Fails f r) (sym (only_memory e s.0 (subst (Fails e) s.1 h))) tt
