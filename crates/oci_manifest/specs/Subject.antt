-- The subject that a manifest states (OCI image-spec 1.1, manifest.md and image-index.md, `subject`).
use Rattle.std.specs.Prelude.{◌≡◌, ℕ, Bool, true, false, List, codes, Option, Some, None, MatchOption, Result, Ok, if◌then◌else◌}
use Rattle.serde_json.specs.Data.{Data, object, Members}
use Rattle.serde_json.specs.Find.{as_object}
use Rattle.oci_manifest.specs.Descriptor.{Descriptor}
use Rattle.oci_manifest.specs.Fault.{Fault, not_json, not_object, bad_descriptor}
use Rattle.oci_manifest.specs.Manifest.{member_of, HasReading, IsDescriptor}
use Rattle.oci_manifest.specs.Reading.{◌>>=◌, or_fault, reading, descriptor_of}
use Rattle.oci_manifest.specs.declared.kind.Kind.{Kind}
use Rattle.oci_manifest.specs.declared.kind.Kind.TheVariants.{Image, Index, Artifact}

-- whether manifests of a kind may have a subject
abbrev pub may_refer : Kind → Bool
may_refer Image = true
may_refer Index = true
may_refer Artifact = true
may_refer kind = false

-- bytes of a kind state a key as their subject
pub record HasSubject (kind : Kind) (bytes : List ℕ) (k : Descriptor) : Type 0 where
  pub refers : may_refer kind ≡ true
  pub value : Data
  pub reads : HasReading bytes value
  pub members : Members
  pub is_object : value ≡ object members
  pub member : MatchOption (member_of value (codes "subject")) ⊥ (λ d. IsDescriptor d k)

-- the key of a member `subject`, if it is present
abbrev pub subject_in : Option Data → Result (Option Descriptor) Fault
subject_in None = Ok None
subject_in (Some d) = do
  k ← or_fault (bad_descriptor (codes "subject") 0) (descriptor_of d)
  Ok (Some k)

-- the subject of a JSON value, or the first rule that it breaks
unfoldable pub stated_subject : Data → Result (Option Descriptor) Fault
stated_subject manifest = do
  members ← or_fault not_object (as_object manifest)
  subject_in (member_of manifest (codes "subject"))

-- the subject of a JSON value of a kind, or the first rule that it breaks
abbrev pub stated_in : Kind → Data → Result (Option Descriptor) Fault
stated_in kind manifest = if may_refer kind then stated_subject manifest else Ok None

-- the subject of bytes of a kind, or the first rule that they break
unfoldable pub subject_of : Kind → List ℕ → Result (Option Descriptor) Fault
subject_of kind bytes = if may_refer kind then or_fault not_json (reading bytes) >>= stated_subject else Ok None
