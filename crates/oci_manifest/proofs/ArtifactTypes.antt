-- The function that reads the type of a manifest, against the relation that says what one is.
use Rattle.std.proofs.Common.{◌≡◌, ◌≢◌, ℕ, false, inl, inr, length, arith, List, [], ◌∷◌, codes, Some, None, refl, subst}
use Rattle.std.specs.Prelude.{◌==◌, option_and_then}
use Rattle.std.proofs.lemmas.Bool.{cases_Bool}
use Rattle.std.proofs.lemmas.Bool.Decides.{Decides-eqb}
use Rattle.serde_json.specs.Data.{Data}
use Rattle.serde_json.specs.Find.{get}
use Rattle.oci_manifest.specs.ArtifactType.{HasText, HasConfigType, HasType, DeclaresType, not_empty, type_at, config_type, stated_type, artifact_type_of}
use Rattle.oci_manifest.specs.Reading.{text_at, reading}
use Rattle.oci_manifest.specs.declared.kind.Kind.{Kind}
use Rattle.oci_manifest.specs.declared.kind.Kind.TheVariants.{Image, Index, DockerImage, DockerList, Artifact, Leaf}
use Rattle.oci_manifest.proofs.Chains.{some_bind, apart, some_or_none}
use Rattle.oci_manifest.proofs.Descriptors.{text_some}
use Rattle.oci_manifest.proofs.Laws.{reading-sound, reading-complete}

not_zero : (x : ℕ) (xs : List ℕ) → (length (x ∷ xs) == 0) ≡ false
not_zero x xs =
    elim (cases_Bool (length (x ∷ xs) == 0)) [
      | inl zero ↦ let none = (Decides-eqb (length (x ∷ xs)) 0).0 zero in absurd (omega arith)
      | inr more ↦ more
    ]

not_empty-sound : (text type : List ℕ) → not_empty text ≡ Some type → (text ≡ type) × (type ≢ [])
not_empty-sound [] type h = cc h
not_empty-sound (x ∷ xs) type h =
    let more = not_zero x xs in
    let same : x ∷ xs ≡ type = cc (rw more at h) in
    (same, λ none. cc (same, none))

not_empty-complete : (text : List ℕ) → text ≢ [] → not_empty text ≡ Some text
not_empty-complete [] h = absurd (h refl)
not_empty-complete (x ∷ xs) h = let more = not_zero x xs in rw more refl

type_at-sound : (name : List ℕ) (value : Data) (type : List ℕ) → type_at name value ≡ Some type → HasText value name type
type_at-sound name value type h =
    let a = some_bind (text_at name value) not_empty type h in
    let b = not_empty-sound a.0 type a.2 in
    (text_some (get name value) type (subst (λ (text : List ℕ). text_at name value ≡ Some text) b.0 a.1), b.1)

type_at-complete : (name : List ℕ) (value : Data) (type : List ℕ) → HasText value name type → type_at name value ≡ Some type
type_at-complete name value type h = rw h.0 (not_empty-complete type h.1)

no_type_at : (name : List ℕ) (value : Data) → ((other : List ℕ) → HasText value name other → ⊥) → type_at name value ≡ None
no_type_at name value h =
    elim (some_or_none (type_at name value)) [
      | inl none ↦ none
      | inr found ↦ absurd (h found.0 (type_at-sound name value found.0 found.1))
    ]

config-sound : (kind : Kind) (manifest : Data) (type : List ℕ) → config_type kind manifest ≡ Some type → HasConfigType kind manifest type
unfolding config_type
config-sound Image manifest type h = let a = some_bind (get (codes "config") manifest) _ type h in (a.0, a.1, type_at-sound (codes "mediaType") a.0 type a.2)
config-sound DockerImage manifest type h = let a = some_bind (get (codes "config") manifest) _ type h in (a.0, a.1, type_at-sound (codes "mediaType") a.0 type a.2)
config-sound Index manifest type h = cc h
config-sound DockerList manifest type h = cc h
config-sound Artifact manifest type h = cc h
config-sound Leaf manifest type h = cc h

config-complete : (kind : Kind) (manifest : Data) (type : List ℕ) → HasConfigType kind manifest type → config_type kind manifest ≡ Some type
unfolding config_type
config-complete Image manifest type h = rw h.1 (type_at-complete (codes "mediaType") h.0 type h.2)
config-complete DockerImage manifest type h = rw h.1 (type_at-complete (codes "mediaType") h.0 type h.2)
config-complete Index manifest type h = absurd h
config-complete DockerList manifest type h = absurd h
config-complete Artifact manifest type h = absurd h
config-complete Leaf manifest type h = absurd h

stated-sound : (kind : Kind) (manifest : Data) (type : List ℕ) → stated_type kind manifest ≡ Some type → HasType kind manifest type
unfolding stated_type
stated-sound kind manifest type h =
    elim (some_or_none (type_at (codes "artifactType") manifest)) [
      | inl none ↦ inr (λ other is. apart (type_at (codes "artifactType") manifest) other none (type_at-complete (codes "artifactType") manifest other is), config-sound kind manifest type (rw none at h))
      | inr found ↦ let same : found.0 ≡ type = cc (rw (found.1) at h) in inl (type_at-sound (codes "artifactType") manifest type (subst (λ (t : List ℕ). type_at (codes "artifactType") manifest ≡ Some t) same found.1))
    ]

stated-complete : (kind : Kind) (manifest : Data) (type : List ℕ) → HasType kind manifest type → stated_type kind manifest ≡ Some type
unfolding stated_type
stated-complete kind manifest type (inl is) = let e = type_at-complete (codes "artifactType") manifest type is in rw e refl
stated-complete kind manifest type (inr is) = let e = no_type_at (codes "artifactType") manifest is.0 in rw e (config-complete kind manifest type is.1)

of_kind : (kind : Kind) (bytes type : List ℕ) → kind ≢ Leaf → option_and_then (stated_type kind) (reading bytes) ≡ Some type → DeclaresType kind bytes type
of_kind kind bytes type is h =
    let a = some_bind (reading bytes) (stated_type kind) type h in
    record { is_manifest = is; manifest = a.0; reads = reading-sound bytes a.0 a.1; has = stated-sound kind a.0 type a.2 }

-- a type is found exactly if the bytes declare it
pub artifact_type_of-sound : (kind : Kind) (bytes type : List ℕ) → artifact_type_of kind bytes ≡ Some type → DeclaresType kind bytes type
unfolding artifact_type_of
artifact_type_of-sound Image bytes type h = of_kind Image bytes type (λ e. cc e) h
artifact_type_of-sound Index bytes type h = of_kind Index bytes type (λ e. cc e) h
artifact_type_of-sound DockerImage bytes type h = of_kind DockerImage bytes type (λ e. cc e) h
artifact_type_of-sound DockerList bytes type h = of_kind DockerList bytes type (λ e. cc e) h
artifact_type_of-sound Artifact bytes type h = of_kind Artifact bytes type (λ e. cc e) h
artifact_type_of-sound Leaf bytes type h = cc h

of_declared : (kind : Kind) (bytes type : List ℕ) → DeclaresType kind bytes type → option_and_then (stated_type kind) (reading bytes) ≡ Some type
of_declared kind bytes type h =
    let read = reading-complete bytes h.manifest h.reads in
    rw read (stated-complete kind h.manifest type h.has)

pub artifact_type_of-complete : (kind : Kind) (bytes type : List ℕ) → DeclaresType kind bytes type → artifact_type_of kind bytes ≡ Some type
unfolding artifact_type_of
artifact_type_of-complete Image bytes type h = of_declared Image bytes type h
artifact_type_of-complete Index bytes type h = of_declared Index bytes type h
artifact_type_of-complete DockerImage bytes type h = of_declared DockerImage bytes type h
artifact_type_of-complete DockerList bytes type h = of_declared DockerList bytes type h
artifact_type_of-complete Artifact bytes type h = of_declared Artifact bytes type h
artifact_type_of-complete Leaf bytes type h = absurd (h.is_manifest refl)
