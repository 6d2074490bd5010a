-- What is attached to a key: the held manifests that state it as their subject, and the keys of the
-- tags that name its digest (OCI distribution-spec 1.1, "Referrers Tag Schema").
use Rattle.std.specs.Prelude.{◌≡◌, ◌↔◌, ◌⊎◌, ℕ, Bool, true, not, ◌&&◌, ◌||◌, ◌==◌, List, [], ◌∷◌, ◌++◌, filter, take, if◌then◌else◌, Contains, String}
use Rattle.std.specs.declared.alloc.Global.{Global}
use Rattle.std.specs.BTreeMap.{BTreeMap, get_by_text}
use Rattle.std.specs.BTreeSet.{BTreeSet, contains_text}
use Rattle.std.specs.Global.{Vec}
use Rattle.std.specs.List.{list_any}
use Rattle.std.specs.Option.{option_map_or}
use Rattle.std.specs.Str.{bytes_eq}
use Rattle.oci_digest.specs.Digest.{algorithm_of, encoded_of}
use Rattle.oci_manifest.specs.Descriptor.{Descriptor}
use Rattle.oci_manifest.specs.MediaTypes.{kind_of}
use Rattle.oci_store.specs.Content.{Entry}
use Rattle.oci_store.specs.Graph.{Node}
use Rattle.oci_store.specs.Tags.{Tags}
use Rattle.oci_layout_store.specs.Layout.{is_manifest}
use Rattle.oci_prune.specs.Plan.{AreHeld}
use Rattle.oci_prune.specs.Subjects.{Refers, RefersIn, referrers_in}
use Rattle.oci_prune.specs.declared.attachments.Attachments.{Attachments}

-- ---- tags by digest

-- the part of a tag's name before its first `.` (46)
abbrev pub stem : List ℕ → List ℕ
stem [] = []
stem (c ∷ name) = if c == 46 then [] else c ∷ stem name

-- the text of a digest with `-` (45) in place of its `:`
abbrev pub dashed : List ℕ → List ℕ
dashed digest = algorithm_of digest ++ 45 ∷ encoded_of digest

-- the first 71 bytes of it: a registry cuts the digits of SHA-512 to 64, and `sha512-` with 64
-- digits has 71 bytes; with SHA-256 it is the whole text
abbrev pub cut : List ℕ → List ℕ
cut digest = take 71 (dashed digest)

-- whether a text without a `.` names a digest: it is that text, whole or cut
abbrev pub is_stem_of : List ℕ → List ℕ → Bool
is_stem_of text digest = bytes_eq text (dashed digest) || bytes_eq text (cut digest)

-- whether the name of a tag names a digest: by its part before the first `.`
abbrev pub names_digest : List ℕ → List ℕ → Bool
names_digest name digest = is_stem_of (stem name) digest

-- whether a text without a `.` names the digest of a key of a manifest kind
abbrev pub is_stem_at : List ℕ → Descriptor → Bool
is_stem_at text subject = is_manifest (kind_of subject.media_type) && is_stem_of text subject.digest

-- whether the name of a tag names the digest of a key of a manifest kind
abbrev pub follows : List ℕ → Descriptor → Bool
follows name subject = is_manifest (kind_of subject.media_type) && names_digest name subject.digest

-- whether the name of a tag names the digest of one of these keys, which is of a manifest kind
abbrev pub follows_one : List Descriptor → List ℕ → Bool
follows_one subjects name = list_any (follows name) subjects

-- the tags that follow none of these keys but their own: a name names the digest of no key of a
-- manifest kind, or that of the tag's key
abbrev pub independent_tags : List Descriptor → Tags → Tags
independent_tags keys tags = filter (λ t. not (follows_one keys t.0) || names_digest t.0 t.1.digest) tags

-- those of the tags that follow no held key but their own
abbrev pub AreIndependent : List Node → Tags → Tags → Type 0
AreIndependent graph tags found = (held : List Descriptor) × AreHeld graph held × (found ≡ independent_tags held tags)

-- the first key is that of a tag whose name names the digest of the second, which is of a manifest
-- kind
abbrev pub FollowsTag : Tags → Descriptor → Descriptor → Type 0
FollowsTag tags k subject = (name : List ℕ) × Contains tags (name, k) × (follows name subject ≡ true)

-- the first key is attached to the second: it is held and refers to it, or it follows it by a tag
abbrev pub AttachedBy : List Entry → Tags → Descriptor → Descriptor → Type 0
AttachedBy entries tags k subject = Refers entries k subject ⊎ FollowsTag tags k subject

-- ---- tables

-- the keys of the tags with each stem
abbrev pub Followers : Type 0
Followers = BTreeMap (String Global) (Vec Descriptor)

-- the keys of the tags with a stem
abbrev pub stemmed_in : Followers → List ℕ → List Descriptor
stemmed_in followers text = option_map_or (λ keys. keys.items) (get_by_text followers text) []

-- the keys that follow a key by the table
abbrev pub followers_in : Followers → Descriptor → List Descriptor
followers_in followers subject =
    if is_manifest (kind_of subject.media_type) then stemmed_in followers (dashed subject.digest) ++ stemmed_in followers (cut subject.digest) else []

-- the keys that are attached to a key by the tables
abbrev pub attached_in : Attachments → Descriptor → List Descriptor
attached_in attachments subject = referrers_in attachments.referrers subject ++ followers_in attachments.followers subject

-- the first key is attached to the second by the tables
abbrev pub AttachedIn : Attachments → Descriptor → Descriptor → Type 0
AttachedIn attachments k subject = Contains (attached_in attachments subject) k

-- the tables have what is attached to each key, and nothing else
abbrev pub HasAttached : List Entry → Tags → Attachments → Type 0
HasAttached entries tags attachments = (k subject : Descriptor) → AttachedIn attachments k subject ↔ AttachedBy entries tags k subject

-- the tables have what is attached, if only these keys are held and these are the subjects that they
-- state
abbrev pub AreAttachments : (Descriptor → Descriptor → Type 0) → List Descriptor → Tags → Attachments → Type 0
AreAttachments states held tags attachments = (k subject : Descriptor) → AttachedIn attachments k subject ↔ ((Contains held k × RefersIn states k subject) ⊎ FollowsTag tags k subject)

-- the table has the keys of the tags, and no other
abbrev pub AreFollowers : Tags → Followers → Type 0
AreFollowers tags followers = (k subject : Descriptor) → Contains (followers_in followers subject) k ↔ FollowsTag tags k subject

-- the table has the keys of the tags under their stems, and no other
abbrev pub AreStemmed : Tags → Followers → Type 0
AreStemmed tags followers = (k : Descriptor) (text : List ℕ) → Contains (stemmed_in followers text) k ↔ ((name : List ℕ) × Contains tags (name, k) × (stem name ≡ text))

-- a key was added to the table under a stem
abbrev pub IsStemAdded : Descriptor → List ℕ → Followers → Followers → Type 0
IsStemAdded k text old new = (other : Descriptor) (now : List ℕ) → Contains (stemmed_in new now) other ↔ (Contains (stemmed_in old now) other ⊎ ((k ≡ other) × (text ≡ now)))

-- the set has the texts that name the digest of one of these keys, which is of a manifest kind
abbrev pub HasStems : List Descriptor → BTreeSet (String Global) → Type 0
HasStems keys stems = (text : List ℕ) → contains_text stems text ≡ list_any (is_stem_at text) keys
