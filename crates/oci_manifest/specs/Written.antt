-- How a key is written: as a descriptor with its required properties (OCI image-spec 1.1,
-- descriptor.md, "Properties").
use Rattle.std.specs.Prelude.{ℕ, List, codes, Some}
use Rattle.serde.specs.Event.{Log, Sends, Then, field_key, map_begins, map_ends, text, unsigned}
use Rattle.serde.specs.declared.name.Case.TheVariants.{AsIs}
use Rattle.oci_manifest.specs.Descriptor.{Descriptor}

-- a member: its name, and then its value
abbrev pub WritesMember : List ℕ → (Log → Log → Type 0) → Log → Log → Type 0
WritesMember name value = Then (Sends (field_key name AsIs)) value

-- an object of three members: the media type, the digest and the size of the key
abbrev pub WritesKey : Descriptor → Log → Log → Type 0
WritesKey k = Then (Sends (map_begins (Some 3)))
    (Then (WritesMember (codes "mediaType") (Sends (text k.media_type)))
    (Then (WritesMember (codes "digest") (Sends (text k.digest)))
    (Then (WritesMember (codes "size") (Sends (unsigned k.size))) (Sends map_ends))))
