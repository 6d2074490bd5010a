-- Media types: of manifests, of layers that are not distributed, and common ones. They are compared
-- byte for byte.
use Rattle.std.specs.Prelude.{ℕ, Bool, List, [], ◌∷◌, codes, string_bytes, if◌then◌else◌}
use Rattle.std.specs.List.{list_any}
use Rattle.std.specs.Str.{bytes_eq}
use Rattle.oci_manifest.specs.declared.kind.Kind.{Kind}
use Rattle.oci_manifest.specs.declared.kind.Kind.TheVariants.{Image, Index, DockerImage, DockerList, Artifact, Leaf}
use Rattle.oci_manifest.specs.declared.media_type.Common.{Common}
use Rattle.oci_manifest.specs.declared.media_type.Common.TheVariants as common
use Rattle.oci_manifest.specs.declared.media_type.MediaType.{MediaType}
use Rattle.oci_manifest.specs.declared.media_type.MediaType.TheVariants as kept

-- the media types of manifests, with their kinds (OCI image-spec 1.1, media-types.md; Docker Image
-- Manifest V2, Schema 2; OCI image-spec 1.1.0-rc2, artifact.md)
abbrev pub manifest_types : List (List ℕ × Kind)
manifest_types =
    (codes "application/vnd.oci.image.manifest.v1+json", Image)
    ∷ (codes "application/vnd.oci.image.index.v1+json", Index)
    ∷ (codes "application/vnd.docker.distribution.manifest.v2+json", DockerImage)
    ∷ (codes "application/vnd.docker.distribution.manifest.list.v2+json", DockerList)
    ∷ (codes "application/vnd.oci.artifact.manifest.v1+json", Artifact)
    ∷ []

-- the kind that a table has for a media type; a media type in no row is a leaf
abbrev pub kind_in : List (List ℕ × Kind) → List ℕ → Kind
kind_in [] media_type = Leaf
kind_in (row ∷ rows) media_type = if bytes_eq media_type row.0 then row.1 else kind_in rows media_type

-- the kind of a media type
unfoldable pub kind_of : List ℕ → Kind
kind_of media_type = kind_in manifest_types media_type

-- the media types of layers that are not distributed (OCI image-spec 1.1, layer.md,
-- "Non-Distributable Layers"; Docker Image Manifest V2, Schema 2)
abbrev pub undistributed_types : List (List ℕ)
undistributed_types =
    codes "application/vnd.oci.image.layer.nondistributable.v1.tar"
    ∷ codes "application/vnd.oci.image.layer.nondistributable.v1.tar+gzip"
    ∷ codes "application/vnd.oci.image.layer.nondistributable.v1.tar+zstd"
    ∷ codes "application/vnd.docker.image.rootfs.foreign.diff.tar.gzip"
    ∷ []

-- whether a media type is one of `undistributed_types`
unfoldable pub is_undistributed : List ℕ → Bool
is_undistributed media_type = list_any (bytes_eq media_type) undistributed_types

-- the text of a common media type (OCI image-spec 1.1, media-types.md; Docker Image Manifest V2,
-- Schema 2)
abbrev pub common_text : Common → List ℕ
common_text common.Image = codes "application/vnd.oci.image.manifest.v1+json"
common_text common.Index = codes "application/vnd.oci.image.index.v1+json"
common_text common.Config = codes "application/vnd.oci.image.config.v1+json"
common_text common.Empty = codes "application/vnd.oci.empty.v1+json"
common_text common.Layer = codes "application/vnd.oci.image.layer.v1.tar"
common_text common.LayerGzip = codes "application/vnd.oci.image.layer.v1.tar+gzip"
common_text common.LayerZstd = codes "application/vnd.oci.image.layer.v1.tar+zstd"
common_text common.DockerImage = codes "application/vnd.docker.distribution.manifest.v2+json"
common_text common.DockerList = codes "application/vnd.docker.distribution.manifest.list.v2+json"
common_text common.DockerConfig = codes "application/vnd.docker.container.image.v1+json"
common_text common.DockerLayer = codes "application/vnd.docker.image.rootfs.diff.tar.gzip"

-- the text of a stored media type
abbrev pub text_in : MediaType → List ℕ
text_in (kept.Common common) = common_text common
text_in (kept.Other text) = string_bytes text
