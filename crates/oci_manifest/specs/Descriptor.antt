-- Descriptors, which identify contents (OCI image-spec 1.1, descriptor.md, "Properties").
use Rattle.std.specs.Prelude.{◌≡◌, ℕ, ◌<◌, ◌^◌, Bool, ◌&&◌, ◌==◌, List, ◌++◌, length, codes}
use Rattle.std.specs.declared.cmp.Ordering.{Ordering}
use Rattle.std.specs.List.{list_any}
use Rattle.std.specs.Str.{bytes_eq}
use Rattle.std.specs.Fmt.{decimal}
use Rattle.std.specs.Ordering.{nat_cmp, on, then_cmp}
use Rattle.std.specs.Cmp.Lexicographic.{slice_cmp}
use Rattle.oci_digest.specs.Digest.{IsDigest, Verifies}

-- a content's media type and digest text, as bytes, and its size (descriptor.md, `mediaType`,
-- `digest` and `size`)
pub record Descriptor : Type 0 where
  pub media_type : List ℕ
  pub digest : List ℕ
  pub size : ℕ

-- the invariant of a key: its digest is one, and its size is below 2^63 (descriptor.md,
-- "Properties")
pub record IsKey (k : Descriptor) : Type 0 where
  pub is_digest : IsDigest k.digest
  pub fits : k.size < 2 ^ 63

-- bytes match a descriptor: they have its size and its digest (descriptor.md, "Verification")
abbrev pub Matches : Descriptor → List ℕ → Type 0
Matches k bytes = (length bytes ≡ k.size) × Verifies k.digest bytes

-- whether two descriptors have the same media type, digest and size
abbrev pub same_key : Descriptor → Descriptor → Bool
same_key a b = bytes_eq a.media_type b.media_type && bytes_eq a.digest b.digest && a.size == b.size

-- whether a descriptor is one of these
abbrev pub is_among : List Descriptor → Descriptor → Bool
is_among keys k = list_any (λ other. same_key other k) keys

-- the order of descriptors: by the bytes of the media type, then by the digest text, then by size
abbrev pub key_cmp : Descriptor → Descriptor → Ordering
key_cmp = then_cmp (on (λ k. k.media_type) (slice_cmp nat_cmp)) (then_cmp (on (λ k. k.digest) (slice_cmp nat_cmp)) (on (λ k. k.size) nat_cmp))

-- the printed form of a descriptor: digest text, size in decimal and media type, separated by
-- spaces
abbrev pub key_text : Descriptor → List ℕ
key_text k = k.digest ++ codes " " ++ decimal k.size ++ codes " " ++ k.media_type
