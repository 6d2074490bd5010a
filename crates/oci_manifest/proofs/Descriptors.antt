-- The function that reads a descriptor, against the relation that says what one is.
use Rattle.std.proofs.Common.{◌≡◌, ℕ, ◌^◌, nat_lt, ◌&&◌, inl, inr, List, codes, Option, Some, None, refl, subst}
use Rattle.std.specs.Prelude.{option_and_then}
use Rattle.std.proofs.lemmas.Bool.{and_parts}
use Rattle.std.proofs.lemmas.Bool.Decides.{Decides-ltb}
use Rattle.std.proofs.lemmas.Option.{cond_some}
use Rattle.serde_json.specs.Data.{unsigned, negative, float, Data, null, boolean, number, string, array, object, Items, Members}
use Rattle.serde_json.specs.Find.{get, as_str, as_number, as_u64, as_array, as_object}
use Rattle.oci_digest.specs.Digest.{is_digest}
use Rattle.oci_digest.proofs.Accepts.{Decides-is_digest}
use Rattle.oci_manifest.specs.Descriptor.{Descriptor}
use Rattle.oci_manifest.specs.Manifest.{IsDescriptor, NoDescriptor}
use Rattle.oci_manifest.specs.Reading.{text_at, size_at, descriptor_of}
use Rattle.oci_manifest.proofs.Chains.{some_bind, apart, some_or_none}

pub text_some : (o : Option Data) (s : List ℕ) → option_and_then as_str o ≡ Some s → o ≡ Some (string s)
text_some None s h = cc h
text_some (Some null) s h = cc h
text_some (Some (boolean b)) s h = cc h
text_some (Some (number n)) s h = cc h
text_some (Some (string t)) s h = cc h
text_some (Some (array ds)) s h = cc h
text_some (Some (object ms)) s h = cc h

size_some : (o : Option Data) (n : ℕ) → option_and_then as_u64 (option_and_then as_number o) ≡ Some n → o ≡ Some (number (unsigned n))
size_some None n h = cc h
size_some (Some null) n h = cc h
size_some (Some (boolean b)) n h = cc h
size_some (Some (number (unsigned m))) n h = cc h
size_some (Some (number (negative z))) n h = cc h
size_some (Some (number (float x))) n h = cc h
size_some (Some (string t)) n h = cc h
size_some (Some (array ds)) n h = cc h
size_some (Some (object ms)) n h = cc h

pub array_some : (d : Data) (ds : Items) → as_array d ≡ Some ds → d ≡ array ds
array_some null ds h = cc h
array_some (boolean b) ds h = cc h
array_some (number n) ds h = cc h
array_some (string s) ds h = cc h
array_some (array es) ds h = cc h
array_some (object ms) ds h = cc h

pub object_some : (d : Data) (ms : Members) → as_object d ≡ Some ms → d ≡ object ms
object_some null ms h = cc h
object_some (boolean b) ms h = cc h
object_some (number n) ms h = cc h
object_some (string s) ms h = cc h
object_some (array es) ms h = cc h
object_some (object ns) ms h = cc h

pub descriptor_of-sound : (v : Data) (k : Descriptor) → descriptor_of v ≡ Some k → IsDescriptor v k
unfolding descriptor_of
descriptor_of-sound v k h =
    let a = some_bind (text_at (codes "mediaType") v) _ k h in
    let b = some_bind (text_at (codes "digest") v) _ k a.2 in
    let c = some_bind (size_at (codes "size") v) _ k b.2 in
    let d = cond_some (is_digest b.0 && nat_lt c.0 (2 ^ 63)) _ k c.2 in
    let tests = and_parts (is_digest b.0) (nat_lt c.0 (2 ^ 63)) d.0 in
    let found : IsDescriptor v (record { media_type = a.0; digest = b.0; size = c.0 }) = record {
      media_type = text_some (get (codes "mediaType") v) a.0 a.1;
      digest = text_some (get (codes "digest") v) b.0 b.1;
      is_digest = (Decides-is_digest b.0).0 tests.0;
      size = size_some (get (codes "size") v) c.0 c.1;
      fits = (Decides-ltb c.0 (2 ^ 63)).0 tests.1;
    } in
    subst (IsDescriptor v) d.1 found

pub descriptor_of-complete : (v : Data) (k : Descriptor) → IsDescriptor v k → descriptor_of v ≡ Some k
unfolding descriptor_of
descriptor_of-complete v k h =
    let media_type = h.media_type in
    let digest = h.digest in
    let size = h.size in
    let valid = (Decides-is_digest k.digest).1 h.is_digest in
    let fits = (Decides-ltb k.size (2 ^ 63)).1 h.fits in
    rw (media_type, digest, size, valid, fits) refl

pub none_descriptor : (v : Data) → descriptor_of v ≡ None → NoDescriptor v
none_descriptor v h = λ k d. apart (descriptor_of v) k h (descriptor_of-complete v k d)

pub descriptor_of-none : (v : Data) → NoDescriptor v → descriptor_of v ≡ None
descriptor_of-none v h =
    elim (some_or_none (descriptor_of v)) [
      | inl none ↦ none
      | inr found ↦ absurd (h found.0 (descriptor_of-sound v found.0 found.1))
    ]
