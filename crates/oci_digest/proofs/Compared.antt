-- Hashes compare as the texts of their digests do.
use Rattle.std.proofs.Common.{◌≡◌, Bool, Ordering, ap, sym, refl}
use Rattle.std.specs.Ordering.{nat_cmp}
use Rattle.std.specs.Cmp.Lexicographic.{slice_cmp}
use Rattle.std.specs.Str.{bytes_eq}
use Rattle.std.proofs.lemmas.Bool.Decides.{same_from_decides}
use Rattle.std.proofs.lemmas.Slice.Eq.{bytes_eq-Decides}
use Rattle.oci_digest.specs.Hash.{IsHash, bytes_in, text_of}
use Rattle.oci_digest.specs.declared.hash.Hash.{Hash}
use Rattle.oci_digest.specs.declared.hash.Hash.TheVariants as code
use Rattle.oci_digest.specs.contracts.hash.HashPartialEq.TheImpl as equality
use Rattle.oci_digest.specs.contracts.hash.HashOrd.TheImpl as order
use Rattle.oci_digest.proofs.DigestLemmas.{text_of-injective}
use Rattle.oci_digest.proofs.HexOrder.{slice_cmp-encode_lower}

-- how the derived code compares
abbrev are_equal : Hash → Hash → Bool
are_equal x y = equality.ghosts.eq x y

abbrev ordering_of : Hash → Hash → Ordering
ordering_of x y = order.ghosts.cmp x y

-- equal hashes have equal texts
pub eq-text_of : (x y : Hash) → IsHash x → IsHash y → are_equal x y ≡ bytes_eq (text_of x) (text_of y)
eq-text_of (code.Sha256 a) (code.Sha256 b) ha hb =
    let same = bytes_eq-Decides (text_of (code.Sha256 a)) (text_of (code.Sha256 b)) in
    same_from_decides {P = a ≡ b} _ _ (bytes_eq-Decides a b) (
      λ e. ap bytes_in (text_of-injective (code.Sha256 a) (code.Sha256 b) ha hb (same.0 e)),
      λ e. same.1 (ap (λ bytes. text_of (code.Sha256 bytes)) e),
    )
eq-text_of (code.Sha256 a) (code.Sha512 b) ha hb = refl
eq-text_of (code.Sha512 a) (code.Sha256 b) ha hb = refl
eq-text_of (code.Sha512 a) (code.Sha512 b) ha hb =
    let same = bytes_eq-Decides (text_of (code.Sha512 a)) (text_of (code.Sha512 b)) in
    same_from_decides {P = a ≡ b} _ _ (bytes_eq-Decides a b) (
      λ e. ap bytes_in (text_of-injective (code.Sha512 a) (code.Sha512 b) ha hb (same.0 e)),
      λ e. same.1 (ap (λ bytes. text_of (code.Sha512 bytes)) e),
    )

-- hashes are in the order of their texts
pub cmp-text_of : (x y : Hash) → IsHash x → IsHash y → ordering_of x y ≡ slice_cmp nat_cmp (text_of x) (text_of y)
cmp-text_of (code.Sha256 a) (code.Sha256 b) ha hb = sym (slice_cmp-encode_lower a b ha.are_bytes hb.are_bytes)
cmp-text_of (code.Sha256 a) (code.Sha512 b) ha hb = refl
cmp-text_of (code.Sha512 a) (code.Sha256 b) ha hb = refl
cmp-text_of (code.Sha512 a) (code.Sha512 b) ha hb = sym (slice_cmp-encode_lower a b ha.are_bytes hb.are_bytes)
