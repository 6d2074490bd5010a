-- The hash is recovered from the digest's text.
use Rattle.std.proofs.Common.{◌≡◌, ℕ, List, [], ap, Result}
use Rattle.std.specs.Result.{result_unwrap_or}
use Rattle.hex.specs.declared.error.FromHexError.{FromHexError}
use Rattle.hex.proofs.HexLemmas.{decode_of-encode_lower}
use Rattle.oci_digest.specs.Hash.{IsHash, text_of, hash_of_text}
use Rattle.oci_digest.specs.declared.hash.Hash.{Hash}
use Rattle.oci_digest.specs.declared.hash.Hash.TheVariants as code

pub hash_of_text-text_of : (hash : Hash) → IsHash hash → hash_of_text (text_of hash) ≡ hash
hash_of_text-text_of (code.Sha256 bytes) h = ap (λ (r : Result (List ℕ) FromHexError). code.Sha256 (result_unwrap_or r [])) (decode_of-encode_lower bytes h.are_bytes)
hash_of_text-text_of (code.Sha512 bytes) h = ap (λ (r : Result (List ℕ) FromHexError). code.Sha512 (result_unwrap_or r [])) (decode_of-encode_lower bytes h.are_bytes)
