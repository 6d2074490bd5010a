use Rattle.oci_digest.proofs.HexText.{IsUtf8-encode_lower}
use Rattle.oci_digest.proofs.digest.DigestDisplay.fmt.Goals as goal

pub unreachable-requires-in_default-from_utf8 : goal.unreachable-requires-in_default-from_utf8
unreachable-requires-in_default-from_utf8 g c =
    c.in_default-from_utf8.ensures.cases.0 (rw (c.in-Ok.ensures.written, c.as_bytes-bytes.ensures) (IsUtf8-encode_lower _ c.self.invariant.are_bytes))
