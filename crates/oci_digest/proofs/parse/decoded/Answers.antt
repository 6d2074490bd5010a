use Rattle.std.proofs.Common.{◌≡◌, ap, ◌∙◌}
use Rattle.hex.specs.Hex.{encode_lower}
use Rattle.oci_digest.proofs.HexText.{decode_sized-digits}
use Rattle.oci_digest.proofs.parse.decoded.Goals as goal

pub unreachable-requires : goal.unreachable-requires
unreachable-requires g c = (let d = decode_sized-digits c.args.digits.now g.row.N c.requires in cc (d.1, c.from_hex.ensures, c.in-Err.is))

pub returns : goal.returns
returns g c =
    let d = decode_sized-digits c.args.digits.now g.row.N c.requires in
    let bytes : c.in-Ok.bytes ≡ d.0 = cc (d.1, c.from_hex.ensures, c.in-Ok.is) in
    ap encode_lower bytes ∙ d.2
