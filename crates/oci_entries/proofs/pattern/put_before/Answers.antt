use Rattle.oci_entries.specs.Pattern.{matches}
use Rattle.oci_entries.proofs.PatternRows.{any_row, byte_row, character_row}
use Rattle.oci_entries.proofs.pattern.put_before.Goals as goal

pub returns-then-byte-eq42 : goal.returns-then-byte-eq42
returns-then-byte-eq42 c pattern is = any_row pattern c.args.text.now c.put_any_text.new.row c.args.byte c.if-byte-eq42.true (c.put_any_text.ensures (matches pattern) c.args.text.now is)

pub returns-then-byte-eq63 : goal.returns-then-byte-eq63
returns-then-byte-eq63 c pattern is = character_row pattern c.args.text.now c.put_character.new.row c.args.byte c.if-byte-eq63.true (c.put_character.ensures (matches pattern) is)

pub returns-else-byte-eq63 : goal.returns-else-byte-eq63
returns-else-byte-eq63 c pattern is = byte_row pattern c.args.text.now c.put_byte.new.row c.args.byte c.if-byte-eq42.false c.if-byte-eq63.false (c.put_byte.ensures (matches pattern) is)
