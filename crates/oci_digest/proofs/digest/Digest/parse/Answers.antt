use Rattle.oci_digest.specs.declared.fault.DigestFault.TheVariants.{BadForm, UnknownAlgorithm, BadEncoding}
use Rattle.std.proofs.Common.{Err}
use Rattle.oci_digest.proofs.Accepts.{answer_is, is_ok-from_Parses, IsOk-from_Parses}
use Rattle.oci_digest.proofs.digest.Digest.parse.Goals as goal

pub returns-clause-ok : goal.returns-clause-ok
returns-clause-ok c = IsOk-from_Parses c.args.text.now c.parsed.result c.parsed.ensures

pub returns-clause-bad_form : goal.returns-clause-bad_form
returns-clause-bad_form c = answer_is c.args.text.now c.parsed.result (Err BadForm) c.parsed.ensures

pub returns-clause-unknown_algorithm : goal.returns-clause-unknown_algorithm
returns-clause-unknown_algorithm c = answer_is c.args.text.now c.parsed.result (Err UnknownAlgorithm) c.parsed.ensures

pub returns-clause-bad_encoding : goal.returns-clause-bad_encoding
returns-clause-bad_encoding c = answer_is c.args.text.now c.parsed.result (Err BadEncoding) c.parsed.ensures

pub returns-clause-accepts : goal.returns-clause-accepts
returns-clause-accepts c = is_ok-from_Parses c.args.text.now c.parsed.result c.parsed.ensures
