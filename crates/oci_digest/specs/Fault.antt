-- The numbers of the errors.
use Rattle.std.specs.Prelude.{ℕ}
use Rattle.oci_digest.specs.declared.fault.DigestFault.{DigestFault}
use Rattle.oci_digest.specs.declared.fault.DigestFault.TheVariants.{BadForm, UnknownAlgorithm, BadEncoding}

-- the number of an error
abbrev pub number_of : DigestFault → ℕ
number_of BadForm = 1
number_of UnknownAlgorithm = 2
number_of BadEncoding = 3
