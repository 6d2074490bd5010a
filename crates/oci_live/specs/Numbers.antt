-- The numbers of the errors.
use Rattle.std.specs.Prelude.{ℕ}
use Rattle.oci_live.specs.declared.fault.LiveFault.{LiveFault}
use Rattle.oci_live.specs.declared.fault.LiveFault.TheVariants as live
use Rattle.oci_live.specs.declared.fault.LookFault.{LookFault}
use Rattle.oci_live.specs.declared.fault.LookFault.TheVariants as look

-- the number of an error of opening a store
abbrev pub live_number : LiveFault → ℕ
live_number live.Memory = 48

-- the number of an error of a look
abbrev pub look_number : LookFault → ℕ
look_number look.NotFound = 45
look_number look.Unavailable = 46
look_number look.Memory = 47
