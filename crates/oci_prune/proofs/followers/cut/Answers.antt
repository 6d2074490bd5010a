use Rattle.std.proofs.Common.{arith}
use Rattle.oci_prune.proofs.Stems.{short_whole}
use Rattle.oci_prune.proofs.followers.cut.Goals as goal

pub returns-then-text-le71 : goal.returns-then-text-le71
returns-then-text-le71 c = short_whole c.args.text.now (omega (arith, c.if-text-le71.true))
