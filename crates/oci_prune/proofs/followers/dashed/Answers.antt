use Rattle.oci_prune.proofs.Stems.{dashed_ascii}
use Rattle.oci_prune.proofs.followers.dashed.Goals as goal

pub returns-in_err-encoded-clause-ascii : goal.returns-in_err-encoded-clause-ascii
returns-in_err-encoded-clause-ascii c = dashed_ascii c.args.digest.now c.algorithm-algorithm.ensures.digest

pub returns-in_err-format-clause-ascii : goal.returns-in_err-format-clause-ascii
returns-in_err-format-clause-ascii c = dashed_ascii c.args.digest.now c.algorithm-algorithm.ensures.digest

pub returns-clause-ascii : goal.returns-clause-ascii
returns-clause-ascii c = dashed_ascii c.args.digest.now c.algorithm-algorithm.ensures.digest
