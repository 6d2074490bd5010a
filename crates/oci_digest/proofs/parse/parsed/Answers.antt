use Rattle.oci_digest.proofs.Algorithms.{parts_of_digest}
use Rattle.oci_digest.proofs.parse.parsed.Goals as goal
use Rattle.oci_digest.proofs.parse.parsed.Goals.{then-not-is_algorithm-via-then-not-is_algorithm, then-not-is_algorithm-via-else-not-is_algorithm+then-not-is_encoded}

pub returns-in_default : goal.returns-in_default
returns-in_default c = λ d. rw c.in_default.is at (parts_of_digest c.args.text.now d.0 d.1 c.split_once.result c.split_once.ensures.cases d.2)

pub returns-then-not-is_algorithm : goal.returns-then-not-is_algorithm
returns-then-not-is_algorithm c = λ d.
    let parts = rw c.in-Some.is at (parts_of_digest c.args.text.now d.0 d.1 c.split_once.result c.split_once.ensures.cases d.2) in
    elim c.then-not-is_algorithm.branch [
      | then-not-is_algorithm-via-then-not-is_algorithm w ↦
          let found = c.is_algorithm.ensures.1 (rw parts.0 d.2.is_algorithm) in cc found
      | then-not-is_algorithm-via-else-not-is_algorithm+then-not-is_encoded w ↦
          let found = w.is_encoded.ensures.1 (rw parts.1 d.2.is_encoded) in cc found
    ]
