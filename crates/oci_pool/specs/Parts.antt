-- The value of a board, made of its parts.
use Rattle.std.specs.Prelude.{vec_capacity}
use Rattle.oci_pool.specs.Board.{Posted}
use Rattle.oci_pool.specs.Kept.{IsKept}
use Rattle.oci_pool.specs.declared.board.Board.TheInside.{Inside}

-- the value that callers see of a board with these parts
abbrev pub posted_of : Inside → Posted
posted_of b = record { lists = b.order.value.lists; issue = b.issue.items; finished = b.finished.items; passed = b.passed.items; stopped = b.stopped }

-- the parts agree with that value
abbrev pub AreKept : Inside → Type 0
AreKept b = IsKept (posted_of b) b.predecessors.items b.waiting.items (vec_capacity b.issue) b.issued.items
