use Rattle.std.proofs.Common.{take}
use Rattle.ocicp.specs.Run.{AreSourcesAt}
use Rattle.ocicp.proofs.place.open_sources.Given as goal

-- as far as the loop has come
abbrev pub invariant-loop-path : goal.invariant-loop-path
invariant-loop-path g l = AreSourcesAt (take l.path-index l.words.sources.items) l.sources.items
