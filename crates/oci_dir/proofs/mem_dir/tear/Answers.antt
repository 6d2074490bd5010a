use Rattle.std.proofs.Common.{inl, inr, ◌∙◌}
use Rattle.oci_dir.proofs.mem_dir.tear.Goals as goal

pub loop-path-preserved : goal.loop-path-preserved
loop-path-preserved c = λ q. elim (c.in_ok-tear_one.ensures q) [
  | inr torn ↦ inr torn
  | inl same ↦ elim (c.loop-path.invariant q) [ inr torn ↦ inr torn | inl was ↦ inl (same ∙ was) ]
]
