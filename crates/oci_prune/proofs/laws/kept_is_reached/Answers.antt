use Rattle.oci_prune.proofs.Plans.{reached_from_kept, kept_from_reached}
use Rattle.oci_prune.proofs.laws.kept_is_reached.Goals as goal

pub returns : goal.returns
returns c graph roots k = (reached_from_kept graph roots k, λ p. kept_from_reached graph roots (λ _ _. ⊥) k p.0 p.1)
