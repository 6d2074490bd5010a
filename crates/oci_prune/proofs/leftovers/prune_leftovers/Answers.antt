use Rattle.std.proofs.Common.{None, subst}
use Rattle.oci_dir.specs.Prunable.{by_name}
use Rattle.oci_prune.specs.Pruned.{flagged, IsDraftIn, RemovesDrafts}
use Rattle.oci_prune.specs.Refusal.{Notes}
use Rattle.oci_prune.proofs.Noting.{only_new}
use Rattle.oci_prune.proofs.Sparing.{Drafts}
use Rattle.oci_prune.proofs.leftovers.prune_leftovers.Goals as goal

pub returns-clause-faults : goal.returns-clause-faults
returns-clause-faults g c =
    let dir = g.D.Dir.device c.args.layout.now.dir in
    only_new dir (IsDraftIn (by_name c.args.plan.now.drafts.items)) c.remove_drafts.new.fault (subst (λ (ds : Drafts). Notes dir (IsDraftIn (by_name ds)) None c.remove_drafts.new.fault) c.deref.ensures.value c.remove_drafts.ensures.removal.notes)

pub returns-clause-flags : goal.returns-clause-flags
returns-clause-flags g c = λ honest.
    let old = (g.D.Dir.device c.args.layout.now.dir).draft in
    let new = (g.D.Dir.device c.remove_drafts.new.layout.dir).draft in
    subst (λ (ds : Drafts). RemovesDrafts old new (flagged (by_name ds) c.remove_drafts.new.gone.items)) c.deref.ensures.value (c.remove_drafts.ensures.flags honest)
