use Rattle.std.proofs.Common.{◌≡◌, List, map, sym, subst, ◌∙◌}
use Rattle.std.specs.Prelude.{Contains}
use Rattle.std.specs.List.{All}
use Rattle.std.specs.Map.{values_of}
use Rattle.oci_store.specs.Graph.{Node}
use Rattle.oci_store.specs.Tags.{Tags}
use Rattle.oci_layout_store.specs.Brought.{Brings}
use Rattle.oci_layout_store.specs.Entries.{entry_of}
use Rattle.oci_layout_store.specs.Layout.{LayoutState}
use Rattle.oci_prune.specs.Plan.{roots_of, roots_with}
use Rattle.oci_prune.specs.Pruned.{KeepsReached}
use Rattle.oci_layout_copy.specs.Mirror.{relabeled, HoldsOnlyReached, IsPruned}
use Rattle.oci_layout_copy.proofs.Exact.{fewer_stay, only_roots, roots_stay}
use Rattle.oci_layout_copy.proofs.Goals.{of_more_roots}
use Rattle.oci_layout_copy.proofs.Mirrored.{same_layout, tagged_stay}
use Rattle.oci_layout_copy.proofs.Seen.{mirror_seen, mirror_unseen}
use Rattle.std.proofs.lemmas.Result.{err_from_is_err_and}
use Rattle.oci_copy.specs.declared.fault.CopyFault.{CopyFault}
use Rattle.oci_copy.specs.declared.fault.CopyFault.TheVariants as copy
use Rattle.oci_selection.proofs.NamedRoots.{brought_named}
use Rattle.oci_layout_copy.proofs.Cleaning.{are_settled_same, can_clean_up_same}
use Rattle.oci_layout_copy.proofs.clean_up.clean_up.Goals as goal

pub returns-in-Ok-clause-pruned : goal.returns-in-Ok-clause-pruned
returns-in-Ok-clause-pruned g c =
    let old = c.bring.new.self in
    let new = c.prune_and_save.new.destination in
    let brought = c.bring.ensures.only in
    let retagged = c.retag.ensures.only in
    let pruned = rw c.roots.ensures at c.in-Ok.ensures.pruned in
    record {
      pruned =
          subst (λ (l : LayoutState g.row.D.Denot). IsPruned g.D.Dir.device c.args.is_exact c.args.goal.now.0 l new c.in-Ok.plan c.in-Ok.pruned)
          (same_layout old (relabeled c.args.destination.now new) (brought.dir ∙ retagged.dir) (brought.graph ∙ retagged.graph) (sym c.prune_and_save.ensures.tags) (sym c.prune_and_save.ensures.opened)) pruned;
      untagged = c.in_ok-untagged.ensures.removed;
    }

pub returns-in-Ok-clause-only : goal.returns-in-Ok-clause-only
returns-in-Ok-clause-only g c exact named =
    let old = c.bring.new.self in
    let new = c.prune_and_save.new.destination in
    let roots = c.args.goal.now.0 in
    let holds : HoldsOnlyReached new.graph (roots_with old roots) = rw c.roots.ensures at c.in-Ok.ensures.only exact in
    let tagged : All (Contains roots) (values_of old.tags) = subst (λ (tags : Tags). All (Contains roots) (values_of tags)) (sym c.bring.ensures.only.tags) c.in_ok-untagged.ensures.rooted in
    let brought = map entry_of c.args.selected.now.2 in
    let before = c.args.destination.now.opened in
    let came : Brings brought c.retag.new.layout.tags before old.opened = rw (c.entries.ensures.entries, c.retag.ensures.only.opened) at c.in_ok-bring.ensures.brought in
    let brings : Brings brought old.tags before old.opened = subst (λ (tags : Tags). Brings brought tags before old.opened) (sym c.bring.ensures.only.tags) came in
    let of_roots = of_more_roots c.args.selected.now.0 roots brought c.requires.roots c.entries.ensures.named in
    only_roots old roots new.graph tagged (brought_named roots brought old.tags before old.opened brings named of_roots) holds

pub returns-in-Ok-clause-reached : goal.returns-in-Ok-clause-reached
returns-in-Ok-clause-reached g c =
    let old = c.bring.new.self in
    let new = c.prune_and_save.new.destination in
    subst (λ (graph : List Node). KeepsReached graph new.graph (values_of new.tags)) (c.bring.ensures.only.graph ∙ c.retag.ensures.only.graph)
    (subst (λ (tags : Tags). KeepsReached old.graph new.graph (values_of tags)) (sym c.prune_and_save.ensures.tags) (tagged_stay old new.graph c.prune_and_save.ensures.reached))

pub returns-in-Err-clause-reached : goal.returns-in-Err-clause-reached
returns-in-Err-clause-reached g c =
    let old = c.bring.new.self in
    let new = c.prune_and_save.new.destination in
    subst (λ (graph : List Node). KeepsReached graph new.graph (values_of new.tags)) (c.bring.ensures.only.graph ∙ c.retag.ensures.only.graph)
    (subst (λ (tags : Tags). KeepsReached old.graph new.graph (values_of tags)) (sym c.prune_and_save.ensures.tags) (tagged_stay old new.graph c.prune_and_save.ensures.reached))

pub returns-in-Ok-clause-stays : goal.returns-in-Ok-clause-stays
returns-in-Ok-clause-stays g c =
    let old = c.bring.new.self in
    let new = c.prune_and_save.new.destination in
    let roots = c.args.goal.now.0 in
    subst (λ (graph : List Node). KeepsReached graph new.graph roots) (c.bring.ensures.only.graph ∙ c.retag.ensures.only.graph)
    (fewer_stay old.graph new.graph roots (roots_of old) (rw c.roots.ensures at c.in-Ok.ensures.stays))

pub returns-in-Ok-clause-held : goal.returns-in-Ok-clause-held
unfolding returns-in-Ok-clause-stays
returns-in-Ok-clause-held g c = roots_stay c.args.destination.now.graph c.prune_and_save.new.destination.graph c.args.goal.now.0 (returns-in-Ok-clause-stays g c) c.requires.held

pub returns-in-Ok-clause-left : goal.returns-in-Ok-clause-left
returns-in-Ok-clause-left g c = λ entries tags can settled.
    let first = c.args.destination.now in
    let old = c.bring.new.self in
    let dir = c.bring.ensures.only.dir ∙ c.retag.ensures.only.dir in
    let graph = c.bring.ensures.only.graph ∙ c.retag.ensures.only.graph in
    c.prune_and_save.ensures.left entries tags (can_clean_up_same g.D.Dir.device first old c.args.from entries tags dir graph can) (are_settled_same g.D.Dir.device first old c.args.from dir graph settled)

pub returns-in-Err-clause-left : goal.returns-in-Err-clause-left
returns-in-Err-clause-left g c = λ entries tags can settled.
    let first = c.args.destination.now in
    let old = c.bring.new.self in
    let dir = c.bring.ensures.only.dir ∙ c.retag.ensures.only.dir in
    let graph = c.bring.ensures.only.graph ∙ c.retag.ensures.only.graph in
    c.prune_and_save.ensures.left entries tags (can_clean_up_same g.D.Dir.device first old c.args.from entries tags dir graph can) (are_settled_same g.D.Dir.device first old c.args.from dir graph settled)

pub returns-in-Ok-clause-lasts : goal.returns-in-Ok-clause-lasts
returns-in-Ok-clause-lasts g c = λ entries tags can settled.
    let first = c.args.destination.now in
    let old = c.bring.new.self in
    let dir = c.bring.ensures.only.dir ∙ c.retag.ensures.only.dir in
    let graph = c.bring.ensures.only.graph ∙ c.retag.ensures.only.graph in
    c.in-Ok.ensures.lasts entries tags (can_clean_up_same g.D.Dir.device first old c.args.from entries tags dir graph can) (are_settled_same g.D.Dir.device first old c.args.from dir graph settled)

pub returns-in-Err-clause-refused : goal.returns-in-Err-clause-refused
returns-in-Err-clause-refused g c =
    let new = c.prune_and_save.new.destination in
    mirror_unseen (g.D.Dir.device new.dir) c.args.seen.now.0 (λ (e : CopyFault). e ≡ copy.Memory) c.args.is_exact c.args.goal.now.0 (g.D.Dir.device c.args.destination.now.dir).failures new c.in-Err.fault (rw (c.roots.ensures, c.bring.ensures.only.dir, c.retag.ensures.only.dir) at c.in-Err.ensures.refused)

pub returns-in_err-check-clause-refused : goal.returns-in_err-check-clause-refused
returns-in_err-check-clause-refused g c =
    let old = c.args.destination.now in
    let dir = g.D.Dir.device old.dir in
    let p = err_from_is_err_and c.from_residual.result c.from_residual.ensures.1 in
    rw (p.1, p.2) (mirror_seen dir c.args.seen.now.0 (λ (e : CopyFault). e ≡ copy.Memory) c.args.is_exact c.args.goal.now.0 dir.failures old _ (rw c.dir.ensures at c.in_err-check.ensures.cause))
