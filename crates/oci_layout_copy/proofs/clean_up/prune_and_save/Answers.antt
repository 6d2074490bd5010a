use Rattle.std.proofs.Common.{◌≡◌, ◌≢◌, ℕ, nat_eq, false, List, [], length, sym, ap, subst, ◌∙◌, arith}
use Rattle.std.specs.Vec.{vec_len}
use Rattle.std.proofs.lemmas.Bool.{eqb-true}
use Rattle.oci_layout_store.specs.Blobs.{stored}
use Rattle.oci_layout_store.specs.Lasts.{Lasts}
use Rattle.oci_layout_store.proofs.Loose.{empty_list}
use Rattle.oci_prune.specs.Settled.{LeavesOneOf}
use Rattle.oci_prune.proofs.Settling.{lasts_saved, left_saved}
use Rattle.oci_store.specs.Graph.{Node}
use Rattle.oci_copy.specs.declared.fault.CopyFault.{CopyFault}
use Rattle.oci_copy.specs.declared.fault.CopyFault.TheVariants as copy
use Rattle.oci_layout_store.specs.Meaning.{meaning}
use Rattle.oci_layout_store.specs.Layout.{LayoutState}
use Rattle.oci_prune.specs.Plan.{roots_with, AreKept, RefersIf}
use Rattle.oci_prune.specs.Pruned.{kept_of, KeepsReached}
use Rattle.oci_prune.proofs.Leaving.{reached_left, whole_left}
use Rattle.oci_prune.specs.declared.run.Pruned.{Pruned}
use Rattle.oci_layout_copy.specs.Mirror.{HoldsOnlyReached, IsPruned}
use Rattle.oci_layout_copy.proofs.Exact.{only_reached}
use Rattle.oci_prune.specs.Refusal.{IsDeviceFault, MayNotSave}
use Rattle.oci_layout_copy.proofs.Refusals.{if_error, on_error, on_saved, prune_refused, settled_refused}
use Rattle.oci_layout_copy.proofs.Removed.{pruned_saved}
use Rattle.oci_layout_copy.proofs.Cleaning.{can_settle_cleaned, can_settle_whole}
use Rattle.oci_layout_copy.proofs.clean_up.prune_and_save.Goals as goal
use Rattle.oci_layout_copy.proofs.clean_up.prune_and_save.Goals.{else-is_empty-via-else-is_empty, else-is_empty-via-then-is_empty+in-Ok-1}

pub returns-in-Err-prune-clause-refused : goal.returns-in-Err-prune-clause-refused
returns-in-Err-prune-clause-refused g c = rw (c.fault_of-in-Err-prune.ensures, c.in-Err-prune.ensures.cause) tt

pub returns-in-Err-into_saved-clause-refused : goal.returns-in-Err-into_saved-clause-refused
returns-in-Err-into_saved-clause-refused g c =
    let device = g.D.Dir.device in
    let old = device c.args.destination.now.dir in
    let new = c.prune.new.layout in
    let did = c.in-Ok-prune.ensures in
    let unsaved = c.in-Err-into_saved.ensures in
    let spares = on_error c.in-Ok-prune.pruned.saved c.in-Err-into_saved.fault did.unsaved unsaved.unsaved in
    rw c.fault_of-in-Err-into_saved.ensures (prune_refused (λ (e : CopyFault). e ≡ copy.Memory) c.args.is_exact c.args.roots.now old.failures old (device new.dir) new (omega arith) spares.reads c.in-Err-into_saved.fault
    (if_error c.in-Ok-prune.pruned.saved c.in-Err-into_saved.fault (IsDeviceFault (MayNotSave old (device new.dir))) did.unsaved_cause unsaved.unsaved))

pub returns-in-Err-into_saved-clause-left : goal.returns-in-Err-into_saved-clause-left
returns-in-Err-into_saved-clause-left g c = λ entries tags can settled.
    let old = c.args.destination.now in
    c.in-Ok-prune.ensures.left entries tags (can_settle_cleaned (g.D.Dir.device old.dir) c.args.from old.graph entries tags can settled) can.held

pub returns-clause-refused : goal.returns-clause-refused
returns-clause-refused g c =
    let device = g.D.Dir.device in
    let new = c.save_settled.new.self in
    let calm = on_saved c.in-Ok-prune.pruned.saved c.in-Ok-prune.ensures.failures c.in-Ok-into_saved.ensures.saved in
    settled_refused (λ (e : CopyFault). e ≡ copy.Memory) c.args.is_exact c.args.roots.now (device c.args.destination.now.dir).failures (device c.prune.new.layout.dir) (device new.dir) new (omega (arith, calm)) c.in-Err-save_settled.ensures.device.reads c.in-Err-save_settled.fault c.in-Err-save_settled.ensures.cause

-- what the prune did is still so, whether the layout is saved once more or not
pub returns-2-clause-pruned : goal.returns-2-clause-pruned
returns-2-clause-pruned g c =
    let device = g.D.Dir.device in
    let old = c.args.destination.now in
    let pruned = c.prune.new.layout in
    let plan = c.in-Ok.plan in
    let done = c.in-Ok-prune.pruned in
    let did = c.in-Ok-prune.ensures in
    let saved = c.in-Ok-into_saved.ensures.saved in
    let first : IsPruned device c.args.is_exact c.args.roots.now old pruned plan done = record {
      needed = c.in-Ok.ensures.kept;
      graph = on_saved done.saved did.kept saved;
      contents = on_saved done.saved did.contents saved;
      removes = record {
        planned = c.in-Ok.ensures.planned;
        saved = saved;
        honest = did.honest;
        files = did.files saved;
        drafts = did.drafts saved;
        flags = did.flags;
        draft_flags = did.draft_flags saved;
        other = did.other;
      };
    } in
    let Is : LayoutState g.row.D.Denot → Type 0 = λ l. IsPruned device c.args.is_exact c.args.roots.now old l plan c.in-Ok-into_saved.pruned in
    let is : Is pruned = subst (λ (d : Pruned). IsPruned device c.args.is_exact c.args.roots.now old pruned plan d) (sym c.in-Ok-into_saved.ensures.same) first in
    elim c.else-is_empty.branch [
      | else-is_empty-via-else-is_empty w ↦ subst Is (sym w.destination-is) is
      | else-is_empty-via-then-is_empty+in-Ok-1 w ↦
          subst Is (sym w.destination-is)
          (pruned_saved device c.args.is_exact c.args.roots.now old pruned w.save_settled.new.self plan c.in-Ok-into_saved.pruned is w.save_settled.ensures.only w.save_settled.ensures.device.honest w.save_settled.ensures.other w.in-Ok-1.ensures.1.1.1.1.0)
    ]

-- the kept keys are left, whether the layout is saved once more or not
pub returns-2-clause-stays : goal.returns-2-clause-stays
returns-2-clause-stays g c =
    let old = c.args.destination.now in
    let keys = roots_with old c.args.roots.now in
    let kept = c.in-Ok.plan.kept in
    let left : c.else-is_empty.destination.graph ≡ kept_of kept old.graph =
    elim c.else-is_empty.branch [
      | else-is_empty-via-else-is_empty w ↦ ap (λ (l : LayoutState g.row.D.Denot). l.graph) w.destination-is ∙ on_saved c.in-Ok-prune.pruned.saved c.in-Ok-prune.ensures.kept c.in-Ok-into_saved.ensures.saved
      | else-is_empty-via-then-is_empty+in-Ok-1 w ↦ ap (λ (l : LayoutState g.row.D.Denot). l.graph) w.destination-is ∙ w.save_settled.ensures.only.memory.graph ∙ on_saved c.in-Ok-prune.pruned.saved c.in-Ok-prune.ensures.kept c.in-Ok-into_saved.ensures.saved
    ] in
    subst (λ (graph : List Node). KeepsReached old.graph graph keys) (sym left) (reached_left old.graph keys kept c.in-Ok.ensures.safe)

pub returns-2-clause-only : goal.returns-2-clause-only
returns-2-clause-only g c exact =
    let old = c.args.destination.now in
    let keys = roots_with old c.args.roots.now in
    let kept = c.in-Ok.plan.kept in
    let store = meaning (g.D.Dir.device old.dir) old.graph old.tags in
    let left : c.else-is_empty.destination.graph ≡ kept_of kept old.graph =
    elim c.else-is_empty.branch [
      | else-is_empty-via-else-is_empty w ↦ ap (λ (l : LayoutState g.row.D.Denot). l.graph) w.destination-is ∙ on_saved c.in-Ok-prune.pruned.saved c.in-Ok-prune.ensures.kept c.in-Ok-into_saved.ensures.saved
      | else-is_empty-via-then-is_empty+in-Ok-1 w ↦ ap (λ (l : LayoutState g.row.D.Denot). l.graph) w.destination-is ∙ w.save_settled.ensures.only.memory.graph ∙ on_saved c.in-Ok-prune.pruned.saved c.in-Ok-prune.ensures.kept c.in-Ok-into_saved.ensures.saved
    ] in
    let are : AreKept old.graph keys (RefersIf false store) kept = rw exact at c.in-Ok.ensures.kept (λ keeps. cc keeps) in
    subst (λ (graph : List Node). HoldsOnlyReached graph keys) (sym left) (only_reached old.graph keys kept store c.in-Ok.ensures.safe are)

pub returns-in-Err-prune-clause-left : goal.returns-in-Err-prune-clause-left
returns-in-Err-prune-clause-left g c = λ entries tags can settled.
    let old = c.args.destination.now in
    c.in-Err-prune.ensures.left entries tags (can_settle_cleaned (g.D.Dir.device old.dir) c.args.from old.graph entries tags can settled) can.held

pub returns-clause-left : goal.returns-clause-left
returns-clause-left g c = λ entries tags can settled.
    let old = c.args.destination.now in
    let pruned = c.prune.new.layout in
    let device = g.D.Dir.device in
    let removed = c.in-Ok.plan.removed in
    let did = c.in-Ok-prune.ensures in
    let none : removed.items ≡ [] = empty_list removed.items (let e = eqb-true (vec_len removed) 0 (sym c.is_empty.ensures ∙ c.if-is_empty.true) in omega (arith, e, removed.ok.0)) in
    left_saved device pruned c.save_settled.new.self c.args.from c.in-Err-save_settled.ensures.only c.in-Err-save_settled.ensures.left entries tags
    (can_settle_whole (device pruned.dir) c.args.from pruned.graph old.graph entries tags (on_saved c.in-Ok-prune.pruned.saved did.kept c.in-Ok-into_saved.ensures.saved ∙ sym (whole_left old.graph c.in-Ok.plan.kept removed.items c.in-Ok.ensures.planned.removed none)) (did.sound can.is_sound) (did.closed can.closed) (did.stays none entries tags can.held can.lasts) can.first)

pub returns-2-clause-left : goal.returns-2-clause-left
returns-2-clause-left g c = λ entries tags can settled.
    let old = c.args.destination.now in
    let pruned = c.prune.new.layout in
    let device = g.D.Dir.device in
    let removed = c.in-Ok.plan.removed in
    let did = c.in-Ok-prune.ensures in
    let Leaves : LayoutState g.row.D.Denot → Type 0 = λ l. LeavesOneOf (device l.dir) entries tags (stored (device l.dir).file l.graph) l.tags in
    elim c.else-is_empty.branch [
      | else-is_empty-via-else-is_empty w ↦ subst Leaves (sym w.destination-is) (did.left entries tags (can_settle_cleaned (device old.dir) c.args.from old.graph entries tags can settled) can.held)
      | else-is_empty-via-then-is_empty+in-Ok-1 w ↦
          let none : removed.items ≡ [] = empty_list removed.items (let e = eqb-true (vec_len removed) 0 (sym c.is_empty.ensures ∙ w.if-is_empty.true) in omega (arith, e, removed.ok.0)) in
          subst Leaves (sym w.destination-is) (left_saved device pruned w.save_settled.new.self c.args.from w.save_settled.ensures.only w.save_settled.ensures.left entries tags
          (can_settle_whole (device pruned.dir) c.args.from pruned.graph old.graph entries tags (on_saved c.in-Ok-prune.pruned.saved did.kept c.in-Ok-into_saved.ensures.saved ∙ sym (whole_left old.graph c.in-Ok.plan.kept removed.items c.in-Ok.ensures.planned.removed none)) (did.sound can.is_sound) (did.closed can.closed) (did.stays none entries tags can.held can.lasts) can.first))
    ]

-- the second clause of the save, after Ok, is `lasts`
pub returns-2-clause-lasts : goal.returns-2-clause-lasts
returns-2-clause-lasts g c = λ entries tags can settled.
    let old = c.args.destination.now in
    let pruned = c.prune.new.layout in
    let device = g.D.Dir.device in
    let removed = c.in-Ok.plan.removed in
    let did = c.in-Ok-prune.ensures in
    let Stays : LayoutState g.row.D.Denot → Type 0 = λ l. Lasts (device l.dir) (stored (device l.dir).file l.graph) l.tags in
    elim c.else-is_empty.branch [
      | else-is_empty-via-else-is_empty w ↦
          let some : removed.items ≢ [] = λ none. (let e : vec_len removed ≡ 0 = (let n = ap length none in omega (arith, n, removed.ok.0)) in cc (sym w.if-is_empty.false ∙ c.is_empty.ensures ∙ ap (λ (n : ℕ). nat_eq n 0) e)) in
          subst Stays (sym w.destination-is) (on_saved c.in-Ok-prune.pruned.saved did.lasts c.in-Ok-into_saved.ensures.saved some entries tags (can_settle_cleaned (device old.dir) c.args.from old.graph entries tags can settled) can.held)
      | else-is_empty-via-then-is_empty+in-Ok-1 w ↦
          let none : removed.items ≡ [] = empty_list removed.items (let e = eqb-true (vec_len removed) 0 (sym c.is_empty.ensures ∙ w.if-is_empty.true) in omega (arith, e, removed.ok.0)) in
          subst Stays (sym w.destination-is) (lasts_saved device pruned w.save_settled.new.self c.args.from w.save_settled.ensures.only w.in-Ok-1.ensures.1.0 entries tags
          (can_settle_whole (device pruned.dir) c.args.from pruned.graph old.graph entries tags (on_saved c.in-Ok-prune.pruned.saved did.kept c.in-Ok-into_saved.ensures.saved ∙ sym (whole_left old.graph c.in-Ok.plan.kept removed.items c.in-Ok.ensures.planned.removed none)) (did.sound can.is_sound) (did.closed can.closed) (did.stays none entries tags can.held can.lasts) can.first))
    ]
