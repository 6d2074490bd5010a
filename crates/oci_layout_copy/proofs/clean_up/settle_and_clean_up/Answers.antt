use Rattle.std.proofs.Common.{◌≡◌, sym, subst, arith}
use Rattle.std.proofs.lemmas.Result.{on_ok_weaker, IfOk-weaker}
use Rattle.std.specs.List.{All}
use Rattle.oci_layout_store.specs.Blobs.{stored}
use Rattle.oci_layout_store.specs.Entries.{said}
use Rattle.oci_layout_store.specs.Layout.{OpenedIndex}
use Rattle.oci_prune.proofs.Settling.{left_unsaved}
use Rattle.oci_copy.specs.declared.fault.CopyFault.{CopyFault}
use Rattle.oci_copy.specs.declared.fault.CopyFault.TheVariants as copy
use Rattle.oci_selection.specs.Selected.{IsOfRoot}
use Rattle.oci_layout_copy.proofs.Cleaning.{are_settled_now, can_clean_up_settled}
use Rattle.oci_layout_copy.proofs.Refusals.{settled_refused}
use Rattle.oci_layout_copy.proofs.Seen.{mirror_unseen}
use Rattle.oci_program.specs.declared.fault.ProgramFault.TheVariants as program
use Rattle.oci_layout_copy.proofs.clean_up.settle_and_clean_up.Goals as goal

pub returns-in-Ok-clause-pruned : goal.returns-in-Ok-clause-pruned
returns-in-Ok-clause-pruned g c =
    let same = c.settle_blobs.ensures.memory in
    IfOk-weaker c.clean_up.result _ _ (λ removed is. record { settled = c.settle_blobs.new.self; graph = same.graph; tags = same.tags; cleaned = is }) c.clean_up.ensures.pruned

pub returns-in-Ok-clause-only : goal.returns-in-Ok-clause-only
returns-in-Ok-clause-only g c =
    on_ok_weaker c.clean_up.result
    (λ only exact named. only exact (subst (λ (index : OpenedIndex). All (IsOfRoot c.args.goal.now.0) (said index.content).entries) (sym c.settle_blobs.ensures.memory.opened) named)) c.clean_up.ensures.only

pub returns-in-Ok-clause-left : goal.returns-in-Ok-clause-left
returns-in-Ok-clause-left g c = λ entries tags can.
    let old = c.args.destination.now in
    let settled = c.settle_blobs.new.self in
    let did = c.settle_blobs.ensures in
    c.clean_up.ensures.left entries tags (can_clean_up_settled g.D.Dir.device old settled c.args.from entries tags did.memory.graph did.only (did.lasts entries tags can.lasts) can)
    (are_settled_now (g.D.Dir.device settled.dir) c.args.from old.graph settled.graph did.memory.graph (c.in-Ok.ensures.settled can.is_sound.is_honest))

pub returns-in-Ok-clause-lasts : goal.returns-in-Ok-clause-lasts
returns-in-Ok-clause-lasts g c =
    let old = c.args.destination.now in
    let settled = c.settle_blobs.new.self in
    let did = c.settle_blobs.ensures in
    on_ok_weaker c.clean_up.result
    (λ lasts entries tags can. lasts entries tags (can_clean_up_settled g.D.Dir.device old settled c.args.from entries tags did.memory.graph did.only (did.lasts entries tags can.lasts) can)
    (are_settled_now (g.D.Dir.device settled.dir) c.args.from old.graph settled.graph did.memory.graph (c.in-Ok.ensures.settled can.is_sound.is_honest)))
    c.clean_up.ensures.lasts

pub returns-in-Err-clause-left : goal.returns-in-Err-clause-left
returns-in-Err-clause-left g c = λ entries tags can.
    let settled = c.settle_blobs.new.self in
    left_unsaved (g.D.Dir.device settled.dir) entries (stored (g.D.Dir.device settled.dir).file settled.graph) tags settled.tags (c.settle_blobs.ensures.lasts entries tags can.lasts)

pub returns-in-Ok-clause-refused : goal.returns-in-Ok-clause-refused
returns-in-Ok-clause-refused g c = rw c.settle_blobs.ensures.only.failures at c.clean_up.ensures.refused

pub returns-in-Err-clause-refused : goal.returns-in-Err-clause-refused
returns-in-Err-clause-refused g c =
    let old = g.D.Dir.device c.args.destination.now.dir in
    let settled = c.settle_blobs.new.self in
    mirror_unseen (g.D.Dir.device settled.dir) c.args.seen.now.0 (λ (e : CopyFault). e ≡ copy.Memory) c.args.is_exact c.args.goal.now.0 old.failures settled (program.Destination c.in-Err.fault)
    (settled_refused (λ (e : CopyFault). e ≡ copy.Memory) c.args.is_exact c.args.goal.now.0 old.failures old (g.D.Dir.device settled.dir) settled (omega arith) c.settle_blobs.ensures.only.reads c.in-Err.fault c.in-Err.ensures.cause)
