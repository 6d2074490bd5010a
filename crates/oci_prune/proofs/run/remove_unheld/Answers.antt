use Rattle.std.proofs.Common.{◌≡◌, ◌∙◌, List, None, false, inl, inr, map, refl, sym, subst}
use Rattle.oci_dir.specs.Prunable.{by_name}
use Rattle.oci_prune.specs.Pruned.{flagged, is_gone, AllAmong, AreApart, IsDraftIn, IsGone, IsNone, IsOfNoEntry, IsOfNoKey, IsPathAmong, IsPlannedUnheld, IsThere, Removal, RemovesDrafts}
use Rattle.oci_prune.proofs.Flagging.{removes_later}
use Rattle.oci_prune.proofs.Noting.{notes_both}
use Rattle.oci_prune.proofs.Sparing.{Drafts, removed_again, same_memory_both, settled_both}
use Rattle.oci_prune.specs.declared.plan.PrunedFile.{PrunedFile}
use Rattle.oci_prune.proofs.Results.{among_all, flags_still, gone_still, are_apart, are_there, unheld_of_no_key}
use Rattle.oci_prune.proofs.Settling.{among_apart_held}
use Rattle.oci_prune.proofs.run.remove_unheld.Goals as goal

pub remove_files-requires-clause-unneeded : goal.remove_files-requires-clause-unneeded
remove_files-requires-clause-unneeded g c = λ honest.
    let graph = c.args.layout.now.graph in
    subst (λ (fs : List PrunedFile). AllAmong false (IsOfNoKey graph) fs) (sym c.deref.ensures.value) (unheld_of_no_key (g.D.Dir.device c.args.layout.now.dir).file graph c.args.plan.now.kept c.args.plan.now.files.items (c.requires.planned honest))

pub remove_files-requires-clause-there : goal.remove_files-requires-clause-there
remove_files-requires-clause-there g c = λ honest.
    let file = (g.D.Dir.device c.args.layout.now.dir).file in
    let files = c.args.plan.now.files.items in
    subst (λ (fs : List PrunedFile). AllAmong false (IsThere file) fs) (sym c.deref.ensures.value) (among_all false (IsThere file) files (are_there file c.args.layout.now.graph c.args.plan.now.kept files (c.requires.planned honest)))

pub remove_files-requires-clause-apart : goal.remove_files-requires-clause-apart
remove_files-requires-clause-apart g c = λ honest.
    subst (λ (fs : List PrunedFile). AreApart fs) (sym c.deref.ensures.value) (are_apart (g.D.Dir.device c.args.layout.now.dir).file c.args.layout.now.graph c.args.plan.now.kept c.args.plan.now.files.items (c.requires.planned honest))

pub returns-clause-removal : goal.returns-clause-removal
returns-clause-removal g c =
    let old = c.args.layout.now in
    let mid = c.remove_files.new.layout in
    let new = c.remove_drafts.new.layout in
    let device = g.D.Dir.device in
    let files = c.args.plan.now.files.items in
    let plan = c.args.plan.now in
    let first = subst (λ (fs : List PrunedFile). Removal device old mid (IsPathAmong false fs) (IsPathAmong false fs) None c.remove_files.new.fault) c.deref.ensures.value c.remove_files.ensures.removal in
    let second = subst (λ (ds : Drafts). Removal device mid new IsNone (IsDraftIn (by_name ds)) c.remove_files.new.fault c.remove_drafts.new.fault) c.deref-2.ensures.value c.remove_drafts.ensures.removal in
    record {
      memory = same_memory_both old mid new first.memory second.memory;
      spared = removed_again device old mid new (IsPathAmong false files) first.spared first.memory.graph second.spared;
      settled = settled_both (device old.dir) (device mid.dir) (device new.dir) old.graph mid.graph first.spared.honest.0 first.memory.graph first.settled second.settled;
      fault = λ none. refl;
      notes = notes_both (device old.dir) (device mid.dir) (IsPathAmong false files) (IsDraftIn (by_name plan.drafts.items)) (IsPlannedUnheld plan) None c.remove_files.new.fault c.remove_drafts.new.fault first.spared.reads first.notes second.notes (λ path h. inl h) (λ path h. inr h);
      failures = second.failures ∙ first.failures;
    }

pub returns-clause-removed : goal.returns-clause-removed
returns-clause-removed g c = λ none honest.
    let device = g.D.Dir.device in
    let files = c.args.plan.now.files.items in
    let gone = subst (λ (fs : List PrunedFile). AllAmong false (IsGone (device c.remove_files.new.layout.dir).file) fs) c.deref.ensures.value (c.remove_files.ensures.removed (c.remove_drafts.ensures.removal.fault none) honest) in
    gone_still false (device c.remove_files.new.layout.dir) (device c.remove_drafts.new.layout.dir) c.remove_files.new.layout.graph files (c.remove_files.ensures.removal.spared.honest.0 honest) c.remove_drafts.ensures.removal.spared gone

pub returns-clause-flags : goal.returns-clause-flags
returns-clause-flags g c = λ honest right.
    let device = g.D.Dir.device in
    let files = c.args.plan.now.files.items in
    let a = device c.args.layout.now.dir in
    let b = device c.remove_files.new.layout.dir in
    let flags = subst (λ (fs : List PrunedFile). c.args.files.now.items ≡ map (is_gone a.file) fs → c.remove_files.new.gone.items ≡ map (is_gone b.file) fs) c.deref.ensures.value (c.remove_files.ensures.flags honest) right in
    flags ∙ flags_still b (device c.remove_drafts.new.layout.dir) c.remove_files.new.layout.graph files (c.remove_files.ensures.removal.spared.honest.0 honest) c.remove_drafts.ensures.removal.spared

pub returns-clause-lasts : goal.returns-clause-lasts
returns-clause-lasts g c = λ entries tags held was.
    let graph = c.args.layout.now.graph in
    let files = c.args.plan.now.files.items in
    let apart = among_apart_held false graph entries files held (unheld_of_no_key (g.D.Dir.device c.args.layout.now.dir).file graph c.args.plan.now.kept files (c.requires.planned was.is_honest)) in
    c.remove_drafts.ensures.lasts entries tags (c.remove_files.ensures.lasts entries tags (subst (λ (fs : List PrunedFile). AllAmong false (IsOfNoEntry entries) fs) (sym c.deref.ensures.value) apart) was)

pub returns-clause-went : goal.returns-clause-went
returns-clause-went g c = λ honest.
    let device = g.D.Dir.device in
    let mid = (device c.remove_files.new.layout.dir).draft in
    let new = (device c.remove_drafts.new.layout.dir).draft in
    let flags = c.remove_drafts.new.gone.items in
    removes_later (device c.args.layout.now.dir).draft mid new (flagged (by_name c.args.plan.now.drafts.items) flags) (c.remove_files.ensures.drafts honest)
    (subst (λ (ds : Drafts). RemovesDrafts mid new (flagged (by_name ds) flags)) c.deref-2.ensures.value (c.remove_drafts.ensures.flags (c.remove_files.ensures.removal.spared.honest.0 honest)))
