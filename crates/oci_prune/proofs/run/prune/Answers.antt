use Rattle.std.proofs.Common.{◌≡◌, ◌∙◌, ℕ, true, false, List, get_or, None, Option, map, inl, inr, replicate, sym, ap, subst, arith}
use Rattle.std.specs.Prelude.{IsSome}
use Rattle.std.specs.Map.{keys_of}
use Rattle.oci_store.specs.Closed.{IsClosed}
use Rattle.oci_store.specs.Content.{Entry}
use Rattle.oci_store.specs.Graph.{Node}
use Rattle.oci_store.specs.Keyed.{HasAll}
use Rattle.oci_store.specs.Tags.{Tags}
use Rattle.oci_layout_store.specs.Blobs.{stored}
use Rattle.oci_layout_store.specs.Index.{index_file}
use Rattle.oci_layout_store.specs.Lasts.{Lasts}
use Rattle.oci_layout_store.specs.Layout.{LayoutState}
use Rattle.oci_dir.specs.Prunable.{by_name}
use Rattle.oci_prune.specs.Plan.{roots_of}
use Rattle.oci_prune.specs.Pruned.{flagged, is_gone, kept_of, AllAmong, AreApart, IsGone, IsPathAmong, IsThere, Removal}
use Rattle.oci_prune.specs.declared.plan.PrunedFile.{PrunedFile}
use Rattle.oci_prune.proofs.Flagging.{removes_still}
use Rattle.oci_prune.proofs.Leaving.{reached_either, closed_either, closed_left}
use Rattle.oci_prune.proofs.Results.{all_among, among_all, are_apart, are_there, changed_only, contents_left, flags_indexed, flags_none, has_index-stays, index_apart, only_needed, spares_unsaved, stay_among, stay_indexed, unneeded_after}
use Rattle.oci_prune.proofs.Settling.{among_apart_held, among_apart_stored, can_settle_spared, left_lasting, left_unsaved, none_or_some}
use Rattle.oci_prune.proofs.run.prune.Goals as goal

-- ---- the second removal

pub remove_files-requires-clause-unneeded : goal.remove_files-requires-clause-unneeded
remove_files-requires-clause-unneeded g c = λ honest.
    let old = c.args.layout.now in
    let did = c.remove_unheld-fault.ensures.removal in
    let first = did.spared.honest.1 (c.in-Ok.ensures.only.spared.honest.1 honest) in
    unneeded_after (g.D.Dir.device old.dir).file old.graph c.remove_unheld-fault.new.layout.graph c.save_kept.new.layout.graph c.args.plan.now.kept c.args.plan.now.files.items c.deref.result.now (c.requires.files first) did.memory.graph c.in-Ok.ensures.saved.kept c.deref.ensures.value

pub remove_files-requires-clause-there : goal.remove_files-requires-clause-there
remove_files-requires-clause-there g c = λ honest.
    let device = g.D.Dir.device in
    let a = device c.args.layout.now.dir in
    let b = device c.remove_unheld-fault.new.layout.dir in
    let d = device c.save_kept.new.layout.dir in
    let files = c.args.plan.now.files.items in
    let did = c.remove_unheld-fault.ensures.removal in
    let saved = c.in-Ok.ensures.only.spared in
    let second = saved.honest.1 honest in
    let first = did.spared.honest.1 second in
    let graph = c.args.layout.now.graph in
    let apart = are_apart a.file graph c.args.plan.now.kept files (c.requires.files first) in
    let was = among_all true (IsThere a.file) files (are_there a.file graph c.args.plan.now.kept files (c.requires.files first)) in
    let mid = stay_among true false a b graph files first (λ e. cc e) apart did.spared (λ (o : Option (List ℕ)). IsSome o) was in
    subst (λ (fs : List PrunedFile). AllAmong true (IsThere d.file) fs) (sym c.deref.ensures.value) (stay_indexed b d c.save_kept.new.layout.graph files second saved true (λ (o : Option (List ℕ)). IsSome o) mid)

pub remove_files-requires-clause-apart : goal.remove_files-requires-clause-apart
remove_files-requires-clause-apart g c = λ honest.
    let old = c.args.layout.now in
    let first = c.remove_unheld-fault.ensures.removal.spared.honest.1 (c.in-Ok.ensures.only.spared.honest.1 honest) in
    subst (λ (fs : List PrunedFile). AreApart fs) (sym c.deref.ensures.value) (are_apart (g.D.Dir.device old.dir).file old.graph c.args.plan.now.kept c.args.plan.now.files.items (c.requires.files first))

-- ---- the index is saved

pub returns-in-Ok-clause-reached : goal.returns-in-Ok-clause-reached
returns-in-Ok-clause-reached g c =
    let kept = c.args.plan.now.kept in
    reached_either c.args.layout.now.graph c.remove_files.new.layout.graph (roots_of c.args.layout.now) kept c.requires.safe
    (inr (c.remove_files.ensures.removal.memory.graph ∙ c.in-Ok.ensures.saved.kept ∙ ap (λ (graph : List Node). kept_of kept graph) c.remove_unheld-fault.ensures.removal.memory.graph))

pub returns-in-Ok-clause-closed : goal.returns-in-Ok-clause-closed
returns-in-Ok-clause-closed g c =
    let kept = c.args.plan.now.kept in
    closed_either c.args.layout.now.graph c.remove_files.new.layout.graph (roots_of c.args.layout.now) kept c.count.ensures.distinct c.requires.safe
    (inr (c.remove_files.ensures.removal.memory.graph ∙ c.in-Ok.ensures.saved.kept ∙ ap (λ (graph : List Node). kept_of kept graph) c.remove_unheld-fault.ensures.removal.memory.graph))

pub returns-in-Ok-clause-contents : goal.returns-in-Ok-clause-contents
returns-in-Ok-clause-contents g c = λ honest.
    let device = g.D.Dir.device in
    let first = c.remove_unheld-fault.ensures.removal in
    let second = c.in-Ok.ensures.only.spared in
    let third = c.remove_files.ensures.removal in
    let later = first.spared.honest.0 honest in
    contents_left (device c.args.layout.now.dir).file (device c.remove_unheld-fault.new.layout.dir).file (device c.save_kept.new.layout.dir).file (device c.remove_files.new.layout.dir).file c.args.layout.now.graph c.remove_unheld-fault.new.layout.graph
    c.save_kept.new.layout.graph c.remove_files.new.layout.graph c.args.plan.now.kept third.memory.graph c.in-Ok.ensures.saved.kept first.memory.graph (third.spared.contents (second.honest.0 later)) (second.contents later) (first.spared.contents honest)

pub returns-in-Ok-clause-unheld : goal.returns-in-Ok-clause-unheld
returns-in-Ok-clause-unheld g c = λ none honest.
    let device = g.D.Dir.device in
    let left = c.save_kept.new.layout in
    let new = c.remove_files.new.layout in
    let a = device c.args.layout.now.dir in
    let b = device c.remove_unheld-fault.new.layout.dir in
    let d = device left.dir in
    let e = device new.dir in
    let files = c.args.plan.now.files.items in
    let second = c.in-Ok.ensures.only.spared in
    let third = subst (λ (fs : List PrunedFile). Removal device left new (IsPathAmong true fs) (IsPathAmong true fs) c.remove_unheld-fault.result c.remove_files.new.fault) c.deref.ensures.value c.remove_files.ensures.removal in
    let later = c.remove_unheld-fault.ensures.removal.spared.honest.0 honest in
    let apart = are_apart a.file c.args.layout.now.graph c.args.plan.now.kept files (c.requires.files honest) in
    let unheld = stay_indexed b d left.graph files later second false (λ (o : Option (List ℕ)). o ≡ None) (c.remove_unheld-fault.ensures.removed (third.fault none) honest) in
    stay_among false true d e left.graph files (second.honest.0 later) (λ is. cc is) apart third.spared (λ (o : Option (List ℕ)). o ≡ None) unheld

pub returns-in-Ok-clause-files : goal.returns-in-Ok-clause-files
unfolding returns-in-Ok-clause-unheld returns-in-Ok-clause-contents
returns-in-Ok-clause-files g c = λ saved none honest.
    let device = g.D.Dir.device in
    let old = c.args.layout.now in
    let left = c.save_kept.new.layout in
    let new = c.remove_files.new.layout in
    let a = device old.dir in
    let b = device c.remove_unheld-fault.new.layout.dir in
    let d = device left.dir in
    let e = device new.dir in
    let kept = c.args.plan.now.kept in
    let files = c.args.plan.now.files.items in
    let first = c.remove_unheld-fault.ensures.removal in
    let second = c.in-Ok.ensures.only.spared in
    let third = subst (λ (fs : List PrunedFile). Removal device left new (IsPathAmong true fs) (IsPathAmong true fs) c.remove_unheld-fault.result c.remove_files.new.fault) c.deref.ensures.value c.remove_files.ensures.removal in
    let held = subst (λ (fs : List PrunedFile). AllAmong true (IsGone e.file) fs) c.deref.ensures.value (c.remove_files.ensures.removed none (second.honest.0 (first.spared.honest.0 honest))) in
    only_needed a e old.graph new.graph (roots_of old) kept files c.requires.safe (c.requires.files honest) (third.memory.graph ∙ c.in-Ok.ensures.saved.kept ∙ ap (λ (graph : List Node). kept_of kept graph) first.memory.graph)
    (returns-in-Ok-clause-contents g c honest) (changed_only a b d e old.graph left.graph files honest first.spared second third.spared) (all_among (IsGone e.file) files (returns-in-Ok-clause-unheld g c none honest) held)

pub returns-in-Ok-clause-drafts : goal.returns-in-Ok-clause-drafts
returns-in-Ok-clause-drafts g c = λ saved none honest place d lt.
    let path = (get_or (by_name c.args.plan.now.drafts.items) place d).0 in
    let third = c.remove_files.ensures in
    let later = c.remove_unheld-fault.ensures.removal.spared.honest.0 honest in
    third.drafts (c.in-Ok.ensures.only.spared.honest.0 later) path ∙ c.in-Ok.ensures.saved.drafts later path ∙ c.remove_unheld-fault.ensures.gone (third.removal.fault none) honest place d lt

pub returns-in-Ok-clause-draft_flags : goal.returns-in-Ok-clause-draft_flags
returns-in-Ok-clause-draft_flags g c = λ saved honest.
    let device = g.D.Dir.device in
    let a = (device c.args.layout.now.dir).draft in
    let left = (device c.save_kept.new.layout.dir).draft in
    let went = flagged (by_name c.args.plan.now.drafts.items) c.remove_unheld-fault.new.drafts.items in
    let first = c.remove_unheld-fault.ensures in
    let later = first.removal.spared.honest.0 honest in
    removes_still a left (device c.remove_files.new.layout.dir).draft went (removes_still a (device c.remove_unheld-fault.new.layout.dir).draft left went (first.went honest) (c.in-Ok.ensures.saved.drafts later))
    (c.remove_files.ensures.drafts (c.in-Ok.ensures.only.spared.honest.0 later))

pub returns-in-Ok-clause-index : goal.returns-in-Ok-clause-index
returns-in-Ok-clause-index g c = λ some honest.
    let device = g.D.Dir.device in
    let left = c.save_kept.new.layout in
    let new = c.remove_files.new.layout in
    let later = c.remove_unheld-fault.ensures.removal.spared.honest.0 honest in
    let third = c.remove_files.ensures.removal in
    let stays = third.spared.other (c.in-Ok.ensures.only.spared.honest.0 later) index_file (index_apart true c.deref.result.now) in
    has_index-stays (device left.dir).file (device new.dir).file left.graph new.graph left.tags new.tags left.opened new.opened stays third.memory.graph third.memory.tags third.memory.opened (c.in-Ok.ensures.saved.index some later)

pub returns-in-Ok-clause-unwritten : goal.returns-in-Ok-clause-unwritten
returns-in-Ok-clause-unwritten g c = λ none honest.
    let first = c.remove_unheld-fault.ensures.removal.spared in
    let last = c.in-Ok.ensures.only.spared.honest.0 (first.honest.0 honest) in
    c.remove_files.ensures.removal.spared.other last index_file (index_apart true c.deref.result.now)
    ∙ ap (λ (l : LayoutState g.row.D.Denot). (g.D.Dir.device l.dir).file index_file) (c.in-Ok.ensures.unwritten none)
    ∙ first.other honest index_file (index_apart false c.args.plan.now.files.items)

pub returns-in-Ok-clause-flags : goal.returns-in-Ok-clause-flags
returns-in-Ok-clause-flags g c = λ honest.
    let device = g.D.Dir.device in
    let old = c.args.layout.now in
    let files = c.args.plan.now.files.items in
    let a = device old.dir in
    let b = device c.remove_unheld-fault.new.layout.dir in
    let d = device c.save_kept.new.layout.dir in
    let e = device c.remove_files.new.layout.dir in
    let later = c.remove_unheld-fault.ensures.removal.spared.honest.0 honest in
    let second = c.in-Ok.ensures.only.spared in
    let start = c.in_ok-files.ensures ∙ ap (λ (n : ℕ). replicate n false) (omega (arith, c.len.ensures, c.args.plan.now.files.ok.0)) ∙ flags_none a.file files (are_there a.file old.graph c.args.plan.now.kept files (c.requires.files honest)) in
    let mid = c.remove_unheld-fault.ensures.flags honest start ∙ flags_indexed b d c.save_kept.new.layout.graph files later second in
    subst (λ (fs : List PrunedFile). c.remove_unheld-fault.new.files.items ≡ map (is_gone d.file) fs → c.remove_files.new.gone.items ≡ map (is_gone e.file) fs) c.deref.ensures.value (c.remove_files.ensures.flags (second.honest.0 later)) mid

pub returns-in-Ok-clause-stays : goal.returns-in-Ok-clause-stays
returns-in-Ok-clause-stays g c = λ none entries tags held was.
    let left = c.save_kept.new.layout in
    let files = c.args.plan.now.files.items in
    let first = c.remove_unheld-fault.ensures in
    let same = c.in-Ok.ensures.unwritten none in
    let Holds : List Node → Type 0 = λ graph. HasAll graph (keys_of entries) in
    let there : Holds left.graph = subst Holds (sym (ap (λ (l : LayoutState g.row.D.Denot). l.graph) same ∙ first.removal.memory.graph)) held in
    let lasting = subst (λ (l : LayoutState g.row.D.Denot). Lasts (g.D.Dir.device l.dir) entries tags) (sym same) (first.lasts entries tags held was) in
    let others = unneeded_after (g.D.Dir.device c.args.layout.now.dir).file c.args.layout.now.graph c.remove_unheld-fault.new.layout.graph left.graph c.args.plan.now.kept files c.deref.result.now (c.requires.files was.is_honest) first.removal.memory.graph c.in-Ok.ensures.saved.kept
    c.deref.ensures.value in
    c.remove_files.ensures.lasts entries tags (among_apart_held true left.graph entries c.deref.result.now there others) lasting

pub returns-in-Ok-clause-lasts : goal.returns-in-Ok-clause-lasts
returns-in-Ok-clause-lasts g c = λ some entries tags can held.
    let device = g.D.Dir.device in
    let old = c.args.layout.now in
    let mid = c.remove_unheld-fault.new.layout in
    let left = c.save_kept.new.layout in
    let new = c.remove_files.new.layout in
    let end = device new.dir in
    let first = c.remove_unheld-fault.ensures in
    let third = c.remove_files.ensures in
    let content = stored (device left.dir).file left.graph in
    let before = can_settle_spared device old mid (IsPathAmong false c.args.plan.now.files.items) entries tags first.removal.memory first.removal.spared first.removal.settled (first.lasts entries tags held can.lasts) can in
    let closed = subst (λ (graph : List Node). IsClosed (kept_of c.args.plan.now.kept graph)) (sym first.removal.memory.graph) (closed_left old.graph (roots_of old) c.args.plan.now.kept c.count.ensures.distinct c.requires.safe can.closed) in
    let saved = c.in-Ok.ensures.lasts some entries tags before closed in
    let others = unneeded_after (device old.dir).file old.graph mid.graph left.graph c.args.plan.now.kept c.args.plan.now.files.items c.deref.result.now (c.requires.files can.is_sound.is_honest) first.removal.memory.graph c.in-Ok.ensures.saved.kept c.deref.ensures.value in
    let apart = among_apart_stored true (device left.dir).file left.graph c.deref.result.now others in
    let lasting = third.lasts content left.tags apart saved in
    let same : stored end.file new.graph ≡ content = ap (stored end.file) third.removal.memory.graph ∙ third.removal.spared.contents saved.is_honest in
    subst (λ (es : List Entry). Lasts end es new.tags) (sym same) (subst (λ (names : Tags). Lasts end content names) (sym third.removal.memory.tags) lasting)

pub returns-in-Ok-clause-left : goal.returns-in-Ok-clause-left
unfolding returns-in-Ok-clause-stays returns-in-Ok-clause-lasts
returns-in-Ok-clause-left g c = λ entries tags can held.
    let new = c.remove_files.new.layout in
    let end = g.D.Dir.device new.dir in
    let content = stored end.file new.graph in
    elim (none_or_some c.args.plan.now.removed.items) [
      | inl none ↦ left_unsaved end entries content tags new.tags (returns-in-Ok-clause-stays g c none entries tags held can.lasts)
      | inr some ↦ left_lasting end entries content tags new.tags (returns-in-Ok-clause-lasts g c some entries tags can held)
    ]

-- ---- the index is not saved

-- the layout has the same keys as before, or the kept ones
either_left : goal.returns-in-Err-clause-either
either_left g c =
    let same = c.remove_unheld-fault.ensures.removal.memory.graph in
    elim c.in-Err.ensures.stays.either [
      | inl is ↦ inl (is ∙ same)
      | inr is ↦ inr (is ∙ ap (λ (graph : List Node). kept_of c.args.plan.now.kept graph) same)
    ]

pub returns-in-Err-clause-either : goal.returns-in-Err-clause-either
returns-in-Err-clause-either g c = either_left g c

pub returns-in-Err-clause-reached : goal.returns-in-Err-clause-reached
returns-in-Err-clause-reached g c = reached_either c.args.layout.now.graph c.save_kept.new.layout.graph (roots_of c.args.layout.now) c.args.plan.now.kept c.requires.safe (either_left g c)

pub returns-in-Err-clause-closed : goal.returns-in-Err-clause-closed
returns-in-Err-clause-closed g c = closed_either c.args.layout.now.graph c.save_kept.new.layout.graph (roots_of c.args.layout.now) c.args.plan.now.kept c.count.ensures.distinct c.requires.safe (either_left g c)

pub returns-in-Err-clause-unwritten : goal.returns-in-Err-clause-unwritten
returns-in-Err-clause-unwritten g c = λ none honest.
    ap (λ (l : LayoutState g.row.D.Denot). (g.D.Dir.device l.dir).file index_file) (c.in-Err.ensures.unwritten none)
    ∙ c.remove_unheld-fault.ensures.removal.spared.other honest index_file (index_apart false c.args.plan.now.files.items)

pub returns-in-Err-clause-unsaved : goal.returns-in-Err-clause-unsaved
returns-in-Err-clause-unsaved g c =
    let device = g.D.Dir.device in
    spares_unsaved (device c.args.layout.now.dir) (device c.remove_unheld-fault.new.layout.dir) (device c.save_kept.new.layout.dir) c.args.layout.now.graph c.save_kept.new.layout.graph c.args.plan.now c.remove_unheld-fault.ensures.removal.spared
    c.in-Err.ensures.only.spared

pub returns-in-Err-clause-flags : goal.returns-in-Err-clause-flags
returns-in-Err-clause-flags g c = λ honest.
    let device = g.D.Dir.device in
    let old = c.args.layout.now in
    let files = c.args.plan.now.files.items in
    let a = device old.dir in
    let start = c.in_ok-files.ensures ∙ ap (λ (n : ℕ). replicate n false) (omega (arith, c.len.ensures, c.args.plan.now.files.ok.0)) ∙ flags_none a.file files (are_there a.file old.graph c.args.plan.now.kept files (c.requires.files honest)) in
    c.remove_unheld-fault.ensures.flags honest start
    ∙ flags_indexed (device c.remove_unheld-fault.new.layout.dir) (device c.save_kept.new.layout.dir) c.save_kept.new.layout.graph files (c.remove_unheld-fault.ensures.removal.spared.honest.0 honest) c.in-Err.ensures.only.spared

pub returns-in-Err-clause-left : goal.returns-in-Err-clause-left
returns-in-Err-clause-left g c = λ entries tags can held.
    let old = c.args.layout.now in
    let first = c.remove_unheld-fault.ensures in
    let before = can_settle_spared g.D.Dir.device old c.remove_unheld-fault.new.layout (IsPathAmong false c.args.plan.now.files.items) entries tags first.removal.memory first.removal.spared first.removal.settled (first.lasts entries tags held can.lasts) can in
    c.in-Err.ensures.left entries tags before
    (subst (λ (graph : List Node). IsClosed (kept_of c.args.plan.now.kept graph)) (sym first.removal.memory.graph) (closed_left old.graph (roots_of old) c.args.plan.now.kept c.count.ensures.distinct c.requires.safe can.closed))

pub returns-in-Err-clause-unheld : goal.returns-in-Err-clause-unheld
returns-in-Err-clause-unheld g c = λ none honest.
    let device = g.D.Dir.device in
    let first = c.remove_unheld-fault.ensures in
    stay_indexed (device c.remove_unheld-fault.new.layout.dir) (device c.save_kept.new.layout.dir) c.save_kept.new.layout.graph c.args.plan.now.files.items (first.removal.spared.honest.0 honest) c.in-Err.ensures.only.spared false (λ (o : Option (List ℕ)). o ≡ None)
    (first.removed none honest)
