use Rattle.std.proofs.Common.{◌≡◌, ℕ, length, Some, None, sym, ap, subst, ◌∙◌, arith}
use Rattle.std.specs.List.{slice_get}
use Rattle.std.specs.Option.{option_copied}
use Rattle.oci_store.proofs.Membership.{past_from_none}
use Rattle.oci_prune.specs.Attached.{AttachedIn}
use Rattle.oci_prune.specs.Walk.{IsWalking}
use Rattle.oci_prune.proofs.Keeping.{walking_start, walking_step, walked_kept, walked_known, walk_fault, inside_step}
use Rattle.oci_prune.proofs.members.members_of.Goals as goal

pub loop-place-init : goal.loop-place-init
loop-place-init g c =
    let graph = (g.S.Store.state c.args.source.now).nodes in
    record {
      walking = walking_start graph c.args.keys.now c.place_all.new.self (AttachedIn c.args.attachments.now) c.args.refuses_absent c.new-members.result (rw c.new-found.ensures at c.in_ok-place_all.ensures) c.new-members.ensures.empty;
      inside = omega arith;
    }

pub unreachable-requires : goal.unreachable-requires
unreachable-requires g c =
    let none : slice_get c.loop-place.found c.loop-place.place ≡ None = sym c.get.ensures ∙ ap option_copied c.in_default.is in
    omega (arith, past_from_none c.loop-place.found c.loop-place.place none, c.loop-place-test.true, c.len.ensures)

pub returns-in-Err-clause-cause : goal.returns-in-Err-clause-cause
returns-in-Err-clause-cause g c =
    let graph = (g.S.Store.state c.args.source.now).nodes in
    let k = c.in_ok-key.key in
    let at : slice_get c.loop-place.found c.loop-place.place ≡ Some k = sym c.get.ensures ∙ ap option_copied c.in-Some.is ∙ ap Some (sym c.in_ok-key.ensures) in
    walk_fault graph c.args.keys.now (AttachedIn c.args.attachments.now) c.args.refuses_absent c.loop-place.found c.loop-place.members c.loop-place.place k c.in-Err.fault c.loop-place.invariant.walking at c.in-Err.ensures.cause

pub loop-place-preserved : goal.loop-place-preserved
loop-place-preserved g c =
    let graph = (g.S.Store.state c.args.source.now).nodes in
    let k = c.in_ok-key.key in
    let at : slice_get c.loop-place.found c.loop-place.place ≡ Some k = sym c.get.ensures ∙ ap option_copied c.in-Some.is ∙ ap Some (sym c.in_ok-key.ensures) in
    record {
      walking = walking_step graph c.args.keys.now (AttachedIn c.args.attachments.now) c.args.refuses_absent c.loop-place.found c.visit.new.found c.loop-place.members c.visit.new.members c.loop-place.place k c.loop-place.invariant.walking at
          c.in-Ok.ensures.found c.in-Ok.ensures.members c.in-Ok.ensures.known;
      inside = inside_step c.visit.new.found c.loop-place.place k (c.in-Ok.ensures.found.stays c.loop-place.place k at);
    }

pub returns-clause-members : goal.returns-clause-members
returns-clause-members g c =
    let graph = (g.S.Store.state c.args.source.now).nodes in
    let ended : c.loop-place.place ≡ length c.loop-place.found = omega (arith, c.loop-place-test.false, c.len.ensures, c.loop-place.invariant.inside) in
    walked_kept graph c.args.keys.now (AttachedIn c.args.attachments.now) c.args.refuses_absent c.loop-place.found c.loop-place.members
    (subst (λ (n : ℕ). IsWalking graph c.args.keys.now (AttachedIn c.args.attachments.now) c.args.refuses_absent c.loop-place.found c.loop-place.members n) ended c.loop-place.invariant.walking)

pub returns-clause-known : goal.returns-clause-known
returns-clause-known g c =
    let graph = (g.S.Store.state c.args.source.now).nodes in
    let ended : c.loop-place.place ≡ length c.loop-place.found = omega (arith, c.loop-place-test.false, c.len.ensures, c.loop-place.invariant.inside) in
    walked_known graph c.args.keys.now (AttachedIn c.args.attachments.now) c.args.refuses_absent c.loop-place.found c.loop-place.members
    (subst (λ (n : ℕ). IsWalking graph c.args.keys.now (AttachedIn c.args.attachments.now) c.args.refuses_absent c.loop-place.found c.loop-place.members n) ended c.loop-place.invariant.walking)
