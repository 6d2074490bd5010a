use Rattle.std.proofs.Common.{◌≡◌, [], refl, sym, ◌∙◌, arith}
use Rattle.std.specs.Vec.{vec_len}
use Rattle.std.proofs.lemmas.Bool.{eqb-true}
use Rattle.oci_layout_store.proofs.Loose.{empty_list}
use Rattle.oci_prune.proofs.Leaving.{not_empty, whole_left}
use Rattle.oci_prune.proofs.Plans.{tags_kept}
use Rattle.oci_prune.proofs.run.save_kept.Goals as goal

pub returns-then-is_empty-clause-saved : goal.returns-then-is_empty-clause-saved
returns-then-is_empty-clause-saved g c =
    let removed = c.args.plan.now.removed in
    let none : removed.items ≡ [] =
    empty_list removed.items (let e = eqb-true (vec_len removed) 0 (sym c.is_empty.ensures ∙ c.if-is_empty.true) in omega (arith, e, removed.ok.0)) in
    record {
      kept = whole_left c.args.layout.now.graph c.args.plan.now.kept removed.items c.requires.removed none;
      index = λ some. absurd (some none);
      failures = refl;
      drafts = λ honest path. refl;
    }

pub save_only-requires : goal.save_only-requires
save_only-requires g c = record { tagged = tags_kept c.args.layout.now c.args.plan.now.kept c.requires.rooted }

pub returns-clause-saved : goal.returns-clause-saved
returns-clause-saved g c =
    let saved = c.in_ok-save_only.ensures.saved in
    record { kept = saved.graph; index = λ some. saved.index; failures = saved.failures; drafts = saved.drafts }

pub returns-clause-lasts : goal.returns-clause-lasts
returns-clause-lasts g c = λ some. c.in_ok-save_only.ensures.lasts

pub returns-in_err-save_only-clause-unwritten : goal.returns-in_err-save_only-clause-unwritten
returns-in_err-save_only-clause-unwritten g c = λ none.
    let removed = c.args.plan.now.removed in
    absurd (not_empty removed.items (vec_len removed) c.is_empty.result (omega (arith, removed.ok.0)) c.is_empty.ensures c.if-is_empty.false none)

pub returns-clause-unwritten : goal.returns-clause-unwritten
returns-clause-unwritten g c = λ none.
    let removed = c.args.plan.now.removed in
    absurd (not_empty removed.items (vec_len removed) c.is_empty.result (omega (arith, removed.ok.0)) c.is_empty.ensures c.if-is_empty.false none)
