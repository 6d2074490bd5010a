use Rattle.std.proofs.Common.{◌≡◌, ◌∙◌, ℕ, List, [], None, String, Global, string_bytes, refl, sym, ap, subst}
use Rattle.std.proofs.lemmas.List.{length-set}
use Rattle.std.proofs.lemmas.List.Elements.{All-nil}
use Rattle.oci_prune.specs.Pruned.{IsDraftIn, IsNone, RemovesIf}
use Rattle.oci_prune.specs.Refusal.{Notes}
use Rattle.oci_prune.proofs.Flagging.{gone_later, removes_next, removes_none}
use Rattle.oci_prune.proofs.Noting.{notes_draft, notes_same}
use Rattle.oci_prune.proofs.Sparing.{drafts_gone, same_memory_both, settled_both, spares_again, spares_same}
use Rattle.oci_prune.proofs.removal.remove_drafts.Goals as goal

pub loop-place-init : goal.loop-place-init
loop-place-init g c =
    let a = g.D.Dir.device c.args.layout.now.dir in
    record {
      removal = record {
        memory = record { graph = refl; tags = refl; opened = refl };
        spared = spares_same a c.args.layout.now.graph IsNone;
        settled = λ honest k held was. was;
        fault = λ none. none;
        notes = notes_same a (IsDraftIn []) c.args.fault.now;
        failures = refl;
      };
      removed = λ none honest. All-nil (λ (draft : List ℕ × ℕ). a.draft draft.0 ≡ None);
      flags = λ honest. removes_none a.draft;
      noted = c.requires.noted;
      lasts = λ entries tags was. was;
    }

pub loop-place-preserved : goal.loop-place-preserved
loop-place-preserved g c =
    let w = c.loop-place.invariant in
    let a = g.D.Dir.device c.args.layout.now.dir in
    let b = g.D.Dir.device c.loop-place.layout.dir in
    let d = g.D.Dir.device c.remove_draft.new.layout.dir in
    let did = c.remove_draft.ensures in
    let text = c.as_str.ensures.value ∙ ap (λ (d : String Global × ℕ). string_bytes d.0) (sym c.index-drafts-place.is) in
    let step : a.is_honest → RemovesIf c.remove_draft.result b.draft d.draft (string_bytes c.index-drafts-place.result.0) = λ honest. subst (λ (text : List ℕ). RemovesIf c.remove_draft.result b.draft d.draft text) text (did.flag (w.removal.spared.honest.0 honest)) in
    let notes = subst (λ (text : List ℕ). Notes b (λ (path : List ℕ). text ≡ path) c.loop-place.fault c.remove_draft.new.fault) text did.removal.notes in
    record {
      removal = record {
        memory = same_memory_both c.args.layout.now c.loop-place.layout c.remove_draft.new.layout w.removal.memory did.removal.memory;
        spared = spares_again a b d c.args.layout.now.graph c.loop-place.layout.graph IsNone w.removal.spared w.removal.memory.graph did.removal.spared;
        settled = settled_both a b d c.args.layout.now.graph c.loop-place.layout.graph w.removal.spared.honest.0 w.removal.memory.graph w.removal.settled did.removal.settled;
        fault = λ none. w.removal.fault (did.removal.fault none);
        notes = notes_draft a b c.args.drafts.now c.loop-place.place c.index-drafts-place.result c.args.fault.now c.loop-place.fault c.remove_draft.new.fault c.loop-place-test.true c.index-drafts-place.is w.removal.spared.reads w.removal.notes notes;
        failures = did.removal.failures ∙ w.removal.failures;
      };
      removed = λ none honest.
          drafts_gone b d c.args.drafts.now c.loop-place.place c.index-drafts-place.result c.loop-place-test.true c.index-drafts-place.is (λ path. gone_later c.remove_draft.result b.draft d.draft (string_bytes c.index-drafts-place.result.0) path (step honest))
          (subst (λ (text : List ℕ). d.draft text ≡ None) text (did.removed none (w.removal.spared.honest.0 honest))) (w.removed (did.removal.fault none) honest);
      flags = λ honest.
          removes_next a.draft b.draft d.draft c.args.drafts.now c.loop-place.place c.index-drafts-place.result c.loop-place.gone.items c.remove_draft.result c.loop-place-test.true c.index-drafts-place.is w.noted (w.flags honest) (step honest);
      noted = length-set c.loop-place.gone.items c.loop-place.place c.remove_draft.result ∙ w.noted;
      lasts = λ entries tags was. did.lasts entries tags (w.lasts entries tags was);
    }
