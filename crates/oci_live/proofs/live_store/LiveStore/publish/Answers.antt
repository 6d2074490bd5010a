use Rattle.std.proofs.Common.{◌≡◌, List, [], ◌∷◌, ◌++◌, ap, ◌∙◌, sym, subst}
use Rattle.oci_store.specs.Content.{Entry}
use Rattle.oci_store.specs.Closed.{IsClosed}
use Rattle.oci_store.specs.Graph.{nodes_of}
use Rattle.oci_live.specs.History.{name_of}
use Rattle.oci_live.specs.Live.{Live}
use Rattle.oci_live.proofs.live_store.LiveStore.publish.Goals as goal

pub publish-requires-clause-closed : goal.publish-requires-clause-closed
publish-requires-clause-closed g c =
    let e : Entry = c.args.content in
    subst (λ (es : List Entry). IsClosed (nodes_of (es ++ e ∷ []))) (sym (ap (λ (v : Live). v.entries) c.self.view_is)) c.requires.closed

pub invariant_of-self-2 : goal.invariant_of-self-2
invariant_of-self-2 g c =
    let e : Entry = c.args.content in
    let old = c.self.inside.publisher.desk.shown.value.entries in
    let added : Entry = (c.key.result.now, c.bytes.result.now) in
    let is : added ≡ e = λ i. (c.key.ensures i, c.bytes.ensures.bytes i) in
    let running = ap (λ (v : Live). v.is_halted) c.self.view_is ∙ c.requires.running in
    let done = c.in_ok-publish.ensures.done in
    record {
      shown = c.publish.ensures.shown;
      same = ap name_of c.in_ok-witness.ensures.book ∙ (c.self.invariant.same ∙ sym done.0.same);
      whole = λ _. c.in_ok-witness.ensures.appended ∙ (ap (λ (l : List Entry). l ++ added ∷ []) (c.self.invariant.whole running) ∙ (ap (λ (x : Entry). old ++ x ∷ []) is ∙ sym done.0.entries));
      nothing = λ _. done.1;
    }
