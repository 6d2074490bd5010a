use Rattle.std.proofs.Common.{true, sym, ◌∙◌}
use Rattle.std.specs.BTreeSet.{contains}
use Rattle.std.proofs.lemmas.Bool.{or_left, or_right}
use Rattle.std.proofs.lemmas.Result.{IfOk-weaker}
use Rattle.oci_manifest.specs.Descriptor.{key_cmp}
use Rattle.oci_prune.specs.After.{after_copy}
use Rattle.oci_prune.proofs.Arriving.{answers_whole, has_key_gone, has_key_new, has_key_there, not_found, value_new, value_there}
use Rattle.oci_prune.proofs.after.AfterCopySource.fetch.Goals as goal

pub returns-then-exists-clause-answer : goal.returns-then-exists-clause-answer
returns-then-exists-clause-answer g c =
    let s = c.args.self.now in
    let source = g.S.Store.state s.source.now in
    let old = g.D.Store.state s.destination.now in
    let k = c.args.key.now in
    let held = sym c.exists.ensures ∙ c.if-exists.true in
    answers_whole old (after_copy source s.arriving.now old) k c.fetch.result (has_key_there (contains key_cmp s.arriving.now) source.entries old.entries k held ∙ sym held) (or_right (source.fails_at k) (old.fails_at k)) c.fetch.ensures.answer

pub returns-then-exists-clause-honest : goal.returns-then-exists-clause-honest
returns-then-exists-clause-honest g c =
    let s = c.args.self.now in
    IfOk-weaker c.fetch.result _ _
    (λ bytes is honest. value_there (contains key_cmp s.arriving.now) (g.S.Store.state s.source.now).entries (g.D.Store.state s.destination.now).entries c.args.key.now bytes (is honest.1)) c.fetch.ensures.honest

pub returns-then-contains-clause-answer : goal.returns-then-contains-clause-answer
returns-then-contains-clause-answer g c =
    let s = c.args.self.now in
    let source = g.S.Store.state s.source.now in
    let old = g.D.Store.state s.destination.now in
    let k = c.args.key.now in
    answers_whole source (after_copy source s.arriving.now old) k c.fetch-then-contains.result (has_key_new (contains key_cmp s.arriving.now) source.entries old.entries k (sym c.exists.ensures ∙ c.if-exists.false) (sym c.contains.ensures ∙ c.if-contains.true))
    (or_left (source.fails_at k) (old.fails_at k)) c.fetch-then-contains.ensures.answer

pub returns-then-contains-clause-honest : goal.returns-then-contains-clause-honest
returns-then-contains-clause-honest g c =
    let s = c.args.self.now in
    IfOk-weaker c.fetch-then-contains.result _ _
    (λ bytes is honest.
    value_new (contains key_cmp s.arriving.now) true (g.S.Store.state s.source.now).entries (g.D.Store.state s.destination.now).entries c.args.key.now (sym c.exists.ensures ∙ c.if-exists.false) (sym c.contains.ensures ∙ c.if-contains.true) ∙ is honest.0)
    c.fetch-then-contains.ensures.honest

pub returns-clause-answer : goal.returns-clause-answer
returns-clause-answer g c =
    let s = c.args.self.now in
    let source = g.S.Store.state s.source.now in
    let old = g.D.Store.state s.destination.now in
    not_found (after_copy source s.arriving.now old) c.args.key.now
    (has_key_gone (contains key_cmp s.arriving.now) source.entries old.entries c.args.key.now (sym c.exists.ensures ∙ c.if-exists.false) (sym c.contains.ensures ∙ c.if-contains.false))
