use Rattle.std.proofs.Common.{◌≡◌, ◌++◌, ◌∷◌, [], ◌+◌, take, sym, subst, ap, ◌∙◌, arith}
use Rattle.std.specs.Prelude.{Contains}
use Rattle.std.specs.List.{All}
use Rattle.std.proofs.lemmas.List.{take_all, take_more, map-append}
use Rattle.std.proofs.lemmas.Result.{err_from_is_err_and}
use Rattle.oci_layout_store.specs.Layout.{SameMemory}
use Rattle.oci_manifest.specs.Descriptor.{Descriptor}
use Rattle.oci_repair.specs.Repaired.{IsOldOrMatch}
use Rattle.oci_repair.proofs.Mended.{all_match, all_noted, firsts, next_keys, old_or_more, same_then, wider, IsNoted}
use Rattle.oci_repair.proofs.run.repair.Goals as goal

pub returns-in_err-mend-clause-whole : goal.returns-in_err-mend-clause-whole
returns-in_err-mend-clause-whole g c = λ honest.
    let dev = g.D.Dir.device in
    let mends = c.args.mends.now in
    let i = c.loop-key.key-index in
    let m = c.loop-key-item.result in
    let w = c.loop-key.invariant in
    let old = (dev c.args.layout.now.dir).file in
    let mid = (dev c.loop-key.layout.dir).file in
    let new = (dev c.mend.new.layout.dir).file in
    wider old new (firsts (take i mends) ++ m.0 ∷ []) (firsts mends) (next_keys mends i m c.loop-key-test.true (sym c.loop-key-item.is))
    (old_or_more old mid new (firsts (take i mends)) m.0 (w.3 honest).0 (c.in_err-mend.ensures.whole (w.1.0 honest)))

pub loop-key-preserved : goal.loop-key-preserved
loop-key-preserved g c =
    let dev = g.D.Dir.device in
    let mends = c.args.mends.now in
    let i = c.loop-key.key-index in
    let m = c.loop-key-item.result in
    let w = c.loop-key.invariant in
    let old = (dev c.args.layout.now.dir).file in
    let mid = (dev c.loop-key.layout.dir).file in
    let new = (dev c.mend.new.layout.dir).file in
    let did = c.in_ok-mend.ensures in
    let more : take (i + 1) mends ≡ take i mends ++ m ∷ [] = take_more mends i m c.loop-key-test.true ∙ ap (λ x. take i mends ++ x ∷ []) (sym c.loop-key-item.is) in (
      same_then c.args.layout.now c.loop-key.layout c.mend.new.layout w.0 did.memory,
      (λ honest. did.honest.0 (w.1.0 honest), λ honest. w.1.1 (did.honest.1 honest)),
      subst (λ ms. All (IsNoted c.mend.new.put) ms) (sym more) (all_noted c.loop-key.put c.mend.new.put (take i mends) m did.stay w.2 did.noted),
      λ honest. (
        subst (λ ms. IsOldOrMatch old new ms) (sym (ap firsts more ∙ map-append (λ x. x.0) (take i mends) (m ∷ [])))
            (old_or_more old mid new (firsts (take i mends)) m.0 (w.3 honest).0 (did.whole (w.1.0 honest))),
        did.put (w.1.0 honest) (w.3 honest).1,
      ),
    )

pub returns-clause-repaired : goal.returns-clause-repaired
returns-clause-repaired g c = λ honest.
    let w = c.loop-key.invariant in
    let mends = c.args.mends.now in
    all_match (g.D.Dir.device c.loop-key.layout.dir).file c.loop-key.put mends (w.3 honest).1
    (subst (λ ms. All (IsNoted c.loop-key.put) ms) (take_all c.loop-key.key-index mends (omega (arith, c.loop-key-test.false))) w.2)
