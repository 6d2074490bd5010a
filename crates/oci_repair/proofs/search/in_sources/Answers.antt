use Rattle.std.proofs.Common.{◌<◌, ◌≡◌, Some, get_or, length, sym, ◌∙◌, arith}
use Rattle.std.proofs.lemmas.Result.{err_from_is_err_and}
use Rattle.oci_repair.specs.Sources.{device_in, files_in, AreHonest}
use Rattle.oci_repair.specs.declared.source.RepairSource.{RepairSource}
use Rattle.oci_repair.proofs.Mended.{any_fails, err_as}
use Rattle.oci_repair.proofs.Places.{all_at, found_at, without_at}
use Rattle.oci_repair.proofs.search.in_sources.Goals as goal

pub returns-in_err-links-clause-failed : goal.returns-in_err-links-clause-failed
returns-in_err-links-clause-failed g c =
    let p = err_from_is_err_and c.from_residual.result c.from_residual.ensures.1 in
    rw (p.1, p.2) (λ failed. any_fails g.F.Dir.device g.A.Dir.device c.args.sources.now c.loop-place.place c.index-sources-place.result c.loop-place-test.true c.index-sources-place.is
    (c.in_err-links.ensures.failed (err_as c.in_err-links.field-0.0 _ failed)))

pub returns-in-Some-clause-found : goal.returns-in-Some-clause-found
returns-in-Some-clause-found g c = λ honest.
    let device = device_in g.F.Dir.device g.A.Dir.device in
    let sources = c.args.sources.now in
    let i = c.loop-place.place in
    let s = c.index-sources-place.result in
    let k = c.args.key.now in
    let here = rw c.in-Some.is at c.in_ok-links.ensures.found (all_at (λ x. (device x).file) sources i s c.loop-place-test.true c.index-sources-place.is (λ x. (device x).is_honest) honest) in
    let found = found_at (λ x. (device x).file) sources i s c.loop-place-test.true c.index-sources-place.is k (c.loop-place.invariant honest) here.0 in
    (found.0, here.1 ∙ sym found.1)

pub loop-place-preserved : goal.loop-place-preserved
loop-place-preserved g c = λ honest.
    let device = device_in g.F.Dir.device g.A.Dir.device in
    let sources = c.args.sources.now in
    let i = c.loop-place.place in
    let s = c.index-sources-place.result in
    let gone = rw c.in_default.is at c.in_ok-links.ensures.found (all_at (λ x. (device x).file) sources i s c.loop-place-test.true c.index-sources-place.is (λ x. (device x).is_honest) honest) in
    without_at (λ x. (device x).file) sources i s c.loop-place-test.true c.index-sources-place.is c.args.key.now (c.loop-place.invariant honest) gone
