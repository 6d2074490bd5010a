use Rattle.std.proofs.Common.{◌≡◌, ◌∷◌, [], Some, None, sym, ap, ◌∙◌}
use Rattle.std.specs.Option.{option_copied}
use Rattle.std.proofs.lemmas.Result.{err_from_is_err_and}
use Rattle.oci_repair.specs.Repaired.{size_in}
use Rattle.oci_repair.specs.Sources.{device_in, AnyFails}
use Rattle.oci_repair.proofs.Mended.{any_fails, mend_fault, mended_put, noted_stay}
use Rattle.oci_repair.proofs.run.mend.Goals as goal

pub returns-in_err-put_from-clause-cause : goal.returns-in_err-put_from-clause-cause
returns-in_err-put_from-clause-cause g c =
    let p = err_from_is_err_and c.from_residual-in_err-put_from.result c.from_residual-in_err-put_from.ensures.1 in
    let folder = g.F.Dir.device in
    let archive = g.A.Dir.device in
    let source = c.in-Some-get.source.now in
    let found = rw c.in-Some-get.is at c.get-2.ensures.lookup in
    rw (p.1, p.2) (mend_fault (c.args.key.now ∷ []) _ (AnyFails folder archive c.args.sources.now) (any_fails folder archive c.args.sources.now c.args.place source found.3.0 found.1) c.in_err-put_from.field-0.0 c.in_err-put_from.ensures.cause)

pub returns-in-Ok-clause-put : goal.returns-in-Ok-clause-put
returns-in-Ok-clause-put g c = λ honest were.
    let dev = g.D.Dir.device in
    mended_put (dev c.args.layout.now.dir).file (dev c.put_from.new.layout.dir).file c.args.put.now c.insert.new.self c.args.key.now were
    (c.in_ok-put_from.ensures.whole honest) (c.in_ok-put_from.ensures.put honest) (rw (c.digest-2.ensures, c.size-2.ensures.size) at c.in-Ok.ensures.updates)

pub returns-in-Ok-clause-stay : goal.returns-in-Ok-clause-stay
returns-in-Ok-clause-stay g c =
    let none : size_in c.args.put.now c.args.key.now.digest ≡ None = sym (rw c.digest.ensures at c.get.ensures.value) ∙ ap option_copied c.in-None.is in
    noted_stay c.args.put.now c.insert.new.self c.args.key.now none (rw (c.digest-2.ensures, c.size-2.ensures.size) at c.in-Ok.ensures.updates)
