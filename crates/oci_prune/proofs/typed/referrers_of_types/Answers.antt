use Rattle.std.proofs.Common.{map}
use Rattle.oci_prune.proofs.Typing.{typed_referrers}
use Rattle.oci_prune.proofs.typed.referrers_of_types.Goals as goal

pub returns-clause-exact : goal.returns-clause-exact
returns-clause-exact g c = λ honest.
    typed_referrers (g.S.Store.state c.args.source.now).entries c.args.keys.now c.in_ok-found.found.items c.args.subject.now c.in_ok-subjects.subjects (map (λ t. t.now) c.args.types.now) c.in_ok-attachments.attachments c.in_ok-subjects.ensures
    (c.in_ok-attachments.ensures.exact honest) c.in_ok-found.ensures
