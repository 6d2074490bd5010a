use Rattle.oci_copy.proofs.Headline.{closed_kept}
use Rattle.oci_copy.proofs.locked.LockedDestination.destination.Goals as goal

pub returns-clause-closed : goal.returns-clause-closed
returns-clause-closed g c was = closed_kept c.self.invariant.0 was

pub returns-clause-planned : goal.returns-clause-planned
returns-clause-planned g c = (c.self.invariant.0.added, c.self.invariant.0.is, c.self.invariant.0.planned_keys)

pub returns-clause-later : goal.returns-clause-later
returns-clause-later g c honest =
    let keeps = c.self.invariant.0 in
    record { added = keeps.added; is = keeps.is; each = λ i d lt. (keeps.planned_keys i d lt, keeps.own honest i d lt) }

pub returns-clause-later_content : goal.returns-clause-later_content
returns-clause-later_content g c known = (c.self.invariant.0.known known).1
