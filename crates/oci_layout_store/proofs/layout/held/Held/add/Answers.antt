use Rattle.oci_layout_store.proofs.layout.held.Held.add.Goals as goal

pub returns-clause-stated : goal.returns-clause-stated
returns-clause-stated c = λ fresh. record {
  subjects = c.in_ok-note.ensures.subjects;
  undistributed = rw c.deref.ensures.value at c.in_ok-note.ensures.undistributed;
}
