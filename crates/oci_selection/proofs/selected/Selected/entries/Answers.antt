use Rattle.oci_selection.proofs.selected.Selected.entries.Goals as goal

pub returns-clause-named : goal.returns-clause-named
returns-clause-named c = rw (← c.self.view_is) c.self.invariant.named
