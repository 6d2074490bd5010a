use Rattle.oci_layout_store.proofs.layout.Layout.leftovers.Goals as goal

pub returns-in-Ok : goal.returns-in-Ok
returns-in-Ok g c = rw (← c.self.view_is) (record { found = c.in-Ok.ensures.found; cause = tt })
