use Rattle.oci_layout_store.proofs.layout.Layout.tags.Goals as goal

pub returns-clause-keys : goal.returns-clause-keys
returns-clause-keys g c = rw (← c.self.view_is) c.len.ensures.keys
