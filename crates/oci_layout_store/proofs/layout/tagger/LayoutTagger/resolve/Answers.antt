use Rattle.oci_layout_store.proofs.layout.tagger.LayoutTagger.resolve.Goals as goal

pub returns-clause-unknown : goal.returns-clause-unknown
returns-clause-unknown g c = rw (← c.self.view_is) c.resolve.ensures.unknown
