use Rattle.std.proofs.Common.{sym, ◌∙◌}
use Rattle.oci_layout_store.proofs.Drafted.{part_back, IsFetch-absent, IsFetch-held}
use Rattle.oci_layout_store.proofs.Fetched.{good-part, sound-at}
use Rattle.oci_layout_store.proofs.layout.source.LayoutSource.fetch_part.Goals as goal

pub returns-then-not-holds-clause-cause : goal.returns-then-not-holds-clause-cause
returns-then-not-holds-clause-cause g c =
    let s = c.self.inside in
    rw (← c.self.view_is) (IsFetch-absent (g.D.Dir.device s.dir) s.graph c.args.key.now _ (sym c.holds.ensures ∙ c.if-not-holds.true))

pub returns-clause-part : goal.returns-clause-part
returns-clause-part g c =
    let s = c.self.inside in
    rw (← c.self.view_is) (part_back (g.D.Dir.device s.dir).is_honest (g.D.Dir.device s.dir).file s.graph c.args.key.now c.args.from c.args.most c.read_blob_part.result (sym c.holds.ensures ∙ c.if-not-holds.false) c.read_blob_part.ensures.part)

pub returns-clause-cause : goal.returns-clause-cause
returns-clause-cause g c =
    let s = c.self.inside in
    rw (← c.self.view_is) (IsFetch-held (g.D.Dir.device s.dir) s.graph c.args.key.now _ c.read_blob_part.result (sym c.holds.ensures ∙ c.if-not-holds.false) c.read_blob_part.ensures.cause)

pub returns-clause-good : goal.returns-clause-good
returns-clause-good g c =
    let s = c.self.inside in
    rw (← c.self.view_is) (good-part (g.D.Dir.device s.dir) s.graph c.args.key.now c.read_blob_part.result (sym c.holds.ensures ∙ c.if-not-holds.false) c.read_blob_part.ensures.cause)

pub returns-clause-sound : goal.returns-clause-sound
returns-clause-sound g c =
    let s = c.self.inside in
    rw (← c.self.view_is) (sound-at (g.D.Dir.device s.dir).is_honest (g.D.Dir.device s.dir).file s.graph c.args.key.now c.read_blob_part.result (sym c.holds.ensures ∙ c.if-not-holds.false))
