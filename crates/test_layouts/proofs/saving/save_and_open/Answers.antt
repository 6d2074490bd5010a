use Rattle.std.proofs.Common.{◌≡◌, ◌∙◌}
use Rattle.test_layouts.proofs.Reopened.{reopened}
use Rattle.test_layouts.proofs.saving.save_and_open.Goals as goal

pub returns-in-Ok-clause-contents : goal.returns-in-Ok-clause-contents
returns-in-Ok-clause-contents g c nothing closed sound =
    let tags = c.in_ok-_tags.ensures in
    let saved = c.in_ok-save.ensures in
    let dir : c.in-Ok.again.dir ≡ c.save.new.self.dir = c.in-Ok.ensures.same ∙ c.into_dir.ensures in
    rw dir
    (reopened c.opens_as_saved.ensures _ _ (g.D.Dir.device c.args.layout.dir).file (g.D.Dir.device c.save.new.self.dir).file c.args.layout.graph c.save.new.self.graph c.in-Ok.again.graph c.args.layout.tags c.in-Ok.again.tags c.args.layout.opened c.in-Ok.again.opened
    tags.keys tags.names (rw tags.exact at tags.order) saved.only.memory.graph saved.files nothing saved.only.contents saved.only.sound (rw c.into_dir.ensures at c.in-Ok.ensures.opened) closed sound).0

pub returns-in-Ok-clause-tags : goal.returns-in-Ok-clause-tags
returns-in-Ok-clause-tags g c nothing closed sound =
    let tags = c.in_ok-_tags.ensures in
    let saved = c.in_ok-save.ensures in
    (reopened c.opens_as_saved.ensures _ _ (g.D.Dir.device c.args.layout.dir).file (g.D.Dir.device c.save.new.self.dir).file c.args.layout.graph c.save.new.self.graph c.in-Ok.again.graph c.args.layout.tags c.in-Ok.again.tags c.args.layout.opened c.in-Ok.again.opened
    tags.keys tags.names (rw tags.exact at tags.order) saved.only.memory.graph saved.files nothing saved.only.contents saved.only.sound (rw c.into_dir.ensures at c.in-Ok.ensures.opened) closed sound).1

pub returns-in-Ok-clause-absent : goal.returns-in-Ok-clause-absent
returns-in-Ok-clause-absent g c nothing closed sound =
    let tags = c.in_ok-_tags.ensures in
    let saved = c.in_ok-save.ensures in
    (reopened c.opens_as_saved.ensures _ _ (g.D.Dir.device c.args.layout.dir).file (g.D.Dir.device c.save.new.self.dir).file c.args.layout.graph c.save.new.self.graph c.in-Ok.again.graph c.args.layout.tags c.in-Ok.again.tags c.args.layout.opened c.in-Ok.again.opened
    tags.keys tags.names (rw tags.exact at tags.order) saved.only.memory.graph saved.files nothing saved.only.contents saved.only.sound (rw c.into_dir.ensures at c.in-Ok.ensures.opened) closed sound).2
