use Rattle.std.proofs.Common.{sym, ◌∙◌}
use Rattle.test_support.proofs.Files.{has_key-written, matches_copied}
use Rattle.test_support.proofs.device.DeviceStore.holds.Goals as goal

pub returns-clause-held : goal.returns-clause-held
returns-clause-held c = rw (← c.self.view_is) (c.is_some.ensures ∙ c.content.ensures.entry ∙ sym (has_key-written c.self.inside.files.entries c.self.inside.held c.args.key.now))

pub returns-clause-pushed : goal.returns-clause-pushed
returns-clause-pushed c = rw (← c.self.view_is) (matches_copied c.args.key.now c.content.result _ c.content.ensures.matching c.content.ensures.found)
