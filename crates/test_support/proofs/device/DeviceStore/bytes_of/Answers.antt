use Rattle.std.proofs.Common.{Some, None, ap, sym, ◌∙◌}
use Rattle.test_support.proofs.Files.{value_at-from_file}
use Rattle.test_support.proofs.device.DeviceStore.bytes_of.Goals as goal

pub returns-in-Some : goal.returns-in-Some
returns-in-Some c =
    rw (← c.self.view_is) (λ held. value_at-from_file c.self.inside.files.entries c.self.inside.held c.args.key.now (Some c.in-Some.bytes.now) (rw c.digest.ensures at c.in-Some.ensures.value) held ∙ ap Some (sym c.as_slice.ensures))

pub returns-in-None : goal.returns-in-None
returns-in-None c = rw (← c.self.view_is) (λ held. value_at-from_file c.self.inside.files.entries c.self.inside.held c.args.key.now None (rw c.digest.ensures at c.in-None.ensures.value) held)
