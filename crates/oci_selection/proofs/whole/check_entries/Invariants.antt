use Rattle.std.proofs.Common.{take}
use Rattle.oci_entries.specs.Pattern.{texts_of}
use Rattle.oci_selection.specs.Selected.{AreNamedHeld}
use Rattle.oci_selection.proofs.whole.check_entries.Given as goal

-- as far as the loop has come
abbrev pub invariant-loop-place : goal.invariant-loop-place
invariant-loop-place g l = AreNamedHeld l.layout.graph (texts_of l.patterns) (take l.place l.entries)
