use Rattle.std.proofs.Common.{take}
use Rattle.std.specs.List.{All}
use Rattle.oci_layout_copy.specs.Goal.{IsReadableIfStays}
use Rattle.oci_entries.specs.Pattern.{texts_of}
use Rattle.oci_layout_copy.proofs.kept.check_staying.Given as goal

-- as far as the loop has come
abbrev pub invariant-loop-place : goal.invariant-loop-place
invariant-loop-place l = All (IsReadableIfStays (texts_of l.patterns) l.gone l.selected) (take l.place l.entries)
