use Rattle.std.proofs.Common.{take}
use Rattle.std.specs.Map.{keys_of}
use Rattle.std.specs.Option.{option_copied}
use Rattle.oci_verify.specs.Corrupt.{is_asked}
use Rattle.oci_verify.specs.Intact.{HasFiles}
use Rattle.oci_verify.proofs.Corrupt.{HasCorrupt}
use Rattle.oci_verify.proofs.search.keys_found.Given as goal

-- as far as the loop has come
abbrev pub invariant-loop-place : goal.invariant-loop-place
invariant-loop-place g l =
    let dir = g.D.Dir.device l.layout.dir in
    HasFiles dir l.layout.graph → HasCorrupt (is_asked (option_copied l.asked)) dir.file l.layout.opened.damaged (keys_of (take l.place l.layout.graph)) l.found
