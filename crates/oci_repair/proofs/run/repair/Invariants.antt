use Rattle.std.proofs.Common.{take}
use Rattle.std.specs.Prelude.{◌↔◌}
use Rattle.std.specs.List.{All}
use Rattle.oci_layout_store.specs.Layout.{SameMemory}
use Rattle.oci_repair.specs.Repaired.{ArePut, IsOldOrMatch}
use Rattle.oci_repair.proofs.Mended.{firsts, IsNoted}
use Rattle.oci_repair.proofs.run.repair.Given as goal

-- the files of the keys before this place were put
abbrev pub invariant-loop-key : goal.invariant-loop-key
invariant-loop-key g l =
    let old = g.D.Dir.device l.fn.layout.dir in
    let now = g.D.Dir.device l.layout.dir in
    SameMemory l.fn.layout l.layout × (old.is_honest ↔ now.is_honest) × All (IsNoted l.put) (take l.key-index l.mends)
    × (old.is_honest → IsOldOrMatch old.file now.file (firsts (take l.key-index l.mends)) × ArePut now.file l.put)
