use Rattle.std.proofs.Common.{take}
use Rattle.oci_dir.specs.Crash.{OnlySettles}
use Rattle.oci_dir.specs.Memory.{device_of}
use Rattle.oci_dir.proofs.Memory.{TheseSettled}
use Rattle.oci_dir.proofs.mem_dir.MemDirDir.settle.Given as goal

abbrev pub invariant-loop-path : goal.invariant-loop-path
invariant-loop-path l = OnlySettles (device_of l.initial.self) (device_of l.self) × TheseSettled (device_of l.self) (take l.path-index l.paths)
