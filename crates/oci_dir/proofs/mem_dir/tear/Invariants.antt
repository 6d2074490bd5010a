use Rattle.std.proofs.Common.{◌≡◌, ◌⊎◌, ℕ, List}
use Rattle.std.specs.Prelude.{IsSome}
use Rattle.oci_dir.specs.Memory.{files_of}
use Rattle.oci_dir.proofs.mem_dir.tear.Given as goal

abbrev pub invariant-loop-path : goal.invariant-loop-path
invariant-loop-path l = (q : List ℕ) → (files_of l.files q ≡ files_of l.initial.files q) ⊎ IsSome (files_of l.torn q)
