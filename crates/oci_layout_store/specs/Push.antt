-- How a push into a layout ends.
use Rattle.std.specs.Prelude.{◌≡◌, ℕ, List, [], ◌∷◌, ◌++◌, Result, Ok, Err}
use Rattle.oci_store.specs.Graph.{Node}
use Rattle.oci_store.specs.declared.fault.PushFault.{PushFault}
use Rattle.oci_dir.specs.Faults.{push_fault}
use Rattle.oci_dir.specs.declared.fault.DirFault.{DirFault}

-- a push ends after its put: the key that was added last stays at its place if the file was put,
-- and is removed if not
abbrev pub Settles : ℕ → List Node → List Node → Result Unit DirFault → Result ℕ PushFault → Type 0
Settles place old new (Ok u) answer = (answer ≡ Ok place) × (new ≡ old)
Settles place old new (Err e) answer = (answer ≡ Err (push_fault e)) × ((graph : List Node) (last : Node) → old ≡ graph ++ last ∷ [] → new ≡ graph)
