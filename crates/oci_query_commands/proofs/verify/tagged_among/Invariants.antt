use Rattle.std.proofs.Common.{◌≡◌, ℕ, List, map, filter}
use Rattle.std.specs.Option.{option_copied}
use Rattle.oci_manifest.specs.Descriptor.{Descriptor}
use Rattle.oci_verify.specs.Corrupt.{is_asked}
use Rattle.oci_query_commands.specs.Found.{tagged_of}
use Rattle.oci_query_commands.proofs.verify.tagged_among.Given as goal

-- as far as the loop has come
abbrev pub invariant-loop-entry : goal.invariant-loop-entry
invariant-loop-entry l = map tagged_of l.found.items ≡ filter (λ (t : List ℕ × Descriptor). is_asked (option_copied l.asked) t.1) (map tagged_of l.yielded)
