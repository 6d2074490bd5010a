-- Why there are no tags for a copy.
use Rattle.std.specs.Prelude.{◌≡◌, ◌≢◌, ℕ, List, []}
use Rattle.oci_program.specs.declared.fault.ProgramFault.{ProgramFault}
use Rattle.oci_program.specs.declared.fault.ProgramFault.TheVariants as program
use Rattle.oci_prune_fault.specs.declared.fault.PruneFault.TheVariants as prune
use Rattle.oci_store.specs.Tags.{Tags}
use Rattle.oci_entries.specs.Pattern.{matching_tags}

-- A copy of the tags that match patterns is refused for want of tags only if there is none, and for want
-- of a match only if there are tags and none matches. Other faults have other causes.
abbrev pub IsNoTagsFault : List (List ℕ) → Tags → ProgramFault → Type 0
IsNoTagsFault patterns tags (program.Source prune.NoTags) = tags ≡ []
IsNoTagsFault patterns tags (program.Prune prune.NoTags) = ⊥
IsNoTagsFault patterns tags program.NoMatch = (tags ≢ []) × (matching_tags patterns tags ≡ [])
IsNoTagsFault patterns tags e = Unit {0}

-- a fault that says neither that there are no tags, nor that none matches
abbrev pub IsOtherFault : ProgramFault → Type 0
IsOtherFault (program.Source prune.NoTags) = ⊥
IsOtherFault (program.Prune prune.NoTags) = ⊥
IsOtherFault program.NoMatch = ⊥
IsOtherFault e = Unit {0}
