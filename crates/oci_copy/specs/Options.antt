-- The meaning of the options of a copy.
use Rattle.std.specs.Prelude.{ℕ, ◌==◌, if◌then◌else◌}
use Rattle.oci_plan.specs.declared.gathering.Existing.TheVariants.{Descend}
use Rattle.oci_copy.specs.declared.options.Options.{Options}

-- the maximum size of a manifest, in bytes: 4 MiB if the option is 0
abbrev pub limit_of : Options → ℕ
limit_of o = if o.max_metadata_bytes == 0 then 4194304 else o.max_metadata_bytes

-- these options, for a copy that also looks below the keys of the destination
abbrev pub descending : Options → Options
descending o = record { workers = o.workers; max_metadata_bytes = o.max_metadata_bytes; existing = Descend }
