use Rattle.std.proofs.Common.{◌≡◌, ◌++◌, map, filter}
use Rattle.oci_store.specs.Keyed.{has_key}
use Rattle.oci_query_commands.specs.Listed.{listing_of, unnamed_listing}
use Rattle.oci_query_commands.proofs.listing.add_held.Given as goal

-- as far as the loop has come
abbrev pub invariant-loop-key : goal.invariant-loop-key
invariant-loop-key g l = map listing_of l.listed.items ≡ map listing_of l.fn.listed.items ++ map unnamed_listing (filter (has_key l.layout.graph) l.yielded)
