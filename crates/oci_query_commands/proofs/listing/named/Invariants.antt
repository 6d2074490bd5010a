use Rattle.std.proofs.Common.{◌≡◌, map}
use Rattle.oci_store.specs.Tags.{by_bytes}
use Rattle.oci_query_commands.specs.Listed.{listing_of, named_listing}
use Rattle.oci_query_commands.proofs.listing.named.Given as goal

-- as far as the loop has come
abbrev pub invariant-loop-tag : goal.invariant-loop-tag
invariant-loop-tag l = map listing_of l.listed.items ≡ map named_listing (by_bytes l.yielded)
