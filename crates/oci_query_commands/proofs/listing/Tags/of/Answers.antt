use Rattle.std.proofs.Common.{map}
use Rattle.oci_query_commands.specs.Listed.{listing_of}
use Rattle.oci_query_commands.proofs.AllTags.{only_named, all_listed}
use Rattle.oci_query_commands.proofs.listing.Tags.of.Goals as goal

pub returns-then-not-lists_all : goal.returns-then-not-lists_all
returns-then-not-lists_all g c =
    let layout = c.args.layout.now in
    only_named layout.graph layout.tags layout.opened c.args.lists_all (map listing_of c.in_ok-tags.tags.items) c.in_ok-pairs.pairs.items c.if-not-lists_all.true c.in_ok-tags.ensures c.in_ok-pairs.ensures.exact

pub returns : goal.returns
returns g c =
    let layout = c.args.layout.now in
    all_listed layout.graph layout.tags layout.opened c.args.lists_all (map listing_of c.in_ok-tags.tags.items) (map listing_of c.add_held.new.listed.items) c.in_ok-pairs.pairs.items c.entries.result.now c.in_ok-unnamed.unnamed c.in_ok-keys.keys.items
    c.if-not-lists_all.false c.in_ok-tags.ensures c.in_ok-pairs.ensures.exact c.in_ok-unnamed.ensures c.entries.ensures.entries c.in_ok-keys.ensures.keys c.in_ok-keys.ensures.order c.in_ok-add_held.ensures
