use Rattle.oci_layout_store.proofs.LastNames.{HasLastPlaces-more}
use Rattle.oci_layout_store.proofs.index.names.last_places.Goals as goal

pub loop-place-preserved : goal.loop-place-preserved
loop-place-preserved c =
    HasLastPlaces-more c.loop-place.places c.set_place.new.places c.args.entries.now c.loop-place.place c.index-entries-place.result c.loop-place-test.true c.index-entries-place.is c.loop-place.invariant c.in_ok-set_place.ensures
