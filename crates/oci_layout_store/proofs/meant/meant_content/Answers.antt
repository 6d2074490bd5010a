use Rattle.oci_layout_store.proofs.MeantEntries.{shallow_meant}
use Rattle.oci_layout_store.proofs.meant.meant_content.Goals as goal

pub new-requires : goal.new-requires
new-requires g c = shallow_meant _ _ c.into_parts-stated.result.1 c.in_ok-entries.ensures.values c.into_parts-stated.ensures.shallow
