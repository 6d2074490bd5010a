use Rattle.oci_store.proofs.References.{AreNames-nil}
use Rattle.oci_store.proofs.memory.MemoryStore.from_entries.Goals as goal

pub invariant_of-result : goal.invariant_of-result
invariant_of-result c = rw c.new-tags.ensures (AreNames-nil _)
