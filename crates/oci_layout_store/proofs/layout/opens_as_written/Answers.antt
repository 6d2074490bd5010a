use Rattle.oci_layout_store.proofs.AsWritten as law
use Rattle.oci_layout_store.proofs.Remembered as opened
use Rattle.oci_layout_store.proofs.layout.opens_as_written.Goals as goal

pub returns-clause-written : goal.returns-clause-written
returns-clause-written c = law.opens_as_written

pub returns-clause-remembered : goal.returns-clause-remembered
returns-clause-remembered c = opened.remembered
