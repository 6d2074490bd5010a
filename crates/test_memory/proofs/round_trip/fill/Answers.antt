use denote.Exit.{no}
use denote.Param.Send.{param_send, arg_send}
use Rattle.oci_layout_store.proofs.Crosses.{layout_send}
use Rattle.oci_dir.proofs.mem_dir.MemDir.TheSendSync as directory
use Rattle.oci_store.specs.contracts.draft.MemoryDraft as draft
use Rattle.oci_store.specs.contracts.draft.MemoryDraftDrafting.TheImpl as drafting
use Rattle.test_memory.proofs.round_trip.fill.Goals as goal

pub copy-layout-requires-send-D : goal.copy-layout-requires-send-D
copy-layout-requires-send-D g c κs within = param_send _ _ (arg_send _ no _ (layout_send _ draft.the_row _ drafting.ghosts directory.the_send))
