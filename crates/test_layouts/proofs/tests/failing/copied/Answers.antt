use denote.Exit.{no}
use denote.Param.Send.{param_send, param_sync, arg_send, arg_sync}
use Rattle.oci_layout_store.proofs.Crosses.{layout_send, layout_sync}
use Rattle.oci_store.specs.contracts.draft.MemoryDraft as draft
use Rattle.oci_store.specs.contracts.draft.MemoryDraftDrafting.TheImpl as drafting
use Rattle.test_layouts.proofs.tests.faulty.FaultyDir.TheSendSync as faulty
use Rattle.test_layouts.proofs.tests.failing.copied.Goals as goal

pub copied_samples-requires-send-D : goal.copied_samples-requires-send-D
copied_samples-requires-send-D g c κs within = param_send _ _ (arg_send _ no _ (layout_send _ draft.the_row _ drafting.ghosts faulty.the_send))

pub copied_samples-requires-sync-A : goal.copied_samples-requires-sync-A
copied_samples-requires-sync-A g c κs within = param_sync _ _ (arg_sync _ no _ (layout_sync _ draft.the_row _ drafting.ghosts faulty.the_sync))
