use denote.Exit.{no}
use denote.Param.{param}
use denote.Param.Send.{param_send, param_sync, arg_send, arg_sync}
use Rattle.oci_layout_store.proofs.Crosses.{layout_send, layout_sync}
use Rattle.example_copy.proofs.copy_hello.Goals as goal

pub copy-mirror-requires-send-D : goal.copy-mirror-requires-send-D
copy-mirror-requires-send-D g c κs within = param_send _ _ (arg_send _ no _ (layout_send _ (param 4 g.row.D-Draft) _ g.D.Draft.Drafting c.type_bounds.send-D))

pub copy-mirror-requires-sync-A : goal.copy-mirror-requires-sync-A
copy-mirror-requires-sync-A g c κs within = param_sync _ _ (arg_sync _ no _ (layout_sync _ (param 3 g.row.S-Draft) _ g.S.Draft.Drafting c.type_bounds.sync-S))
