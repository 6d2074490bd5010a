use denote.Exit.{no}
use denote.Param.{param}
use denote.Param.Send.{param_sync, arg_sync}
use Rattle.oci_verify.proofs.Crosses.{check_sync}
use Rattle.oci_verify.proofs.search.corrupt_keys_among.Goals as goal

pub run-requires-sync-J : goal.run-requires-sync-J
run-requires-sync-J g c κs within = param_sync _ _ (arg_sync _ no _ (check_sync _ _ _ (param 3 g.row.D-Draft) _ g.D.Draft.Drafting c.type_bounds.sync-D c.type_bounds.sync-W))

pub into_fault-requires-sync-J : goal.into_fault-requires-sync-J
into_fault-requires-sync-J g c κs within = param_sync _ _ (arg_sync _ no _ (check_sync _ _ _ (param 3 g.row.D-Draft) _ g.D.Draft.Drafting c.type_bounds.sync-D c.type_bounds.sync-W))
