-- The checks of a layout may be shared with another thread if its directory and its watcher may.
use denote.RattleType.{RattleType}
use denote.Ref.{NamedLft}
use denote.Param.Send.{IsSync, recorded_sync, sendable, shr_sync, struct_sync}
use denote.Struct.Declared.{shape}
use Rattle.std.proofs.Crossing as values
use Rattle.std.proofs.MapsCrossingOver as over
use Rattle.oci_manifest.proofs.key.Key.TheSendSync as key
use Rattle.oci_dir.specs.declared.dir.Dir as dir
use Rattle.oci_layout_store.proofs.Crosses.{layout_sync}
use Rattle.oci_store.specs.declared.draft.Drafting as drafting
use Rattle.oci_verify.specs.contracts.job.FileCheck as check

pub check_sync : (a : NamedLft) (D W F : RattleType) (d : dir.Ghosts D.Denot F.Denot) (f : drafting.Ghosts F.Denot) → IsSync D → IsSync W → IsSync (check.the_row a D W F d f)
check_sync a D W F d f s w =
    recorded_sync (check.the_field a D W F d f).row _ _ (check.the_type a D W F d f).to_one
    (struct_sync (shape (check.the_type a D W F d f)) (shr_sync _ _ _ (layout_sync D F d f s), (search (key.the_sync, over.crosses, values.crosses, sendable) depth 60 fits 20000, (shr_sync _ _ _ w, tt))))
