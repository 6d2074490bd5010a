use Rattle.std.proofs.Common.{◌≡◌, ◌∷◌, ◌-◌, take}
use Rattle.std.specs.Prelude.{flat_map}
use Rattle.oci_layout_store.specs.Entries.{entry_keys, said}
use Rattle.oci_layout_store.specs.Opened.{IsOpenedAsIs}
use Rattle.oci_verify.specs.Corrupt.{AreCorrupt}
use Rattle.oci_repair.specs.Planned.{mend_at, missing_at}
use Rattle.oci_repair.specs.Sources.{files_in, AreHonest}
use Rattle.oci_repair.specs.Whole.{lists_in, place_in}
use Rattle.oci_repair.proofs.Walk.{IsWalking}
use Rattle.oci_repair.proofs.plan.plan_repair.Given as goal

-- the keys before this place are planned
abbrev pub invariant-loop-plan : goal.invariant-loop-plan
invariant-loop-plan g l =
    let dir = g.D.Dir.device l.layout.dir in
    let files = dir.file ∷ files_in g.F.Dir.device g.A.Dir.device l.sources in
    let before = take l.plan.reached l.visited in
    dir.is_honest → AreHonest g.F.Dir.device g.A.Dir.device l.sources → IsOpenedAsIs dir.file l.layout.graph l.layout.tags l.layout.opened
    → AreCorrupt dir.file l.layout.graph l.layout.opened.damaged l.fn.corrupt
    → IsWalking (lists_in files) (entry_keys (said l.layout.opened.content).entries) l.visited l.plan.reached
    × (l.plan.mends.items ≡ flat_map (λ k. mend_at k (place_in files k)) before)
    × (l.plan.missing.items ≡ flat_map (λ k. missing_at k (place_in files k)) before)

abbrev pub decreases-loop-plan : goal.decreases-loop-plan
decreases-loop-plan g l = 18446744073709551615 - l.plan.reached
