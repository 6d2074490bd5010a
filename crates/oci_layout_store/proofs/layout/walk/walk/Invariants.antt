use Rattle.std.proofs.Common.{◌≡◌, ◌-◌, true, take}
use Rattle.std.specs.List.{All, filter}
use Rattle.oci_manifest.specs.Descriptor.{Descriptor}
use Rattle.oci_layout_store.specs.Opened.{IsGood, held_in, holds, is_damaged}
use Rattle.oci_layout_store.specs.Stated.{AreStated}
use Rattle.oci_layout_store.proofs.Walk.{IsWalking}
use Rattle.oci_layout_store.proofs.layout.walk.walk.Given as goal

abbrev pub invariant-loop-place : goal.invariant-loop-place
invariant-loop-place g l = (g.D.Dir.device l.dir).is_honest
    → IsWalking l.as_is (g.D.Dir.device l.dir).file l.starts l.visited l.place
    × (l.held.graph ≡ held_in l.as_is (g.D.Dir.device l.dir).file (take l.place l.visited))
    × (l.damaged.items ≡ filter (is_damaged l.as_is (g.D.Dir.device l.dir).file) (take l.place l.visited))
    × All (λ (k : Descriptor). holds l.as_is (g.D.Dir.device l.dir).file k ≡ true → IsGood (g.D.Dir.device l.dir).file k) (take l.place l.visited)
    × AreStated (g.D.Dir.device l.dir).file l.held.graph l.held.stated

abbrev pub decreases-loop-place : goal.decreases-loop-place
decreases-loop-place g l = 18446744073709551615 - l.place
