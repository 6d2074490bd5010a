-- The layout that a command opens to change it.
use Rattle.std.proofs.Common.{◌≡◌, List, sym, subst}
use Rattle.oci_dir.specs.Crash.{IsSettled, OnlySettles}
use Rattle.oci_dir.specs.Device.{Device}
use Rattle.oci_layout_store.specs.Index.{index_file, layout_file}
use Rattle.oci_layout_store.specs.Lasts.{Lasts}
use Rattle.oci_layout_store.specs.Layout.{LayoutState, OpenedIndex, SameMemory}
use Rattle.oci_layout_store.specs.Opened.{IsOpenedAsIs}
use Rattle.oci_store.specs.Content.{Entry}
use Rattle.oci_store.specs.Graph.{Node}
use Rattle.oci_store.specs.Tags.{Tags}
use Rattle.oci_program.specs.Opened.{IsOpenedSettled}

-- a layout that was opened and then settled
pub opened_settled : {D : Type 0} (device : D → Device) (dir : D) (before after : LayoutState D) → before.dir ≡ dir
    → ((device dir).is_honest → IsOpenedAsIs (device dir).file before.graph before.tags before.opened)
    → ((device before.dir).is_honest → IsSettled (device after.dir) layout_file × IsSettled (device after.dir) index_file)
    → OnlySettles (device before.dir) (device after.dir)
    → ((entries : List Entry) (tags : Tags) → Lasts (device before.dir) entries tags → Lasts (device after.dir) entries tags)
    → SameMemory before after → IsOpenedSettled device dir after
opened_settled {D} device dir before after same opened settled only lasts memory =
    let file = (device dir).file in
    let honest_before : (device dir).is_honest → (device before.dir).is_honest = subst (λ (d : D). (device d).is_honest) (sym same) in
    record {
      opened = λ honest.
          subst (λ (graph : List Node). IsOpenedAsIs file graph after.tags after.opened) (sym memory.graph)
          (subst (λ (tags : Tags). IsOpenedAsIs file before.graph tags after.opened) (sym memory.tags)
          (subst (λ (index : OpenedIndex). IsOpenedAsIs file before.graph before.tags index) (sym memory.opened) (opened honest)));
      version = λ honest. (settled (honest_before honest)).0;
      index = λ honest. (settled (honest_before honest)).1;
      only = subst (λ (d : D). OnlySettles (device d) (device after.dir)) same only;
      lasts = λ entries tags last. lasts entries tags (subst (λ (d : D). Lasts (device d) entries tags) (sym same) last);
    }
