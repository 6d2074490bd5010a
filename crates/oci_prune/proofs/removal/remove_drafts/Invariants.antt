use Rattle.std.proofs.Common.{◌≡◌, List, None, length, take}
use Rattle.oci_layout_store.specs.Lasts.{Lasts}
use Rattle.oci_dir.specs.Prunable.{by_name}
use Rattle.oci_prune.specs.Pruned.{flagged, AreDraftsGone, IsDraftIn, IsNone, Removal, RemovesDrafts}
use Rattle.oci_store.specs.Content.{Entry}
use Rattle.oci_store.specs.Tags.{Tags}
use Rattle.oci_prune.proofs.removal.remove_drafts.Given as goal

-- as far as the loop has come
abbrev pub invariant-loop-place : goal.invariant-loop-place
invariant-loop-place g l = record {
  removal : Removal g.D.Dir.device l.initial.layout l.layout IsNone (IsDraftIn (by_name (take l.place l.drafts))) l.initial.fault l.fault;
  removed : l.fault ≡ None → (g.D.Dir.device l.initial.layout.dir).is_honest → AreDraftsGone (g.D.Dir.device l.layout.dir).draft (by_name (take l.place l.drafts));
  flags : (g.D.Dir.device l.initial.layout.dir).is_honest → RemovesDrafts (g.D.Dir.device l.initial.layout.dir).draft (g.D.Dir.device l.layout.dir).draft (flagged (by_name (take l.place l.drafts)) l.gone.items);
  noted : length l.gone.items ≡ length l.drafts;
  lasts : (entries : List Entry) (tags : Tags) → Lasts (g.D.Dir.device l.initial.layout.dir) entries tags → Lasts (g.D.Dir.device l.layout.dir) entries tags;
}
