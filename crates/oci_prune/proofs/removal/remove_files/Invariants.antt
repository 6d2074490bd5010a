use Rattle.std.proofs.Common.{◌≡◌, List, None, length, map, take}
use Rattle.oci_dir.specs.Device.{Same}
use Rattle.oci_layout_store.specs.Lasts.{Lasts}
use Rattle.oci_prune.specs.Pruned.{is_gone, AllAmong, IsGone, IsOfNoEntry, IsPathAmong, Removal}
use Rattle.oci_store.specs.Content.{Entry}
use Rattle.oci_store.specs.Tags.{Tags}
use Rattle.oci_prune.proofs.removal.remove_files.Given as goal

-- as far as the loop has come
abbrev pub invariant-loop-place : goal.invariant-loop-place
invariant-loop-place g l = record {
  removal : Removal g.D.Dir.device l.initial.layout l.layout (IsPathAmong l.are_held (take l.place l.files)) (IsPathAmong l.are_held (take l.place l.files)) l.initial.fault l.fault;
  removed : l.fault ≡ None → (g.D.Dir.device l.initial.layout.dir).is_honest → AllAmong l.are_held (IsGone (g.D.Dir.device l.layout.dir).file) (take l.place l.files);
  flags : (g.D.Dir.device l.initial.layout.dir).is_honest → l.initial.gone.items ≡ map (is_gone (g.D.Dir.device l.initial.layout.dir).file) l.files → l.gone.items ≡ map (is_gone (g.D.Dir.device l.layout.dir).file) l.files;
  drafts : (g.D.Dir.device l.initial.layout.dir).is_honest → Same (g.D.Dir.device l.initial.layout.dir).draft (g.D.Dir.device l.layout.dir).draft;
  noted : length l.gone.items ≡ length l.files;
  lasts : (entries : List Entry) (tags : Tags) → AllAmong l.are_held (IsOfNoEntry entries) l.files → Lasts (g.D.Dir.device l.initial.layout.dir) entries tags → Lasts (g.D.Dir.device l.layout.dir) entries tags;
}
