use Rattle.std.proofs.Common.{None, refl}
use Rattle.std.proofs.lemmas.Map.Text.{btree_map_updates_text}
use Rattle.oci_dir.proofs.mem_dir.MemDirPrunableDir.remove_draft.Goals as goal

pub returns-clause-removal : goal.returns-clause-removal
returns-clause-removal c = record {
  removed = λ honest q. btree_map_updates_text c.args.path.now c.args.self.now.drafts c.remove-removed.new.self None c.remove-removed.ensures.updates q;
  found = λ honest. (rw c.remove-removed.ensures.value at c.is_some.ensures);
  refused = tt;
  files = λ honest q. refl;
  left = λ honest q x is. is;
  failed = λ e. cc e;
  device = record { honest = (λ h. h, λ h. h); link = refl; reads = refl; failures = refl };
}
