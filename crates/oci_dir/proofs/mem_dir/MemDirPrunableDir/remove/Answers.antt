use Rattle.std.proofs.Common.{None, refl}
use Rattle.std.proofs.lemmas.Map.Text.{btree_map_updates_text}
use Rattle.oci_dir.specs.Memory.{files_of}
use Rattle.oci_dir.proofs.Memory.{memory_removed}
use Rattle.oci_dir.proofs.mem_dir.MemDirPrunableDir.remove.Goals as goal

pub returns-clause-removal : goal.returns-clause-removal
returns-clause-removal c =
    let d = c.args.self.now in
    let removes = btree_map_updates_text c.args.path.now d.files c.remove-removed.new.self None c.remove-removed.ensures.updates in
    record {
      removed = λ honest q. removes q;
      found = λ honest. (rw c.remove-removed.ensures.value at c.is_some.ensures);
      refused = tt;
      left = λ honest q x is. memory_removed (files_of d.files) (files_of c.remove-removed.new.self) (files_of d.settled) (files_of d.torn) c.args.path.now removes q x is;
      draft = λ honest q. refl;
      failed = λ e. cc e;
      device = record { honest = (λ h. h, λ h. h); link = refl; reads = refl; failures = refl };
    }
