use Rattle.std.proofs.Common.{None, refl}
use Rattle.std.proofs.lemmas.Map.Text.{btree_map_updates_text}
use Rattle.oci_dir.specs.Memory.{files_of}
use Rattle.oci_dir.proofs.Memory.{memory_no_more, memory_settled}
use Rattle.oci_dir.proofs.mem_dir.MemDir.settle_file.Goals as goal

pub returns-clause-only : goal.returns-clause-only
returns-clause-only c =
    let d = c.args.self.now in
    let path = c.args.path.now in
    let copied = files_of c.copy_file.new.others in
    let torn = files_of c.remove.new.self in
    let removes = btree_map_updates_text path d.torn c.remove.new.self None c.remove.ensures.updates in
    record {
      files = λ h q. refl;
      draft = λ h q. refl;
      no_more = λ h q x is. memory_no_more (files_of d.files) (files_of d.settled) copied (files_of d.torn) torn path c.in_ok-copy_file.ensures.same c.copy_file.ensures.other removes q x is;
      honest = (λ h. h, λ h. h);
      link = refl;
      reads = refl;
      failures = refl;
    }

pub returns-clause-settled : goal.returns-clause-settled
returns-clause-settled c = λ x is.
    let d = c.args.self.now in
    let path = c.args.path.now in
    memory_settled (files_of d.files) (files_of c.copy_file.new.others) (files_of d.torn) (files_of c.remove.new.self) path c.in_ok-copy_file.ensures.same
    (btree_map_updates_text path d.torn c.remove.new.self None c.remove.ensures.updates) x is
