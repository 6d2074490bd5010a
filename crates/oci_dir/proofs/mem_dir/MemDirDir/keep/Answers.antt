use Rattle.std.proofs.Common.{ℕ, List, subst, ◌∙◌}
use Rattle.oci_dir.specs.Crash.{OldOrNew}
use Rattle.oci_dir.specs.Memory.{device_of}
use Rattle.oci_dir.proofs.mem_dir.MemDirDir.keep.Goals as goal

pub returns-then-contains_key-clause-left : goal.returns-then-contains_key-clause-left
returns-then-contains_key-clause-left c =
    let replaced = c.replace.ensures.replaced in
    record {
      other = replaced.other tt;
      over = λ there bytes is. subst (λ (bs : List ℕ). OldOrNew (device_of c.args.self.now) (device_of c.replace.new.self) c.args.path.now bs)
          (c.deref.ensures.value ∙ c.into_bytes-bytes.ensures ∙ is) (replaced.left tt);
    }
