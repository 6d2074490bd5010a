use Rattle.std.proofs.Common.{◌≡◌, ◌∷◌, subst}
use Rattle.oci_dir.specs.Prunable.{by_name}
use Rattle.oci_dir.proofs.Listed.{AreFound, AreFound-next, ListsFolder-found}
use Rattle.oci_dir.proofs.mem_dir.files_in.Goals as goal

pub loop-path-preserved : goal.loop-path-preserved
loop-path-preserved c =
    let folder = c.args.folder.now in
    let all = c.args.files.now.entries in
    let path = c.in-Some.path.now in
    let bytes = c.in-Some.bytes.now in
    let found = by_name c.loop-path.found.items in
    let left : c.loop-path.path-iterator ≡ (path, bytes) ∷ c.next.new.self = cc c.in-Some.ensures.steps in
    let before = subst (λ files. AreFound folder all found files) left c.loop-path.invariant in
    let step = rw (c.as_str.ensures.value, c.len.ensures.value) at c.in_ok-note_file.ensures in
    AreFound-next folder all found (by_name c.note_file.new.found.items) (path, bytes) c.next.new.self before step

pub returns : goal.returns
returns c =
    let folder = c.args.folder.now in
    let files = c.args.files.now in
    let found = by_name c.loop-path.found.items in
    let are = subst (λ left. AreFound folder files.entries found left) c.in-None.ensures.steps.0 c.loop-path.invariant in
    ListsFolder-found files folder found c.iter-path-items.ensures.found are
