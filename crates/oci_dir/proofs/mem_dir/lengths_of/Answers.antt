use Rattle.std.proofs.Common.{◌≡◌, [], ◌∷◌, ◌++◌, append_assoc, append-nil, length, string_bytes, subst, sym, ◌∙◌}
use Rattle.std.proofs.lemmas.List.{map-append}
use Rattle.oci_dir.specs.Prunable.{by_name}
use Rattle.oci_dir.proofs.Listed.{lengths_of, ListsFiles-all}
use Rattle.oci_dir.proofs.mem_dir.lengths_of.Goals as goal

pub loop-path-preserved : goal.loop-path-preserved
loop-path-preserved c =
    let path = c.in-Some.path.now in
    let bytes = c.in-Some.bytes.now in
    let old = c.loop-path.found.items in
    let rest = lengths_of c.next.new.self in
    let left : c.loop-path.path-iterator ≡ (path, bytes) ∷ c.next.new.self = cc c.in-Some.ensures.steps in
    let text = c.in_ok-from_str.field-0 in
    let more : by_name c.push.new.self.items ≡ by_name old ++ (string_bytes path, length bytes) ∷ [] =
    rw c.in_ok-push.ensures.items (map-append _ old _ ∙ cc (c.in_ok-from_str.ensures.ok, c.as_str.ensures.value, c.len.ensures.value)) in
    rw more
    (append_assoc (by_name old) ((string_bytes path, length bytes) ∷ []) rest
    ∙ subst (λ fs. by_name old ++ lengths_of fs ≡ lengths_of c.args.files.now.entries) left c.loop-path.invariant)

pub returns : goal.returns
returns c =
    let files = c.args.files.now in
    let found = by_name c.loop-path.found.items in
    let are = subst (λ left. found ++ lengths_of left ≡ lengths_of files.entries) c.in-None.ensures.steps.0 c.loop-path.invariant in
    ListsFiles-all files found c.iter-path-items.ensures.found (sym (append-nil found) ∙ are)
