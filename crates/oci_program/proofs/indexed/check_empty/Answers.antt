use Rattle.std.proofs.Common.{◌≡◌, ℕ, List, [], String, Global, sym, subst, ◌∙◌, arith}
use Rattle.std.specs.Vec.{vec_len}
use Rattle.std.proofs.lemmas.Bool.{eqb-true}
use Rattle.oci_dir.specs.Prunable.{ListsFolder, by_name}
use Rattle.oci_layout_store.proofs.Loose.{empty_list}
use Rattle.oci_program.proofs.Indexing.{no_names, not_both, not_empty}
use Rattle.oci_program.proofs.indexed.check_empty.Goals as goal

pub returns-then-is_empty-clause-empty : goal.returns-then-is_empty-clause-empty
returns-then-is_empty-clause-empty g c = λ honest.
    let files = c.in-Ok.files in
    let none : files.items ≡ [] = empty_list files.items (let e = eqb-true (vec_len files) 0 (sym c.is_empty.ensures ∙ c.if-is_empty.true) in omega (arith, e, files.ok.0)) in
    subst (λ (fs : List (String Global × ℕ)). ListsFolder (g.D.Dir.device c.args.dir.now).file c.args.folder.now (by_name fs)) none (c.in-Ok.ensures.found honest)

pub returns-in-Ok-clause-cause : goal.returns-in-Ok-clause-cause
returns-in-Ok-clause-cause g c = λ honest empty.
    let files = c.in-Ok.files in
    let none = not_both (g.D.Dir.device c.args.dir.now).file c.args.folder.now (by_name files.items) (c.in-Ok.ensures.found honest) empty in
    not_empty files.items (vec_len files) c.is_empty.result (omega (arith, files.ok.0)) c.is_empty.ensures c.if-is_empty.false (no_names files.items none)
