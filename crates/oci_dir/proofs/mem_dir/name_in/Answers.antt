use Rattle.std.proofs.Common.{codes, sym, subst, ◌∙◌}
use Rattle.oci_dir.specs.Prunable.{IsName}
use Rattle.oci_dir.proofs.Listed.{path-none, path-rest, path-name, name-same, stripped}
use Rattle.oci_dir.proofs.mem_dir.name_in.Goals as goal

pub returns-in_default : goal.returns-in_default
returns-in_default c name is_name is = path-none c.args.path.now c.args.folder.now (λ rest. c.in_default.ensures.cases rest) name is

pub returns-in_default-strip_prefix : goal.returns-in_default-strip_prefix
returns-in_default-strip_prefix c name is_name is =
    let split = stripped c.args.path.now c.args.folder.now c.in-Some.rest.now c.in-Some.ensures.cases in
    c.in_default-strip_prefix.ensures.cases name (path-rest c.args.path.now c.args.folder.now c.in-Some.rest.now name split is)

pub returns-then-is_name : goal.returns-then-is_name
returns-then-is_name c =
    let name = c.in-Some-strip_prefix.name.now in
    let split = stripped c.args.path.now c.args.folder.now c.in-Some.rest.now c.in-Some.ensures.cases in
    let slash = stripped c.in-Some.rest.now (codes "/") name c.in-Some-strip_prefix.ensures.cases in
    let is : IsName name = c.is_name.ensures.0 c.if-is_name.true in
    (is, path-name c.args.path.now c.args.folder.now c.in-Some.rest.now name split slash)

pub returns-else-is_name : goal.returns-else-is_name
returns-else-is_name c other is_name is =
    let name = c.in-Some-strip_prefix.name.now in
    let split = stripped c.args.path.now c.args.folder.now c.in-Some.rest.now c.in-Some.ensures.cases in
    let slash = stripped c.in-Some.rest.now (codes "/") name c.in-Some-strip_prefix.ensures.cases in
    let same = name-same c.args.folder.now other name (sym is ∙ path-name c.args.path.now c.args.folder.now c.in-Some.rest.now name split slash) in
    cc (c.is_name.ensures.1 (subst IsName same is_name), c.if-is_name.false)
