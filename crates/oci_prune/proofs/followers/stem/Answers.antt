use Rattle.oci_prune.proofs.Stems.{stem_before, stem_whole}
use Rattle.std.proofs.lemmas.Str.Pattern.{split_parts}
use Rattle.std.proofs.Common.{lit<}
use Rattle.oci_prune.proofs.followers.stem.Goals as goal

pub returns-in-Some : goal.returns-in-Some
returns-in-Some c =
    let parts = rw c.in-Some.is at (split_parts 46 c.args.name.now c.split_once.result c.split_once.ensures.cases (lit< tt)) in
    stem_before c.args.name.now c.in-Some.stem.now _ parts.0 parts.1

pub returns-in-None : goal.returns-in-None
returns-in-None c =
    let parts = rw c.in-None.is at (split_parts 46 c.args.name.now c.split_once.result c.split_once.ensures.cases (lit< tt)) in
    stem_whole c.args.name.now parts
