use Rattle.std.proofs.Common.{◌≡◌, ◌++◌, rules, sym, subst}
use Rattle.oci_digest.specs.Digest.{IsDigest}
use Rattle.oci_layout_store.proofs.layout.prune.digest_named.Goals as goal

pub returns : goal.returns
returns c is =
    let text : c.deref.result.now ≡ c.args.algorithm.now ++ c.args.name.now = search rules in
    let ok = c.in-Err.ensures.ok.1 (subst IsDigest (sym text) is) in
    cc ok
