use Rattle.oci_store.specs.Graph.{nodes_of}
use Rattle.oci_store.proofs.Leaves.{closed_check-leaf, Matches-drafted}
use Rattle.test_support.proofs.device.DeviceStoreDest.push_draft.Goals as goal

pub into_content-requires-clause-matching : goal.into_content-requires-clause-matching
into_content-requires-clause-matching c = Matches-drafted c.args.key.now c.args.draft.bytes.items c.requires.matching

pub returns-clause-pushed : goal.returns-clause-pushed
returns-clause-pushed c bytes is matching = rw (← is) (rw c.in_ok-content.ensures at c.push_checked.ensures.pushed)

pub returns-clause-untouched : goal.returns-clause-untouched
returns-clause-untouched c =
    let k = c.args.key.now in
    let bytes = c.args.draft.bytes.items in
    let old = nodes_of c.args.self.now.0 in
    let m = Matches-drafted k bytes c.requires.matching in
    rw (← closed_check-leaf old k bytes c.requires.leaf m) (rw c.in_ok-content.ensures at c.push_checked.ensures.untouched)
