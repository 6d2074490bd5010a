use Rattle.std.proofs.Common.{subst}
use Rattle.oci_store.specs.Content.{Entry}
use Rattle.oci_store.specs.Graph.{nodes_of}
use Rattle.oci_store.specs.Push.{IsPush}
use Rattle.oci_store.proofs.Leaves.{closed_check-leaf, Matches-drafted}
use Rattle.oci_live.specs.Live.{state_of}
use Rattle.oci_live.proofs.live_store.dest.LiveStoreDest.push_draft.Goals as goal

pub into_content-requires-clause-matching : goal.into_content-requires-clause-matching
into_content-requires-clause-matching g c = Matches-drafted c.args.key.now c.args.draft.bytes.items c.requires.matching

pub returns-clause-pushed : goal.returns-clause-pushed
returns-clause-pushed g c bytes is matching =
    let Pushed : Entry → Type 0 = λ e. IsPush ⊥ (state_of c.args.self.now) (state_of c.push_checked.new.self) e c.push_checked.result in
    rw (← is) (subst Pushed c.in_ok-content.ensures c.push_checked.ensures.pushed)

pub returns-clause-untouched : goal.returns-clause-untouched
returns-clause-untouched g c =
    let k = c.args.key.now in
    let bytes = c.args.draft.bytes.items in
    let old = nodes_of c.args.self.now.entries in
    let m = Matches-drafted k bytes c.requires.matching in
    rw (← closed_check-leaf old k bytes c.requires.leaf m) (rw c.in_ok-content.ensures at c.push_checked.ensures.untouched)
