use Rattle.oci_store.specs.Graph.{nodes_of}
use Rattle.oci_store.specs.Content.{Matches}
use Rattle.oci_store.proofs.Leaves.{Answers-leaf, Matches-drafted}
use Rattle.oci_store.proofs.Checks.{IsPush-in_memory}
use Rattle.oci_store.proofs.memory.dest.MemoryStoreDest.push_draft.Goals as goal

pub returns-clause-pushed : goal.returns-clause-pushed
returns-clause-pushed c bytes is matching =
    let e = c.push_leaf.ensures in
    let k = c.args.key.now in
    let m : Matches k c.args.draft.bytes.items = rw is matching in
    rw (← is) (IsPush-in_memory ⊥ c.args.self.now c.push_leaf.new.self (k, c.args.draft.bytes.items) c.push_leaf.result e.pushed.place e.pushed.pushed e.pushed.refused
    (Answers-leaf c.push_leaf.result (nodes_of c.args.self.now.entries) k c.args.draft.bytes.items c.requires.leaf m e.checked.0) e.checked.1)

pub push_leaf-requires-clause-matching : goal.push_leaf-requires-clause-matching
push_leaf-requires-clause-matching c = Matches-drafted c.args.key.now c.args.draft.bytes.items c.requires.matching
