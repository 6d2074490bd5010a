use Rattle.std.proofs.Common.{List, map, sym, subst}
use Rattle.std.specs.List.{All}
use Rattle.oci_layout_store.specs.Entries.{IndexEntry, entry_of}
use Rattle.oci_layout_store.proofs.SavedAll.{all_saved, anything}
use Rattle.oci_layout_store.proofs.Texts.{IsShallowEntry, shallow-new}
use Rattle.oci_layout_store.proofs.index.IndexContent.saved_text.Goals as goal

pub index_text-requires : goal.index_text-requires
index_text-requires c =
    let saved = c.in_ok-entries.ensures in
    let shallow = c.self.invariant in
    let opened : All IsShallowEntry (map entry_of c.deref.result.now) = rw c.deref.ensures.value shallow.entries in
    let written = subst (λ (es : List IndexEntry). All IsShallowEntry es) (sym saved.2)
    (all_saved IsShallowEntry (λ k. Unit {0}) (λ k name any. shallow-new k name) c.args.absent.now (map entry_of c.deref.result.now) c.args.graph.now c.args.tags.now saved.0 opened (anything _) (anything _)) in
    record { entries = written; members = shallow.members }
