use Rattle.std.proofs.Common.{List, take, map, ◌+◌, subst}
use Rattle.std.proofs.lemmas.List.{take_all}
use Rattle.oci_layout_store.specs.declared.index.IndexEntry.{IndexEntry}
use Rattle.oci_layout_store.specs.Entries.{entry_of}
use Rattle.oci_layout_store.specs.Saved.{unnamed_keys}
use Rattle.oci_layout_store.proofs.Loose.{HasKeys, HasKeys-nil, HasKeys-unnamed, entries-more}
use Rattle.oci_layout_store.proofs.layout.loose.unnamed_keys.Goals as goal

pub loop-entry-init : goal.loop-entry-init
loop-entry-init c = HasKeys-nil c.new-unnamed.result c.new-unnamed.ensures.empty

pub loop-entry-preserved : goal.loop-entry-preserved
loop-entry-preserved c =
    let i = c.loop-entry.entry-index in
    let entries = c.args.entries.now in
    let entry = c.entry-item.result in
    HasKeys-unnamed c.loop-entry.unnamed c.add_unnamed.new.unnamed (map entry_of (take i entries)) (map entry_of (take (i + 1) entries)) (entry_of entry) c.loop-entry.invariant
    (entries-more entries i entry c.loop-entry-test.true c.entry-item.is) c.in_ok-add_unnamed.ensures

pub returns : goal.returns
returns c =
    subst (λ (entries : List IndexEntry). HasKeys c.loop-entry.unnamed (unnamed_keys (map entry_of entries))) (take_all c.loop-entry.entry-index c.args.entries.now c.loop-entry-test.false) c.loop-entry.invariant
