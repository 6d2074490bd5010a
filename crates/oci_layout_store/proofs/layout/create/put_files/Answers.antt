use Rattle.std.proofs.Common.{◌∷◌, [], map, string_bytes}
use Rattle.oci_layout_store.specs.Entries.{no_content}
use Rattle.oci_layout_store.specs.Index.{layout_file, layout_text, index_file, index_value, IsCompact}
use Rattle.oci_layout_store.specs.Settled.{PutsSettled}
use Rattle.oci_layout_store.proofs.Created.{two_put, two_settled}
use Rattle.oci_layout_store.proofs.layout.create.put_files.Goals as goal

pub returns-clause-files : goal.returns-clause-files
unfolding layout_file layout_text index_file
returns-clause-files g c =
    let old = g.D.Dir.device c.args.dir.now in
    let mid = g.D.Dir.device c.put_settled.new.dir in
    let new = g.D.Dir.device c.put_settled-2.new.dir in
    let bytes = c.in_ok-index.index.items in
    let compact : IsCompact bytes (index_value no_content) = c.in_ok-index.ensures in
    let second = map string_bytes c.in_ok-both.both.items in
    let two : PutsSettled mid new index_file bytes second c.put_settled-2.result = rw (c.deref-2.ensures.value, c.deref-3.ensures.value) at c.put_settled-2.ensures in
    two_put old mid new bytes _ second c.put_settled-2.result c.in_ok-put_settled.ensures two compact

pub returns-clause-settled : goal.returns-clause-settled
unfolding layout_file layout_text index_file
returns-clause-settled g c =
    let old = g.D.Dir.device c.args.dir.now in
    let mid = g.D.Dir.device c.put_settled.new.dir in
    let new = g.D.Dir.device c.put_settled-2.new.dir in
    let bytes = c.in_ok-index.index.items in
    let second = map string_bytes c.in_ok-both.both.items in
    let two : PutsSettled mid new index_file bytes second c.put_settled-2.result = rw (c.deref-2.ensures.value, c.deref-3.ensures.value) at c.put_settled-2.ensures in
    two_settled old mid new layout_text bytes _ second (layout_file ∷ index_file ∷ []) c.put_settled-2.result c.in_ok-both.ensures c.in_ok-put_settled.ensures two
