use Rattle.std.proofs.lemmas.Str.{is_utf8-from_IsUtf8}
use Rattle.oci_layout_store.proofs.Texts.{depth-index}
use Rattle.oci_layout_store.proofs.index.write.index_text.Goals as goal

pub returns : goal.returns
returns c =
    let bytes = c.in_ok-to_vec.field-0.items in
    let e = rw c.in_ok-value.ensures at c.in_ok-to_vec.ensures in
    let utf8 = is_utf8-from_IsUtf8 bytes c.in_ok-to_vec.ensures.utf8 in
    record {
      text = e.text;
      read = rw utf8 (e.reads_back (depth-index _ c.requires));
    }
