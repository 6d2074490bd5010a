use Rattle.std.proofs.Common.{◌≡◌, false, sym, ◌∙◌}
use Rattle.std.specs.BTreeSet.{contains}
use Rattle.oci_manifest.specs.Descriptor.{key_cmp}
use Rattle.oci_layout_store.specs.Saved.{IsTop}
use Rattle.oci_layout_store.proofs.Loose.{new_added}
use Rattle.oci_layout_store.proofs.layout.loose.add_new.Goals as goal

pub returns : goal.returns
returns c =
    let key = c.args.key.now in
    new_added c.args.loose.now c.insert.new.self key c.in_ok-try_clone.field-0 (contains key_cmp c.args.tagged.now key ≡ false) (contains key_cmp c.args.unnamed.now key ≡ false) (IsTop c.args.graph.now key)
    c.in_ok-try_clone.ensures c.in_ok-insert.ensures.updates.0
    (sym c.contains.ensures ∙ c.if-contains.false) (sym c.contains-2.ensures ∙ c.if-contains-2.false) (c.in_ok-is_top.ensures.0 c.if-not-branch.false)
