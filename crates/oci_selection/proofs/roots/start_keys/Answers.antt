use Rattle.std.proofs.Common.{map}
use Rattle.std.proofs.lemmas.Result.{IfOk-weaker}
use Rattle.oci_store.specs.Tags.{by_bytes}
use Rattle.oci_layout_store.specs.Entries.{entry_of}
use Rattle.oci_selection.specs.Selected.{named_keys}
use Rattle.oci_selection.proofs.Selections.{started}
use Rattle.oci_selection.proofs.roots.start_keys.Goals as goal

pub returns : goal.returns
returns c =
    IfOk-weaker c.both.result _ _
    (λ keys is. started (named_keys (by_bytes c.args.tags.now) (map entry_of c.args.named.now)) c.in_ok-named.named.items c.args.untagged.now keys.items c.in_ok-named.ensures is)
    (rw c.deref.ensures.value at c.both.ensures)
