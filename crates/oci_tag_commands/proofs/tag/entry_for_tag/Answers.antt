use Rattle.std.proofs.Common.{map, sym, ap, subst}
use Rattle.std.specs.List.{All}
use Rattle.std.proofs.lemmas.Result.{IfOk-weaker}
use Rattle.oci_layout_store.specs.Brought.{IsShallowEntry}
use Rattle.oci_layout_store.specs.Entries.{entry_of}
use Rattle.oci_tag_commands.proofs.Tagging.{entry_shallow}
use Rattle.oci_tag_commands.proofs.tag.entry_for_tag.Goals as goal

pub returns-clause-entry : goal.returns-clause-entry
returns-clause-entry g c = rw (c.entries.ensures.entries) at c.entry_of_reference.ensures

pub returns-clause-shallow : goal.returns-clause-shallow
returns-clause-shallow g c =
    IfOk-weaker c.entry_of_reference.result _ _
    (λ found is. entry_shallow c.entries.result.now (map entry_of found.items) c.args.reference.now c.args.tag.now c.args.key.now is (subst (All IsShallowEntry) (sym (ap (map entry_of) c.entries.ensures.entries)) c.entries.ensures.shallow))
    c.entry_of_reference.ensures
