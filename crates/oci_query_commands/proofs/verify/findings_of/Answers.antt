use Rattle.std.proofs.Common.{◌≡◌, ℕ, List, map, filter, ap, ◌∙◌}
use Rattle.std.specs.Option.{option_copied}
use Rattle.std.specs.BTreeSet.{contains}
use Rattle.oci_layout_store.specs.Entries.{entry_of}
use Rattle.oci_layout_store.specs.declared.index.IndexEntry.{IndexEntry}
use Rattle.oci_manifest.specs.Descriptor.{Descriptor, is_among, key_cmp}
use Rattle.oci_query_commands.specs.Found.{shadowed_in}
use Rattle.oci_verify.specs.Corrupt.{is_asked}
use Rattle.oci_query_commands.proofs.Found.{asked_in, found_in_set}
use Rattle.oci_query_commands.proofs.Verified.{absent_are}
use Rattle.oci_query_commands.proofs.verify.findings_of.Goals as goal

pub returns-clause-found : goal.returns-clause-found
returns-clause-found g c =
    let layout = c.args.layout.now in
    let damaged = layout.opened.damaged in
    let test = is_asked (option_copied c.args.asked) in
    let set = c.in_ok-damaged.damaged in
    let among : (k : Descriptor) → contains key_cmp set k ≡ is_among damaged k = c.in_ok-damaged.ensures in
    record {
      absent = absent_are test set damaged c.absent.result.now layout.opened.absent _ among c.in_ok-keys_without.ensures c.absent.ensures;
      corrupt = c.in_ok-corrupt.ensures.corrupt;
      foreign = c.in_ok-corrupt_foreign.ensures;
      without_file = c.in_ok-open_key.ensures ∙ found_in_set layout.graph set damaged among (asked_in test layout.graph);
      shadowed = c.in_ok-tagged_among.ensures ∙ ap (filter (λ (t : List ℕ × Descriptor). test t.1)) (c.in_ok-shadowed.ensures ∙ ap (λ (entries : List IndexEntry). shadowed_in (map entry_of entries)) c.entries.ensures.entries);
      held = cc (c.saturating_add.ensures, c.count_held.ensures.count, c.count_among.ensures, c.damaged.ensures);
    }
