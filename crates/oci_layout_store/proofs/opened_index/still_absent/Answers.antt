use Rattle.std.proofs.Common.{◌∙◌, List, map, ap}
use Rattle.std.proofs.lemmas.Result.{IfOk-weaker}
use Rattle.oci_manifest.specs.Descriptor.{Descriptor, is_among}
use Rattle.oci_layout_store.specs.Brought.{staying}
use Rattle.oci_layout_store.specs.Entries.{entry_keys, entry_of}
use Rattle.oci_layout_store.proofs.Brought.{still_by}
use Rattle.oci_layout_store.proofs.opened_index.still_absent.Goals as goal

pub returns : goal.returns
returns c =
    let old = map entry_of c.args.old.now in
    let stay = staying c.args.each (map entry_of c.args.names.now) old in
    let same = still_by c.in_ok-stay.stay c.in_ok-listed.listed (entry_keys stay) (entry_keys old) c.args.absent.items
    (λ k. c.in_ok-stay.ensures k ∙ ap (λ (ks : List Descriptor). is_among ks k) (c.deref.ensures.value ∙ c.in_ok-staying_keys.ensures))
    (λ k. c.in_ok-listed.ensures k ∙ ap (λ (ks : List Descriptor). is_among ks k) (c.deref-2.ensures.value ∙ c.in_ok-keys_of.ensures)) in
    IfOk-weaker c.remaining.result _ _ (λ still found. found ∙ same) c.remaining.ensures
