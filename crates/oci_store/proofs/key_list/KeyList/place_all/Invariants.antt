use Rattle.std.proofs.Common.{◌≡◌, drop}
use Rattle.oci_store.specs.Visiting.{with_keys}
use Rattle.oci_store.proofs.key_list.KeyList.place_all.Given as goal

abbrev pub invariant-loop-key : goal.invariant-loop-key
invariant-loop-key l = with_keys l.self (drop l.key-index l.keys) ≡ with_keys l.fn.self l.keys
