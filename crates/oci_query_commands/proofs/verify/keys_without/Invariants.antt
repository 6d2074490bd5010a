use Rattle.std.proofs.Common.{◌≡◌, ◌&&◌, map, not, take, Bor}
use Rattle.std.specs.Prelude.{filter}
use Rattle.std.specs.BTreeSet.{contains}
use Rattle.std.specs.Option.{option_copied}
use Rattle.oci_manifest.specs.Descriptor.{Descriptor, key_cmp}
use Rattle.oci_verify.specs.Corrupt.{is_asked}
use Rattle.oci_query_commands.proofs.verify.keys_without.Given as goal

-- as far as the loop has come
abbrev pub invariant-loop-key : goal.invariant-loop-key
invariant-loop-key l = map (λ (k : Bor Descriptor). k.now) l.others.items ≡ filter (λ (k : Descriptor). is_asked (option_copied l.asked) k && not (contains key_cmp l.damaged k)) (take l.key-index l.keys)
