use Rattle.std.proofs.Common.{◌≡◌, take, map}
use Rattle.std.specs.Borrow.{Bor}
use Rattle.std.specs.Map.{keys_of}
use Rattle.oci_manifest.specs.Descriptor.{Descriptor}
use Rattle.oci_tag_commands.proofs.mem.sorted_keys.Given as goal

-- the keys so far
abbrev pub invariant-loop-place : goal.invariant-loop-place
invariant-loop-place l = map (λ (k : Bor Descriptor). k.now) l.keys.items ≡ keys_of (take l.place l.store.entries)
